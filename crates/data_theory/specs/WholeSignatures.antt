-- What each signature keeps.
use Rattle.std.specs.Prelude.{◌≡◌, ◌<◌, ℕ, List, length, map, Some, IsSome, slice_get}
use Rattle.std.specs.List.{All, Contains}
use Rattle.data_theory.specs.declared.ids.NameId.{NameId}
use Rattle.data_theory.specs.declared.ids.SortId.{SortId}
use Rattle.data_theory.specs.declared.ids.FunId.{FunId}
use Rattle.data_theory.specs.Places.{HaveOnePlace}
use Rattle.data_theory.specs.Sorts.{SortInfo, IsListOver}
use Rattle.data_theory.specs.SortNames.{IsSortName}
use Rattle.data_theory.specs.Functions.{Function}
use Rattle.data_theory.specs.declared.rows.Row.{Row}
use Rattle.data_theory.specs.Rows.{built_in}
use Rattle.data_theory.specs.Table.{sort_rows, list_rows}
use Rattle.data_theory.specs.FirstNames.{first_names}
use Rattle.data_theory.specs.Signature.{Sig, IsTaken}
use Rattle.data_theory.specs.Complete.{IsComplete}
use Rattle.data_theory.specs.IdSorts.{IsDeclaredKind}
use Rattle.data_theory.specs.IdTables.{IsTable}
use Rattle.data_theory.specs.IdData.{constructors_of}
use Rattle.data_theory.specs.IdRoles.{AreRoles}

-- a declared sort has a name
abbrev pub HasItsName : SortInfo → Type 0
HasItsName s = IsDeclaredKind s.kind → IsSome s.name

-- the constructors of a sort are among the declared functions
abbrev pub HasDeclaredConstructors : List FunId → SortInfo → Type 0
HasDeclaredConstructors declared s = All (Contains declared) (constructors_of s.kind)

-- the functions of these rows are there
abbrev pub AreThere : List (List ℕ) → List Function → List Row → Type 0
AreThere texts fs rows = All (λ r. Contains fs (built_in texts r)) rows

-- a sort has all functions over it, and a list sort those over it and its element
pub record HaveTheirRows (texts : List (List ℕ)) (ss : List SortInfo) (fs : List Function) : Type 0 where
  pub over_sorts : (s : SortId) → s.0 < length ss → AreThere texts fs (sort_rows s)
  pub over_lists : (e l : SortId) → IsListOver ss e l → AreThere texts fs (list_rows e l)

-- the first name of a declared sort leads to it
abbrev pub LeadToTheirSorts : List SortInfo → List (NameId × SortId) → Type 0
LeadToTheirSorts ss names = (i : SortId) (s : SortInfo) (n : NameId) → slice_get ss i.0 ≡ Some s → s.name ≡ Some n → IsSortName names n i

-- What each signature keeps. Nothing is missing, its tables are those of the language, and each sort has its functions. The
-- words that are no identifiers, the names of its functions and the names of its sorts are taken. The names of sorts differ, a
-- declared sort has one, and its first one leads to it. Actions differ. Constructors are declared, and the roles of functions hold.
pub record IsSignature (g : Sig) : Type 0 where
  pub complete : IsComplete g
  pub table : IsTable g
  pub rows : HaveTheirRows g.texts g.sorts g.functions
  pub words_taken : All (IsTaken g) first_names
  pub functions_taken : All (λ (f : Function). Contains g.taken f.name) g.functions
  pub sorts_taken : All (λ (e : NameId × SortId). Contains g.taken e.0) g.sort_names
  pub sort_names_differ : HaveOnePlace (map (λ (e : NameId × SortId). e.0) g.sort_names)
  pub sorts_named : All HasItsName g.sorts
  pub first_names_lead : LeadToTheirSorts g.sorts g.sort_names
  pub actions_differ : HaveOnePlace g.actions
  pub constructors_declared : All (HasDeclaredConstructors g.declared) g.sorts
  pub roles : AreRoles g
