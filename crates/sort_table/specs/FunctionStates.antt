-- How far the functions of a text have come into a signature.
use Rattle.std.specs.Prelude.{◌≡◌, ◌+◌, ◌⊎◌, ℕ, List, [], ◌∷◌, ◌++◌, length, Some, slice_get}
use Rattle.std.specs.List.{Contains, AllByRecursion, flat_map}
use Rattle.data_theory.specs.declared.ids.SortId.{SortId}
use Rattle.data_theory.specs.declared.ids.FunId.{FunId}
use Rattle.data_theory.specs.Sorts.{SortInfo, structured, IsListOver, IsBare}
use Rattle.data_theory.specs.Places.{HaveOnePlace}
use Rattle.data_theory.specs.Signature.{Sig}
use Rattle.sort_table.specs.Expressions.{Name}
use Rattle.sort_table.specs.BareSorts.{SortExpression, a_name}
use Rattle.sort_table.specs.BareDeclarations.{Constructor, Declaration, struct, constructors, mappings}
use Rattle.sort_table.specs.SortMeanings.{UnderNames, StandForEach}
use Rattle.sort_table.specs.TextFunctions.{TextRole, declared_constructor, mapping, Named, functions_by, functions_in}
use Rattle.sort_table.specs.Duplicates.{SameSorts, IsBuiltIn}
use Rattle.sort_table.specs.NamedSorts.{HaveSortNames, IsNamed, sort_names_of, sort_count}
use Rattle.sort_table.specs.EnteredFunctions.{HasSortOf, IsReadable, IsKnownName, IsReadyConstructor, AreEntered, Keeps}

-- no function is declared twice, and none is built in
pub record FunctionsDiffer (u : UnderNames) (fs : List Named) : Type 0 where
  pub once : (i j : ℕ) (f g : Named) → slice_get fs i ≡ Some f → slice_get fs j ≡ Some g → f.0 ≡ g.0 → SameSorts u f.1.arguments g.1.arguments → i ≡ j
  pub new : (i : ℕ) (f : Named) (rs : List SortExpression) → slice_get fs i ≡ Some f → StandForEach u f.1.arguments rs → ¬ (IsBuiltIn f.0 rs)

-- the names of structs
abbrev pub struct_name : Declaration → List Name
struct_name (struct n cs) = n ∷ []
struct_name _ = []

-- a sort is a struct
abbrev pub IsStructured : Sig → SortId → Type 0
IsStructured g s = (t : SortInfo) × (cs : List FunId) × (slice_get g.sorts s.0 ≡ Some t) × (t.kind ≡ structured cs)

-- ---- places
abbrev pub StandsFrom : List Named → ℕ → List Named → Type 0
StandsFrom all k fs = (i : ℕ) (f : Named) → slice_get fs i ≡ Some f → slice_get all (k + i) ≡ Some f

abbrev pub StartsWith : List Named → List Named → Type 0
StartsWith all fs = (i : ℕ) (f : Named) → slice_get fs i ≡ Some f → slice_get all i ≡ Some f

-- Of all functions of the text those in front are entered, and the new ones come next.
pub record IsNext (u : UnderNames) (all done new : List Named) (g : Sig) : Type 0 where
  pub names : HaveSortNames u (sort_names_of g) (sort_count g)
  pub differ : FunctionsDiffer u all
  pub entered : AreEntered done g
  pub front : StartsWith all done
  pub places : StandsFrom all (length done) new

pub record CanEnter (g : Sig) (new : List Named) : Type 0 where
  pub under : UnderNames
  pub all : List Named
  pub done : List Named
  pub next : IsNext under all done new g

-- functions are entered behind the others
pub record AddsFunctions (new : List Named) (g h : Sig) : Type 0 where
  pub keeps : Keeps g h
  pub entered : (done : List Named) → AreEntered done g → AreEntered (done ++ new) h

-- a function of a `cons` or of a `map`
pub data IsPlain : TextRole → Type 0 where
  plain_cons : IsPlain declared_constructor
  plain_map : IsPlain mapping

-- the sorts stay what they were
abbrev pub KeepsSorts : Sig → Sig → Type 0
KeepsSorts g h = (s : SortId) (t : SortInfo) → slice_get g.sorts s.0 ≡ Some t → slice_get h.sorts s.0 ≡ Some t

-- the list sorts are the same
abbrev pub KeepsLists : Sig → Sig → Type 0
KeepsLists g h = (e l : SortId) → IsListOver h.sorts e l → IsListOver g.sorts e l

-- a struct is entered: its sort gets the constructors, and no other sort changes
pub record AddsStruct (n : Name) (cs : List Constructor) (g h : Sig) : Type 0 where
  pub adds : AddsFunctions (functions_by (struct n cs)) g h
  pub made : (s : SortId) × HasSortOf h (a_name n) s × IsStructured h s
  pub sorts : (s : SortId) (t : SortInfo) → slice_get g.sorts s.0 ≡ Some t → (slice_get h.sorts s.0 ≡ Some t) ⊎ HasSortOf h (a_name n) s
  pub lists : KeepsLists g h

-- ---- declarations
-- what the entry of a declaration's functions needs
abbrev pub IsReadyDeclaration : Sig → Declaration → Type 0
IsReadyDeclaration g (struct n cs) = IsNamed g n × AllByRecursion (IsReadyConstructor g) cs
IsReadyDeclaration g (constructors fs es to) = AllByRecursion (IsKnownName g) fs × AllByRecursion (IsReadable g) es × IsReadable g to
IsReadyDeclaration g (mappings fs es to) = AllByRecursion (IsKnownName g) fs × AllByRecursion (IsReadable g) es × IsReadable g to
IsReadyDeclaration g _ = Unit {0}

abbrev pub structs_in : List Declaration → List Name
structs_in ds = flat_map struct_name ds

-- the name's sort has no constructors
abbrev pub HasBareSort : Sig → Name → Type 0
HasBareSort g n = (s : SortId) × HasSortOf g (a_name n) s × IsBare g.sorts s

-- the structs of these declarations have got no constructors yet
abbrev pub AreBare : Sig → List Declaration → Type 0
AreBare g ds = (n : Name) → Contains (structs_in ds) n → HasBareSort g n

-- different structs have different sorts, and no name is that of two
pub record StructsDiffer (ds : List Declaration) (g : Sig) : Type 0 where
  pub names : HaveOnePlace (structs_in ds)
  pub sorts : (n m : Name) (s : SortId) → Contains (structs_in ds) n → Contains (structs_in ds) m → HasSortOf g (a_name n) s → HasSortOf g (a_name m) s → n ≡ m

-- the functions of declarations are entered, and the sorts of their structs alone change
pub record AddsDeclarations (ds : List Declaration) (g h : Sig) : Type 0 where
  pub adds : AddsFunctions (functions_in ds) g h
  pub made : (n : Name) → Contains (structs_in ds) n → (s : SortId) × HasSortOf h (a_name n) s × IsStructured h s
  pub sorts : (s : SortId) (t : SortInfo) → slice_get g.sorts s.0 ≡ Some t → (slice_get h.sorts s.0 ≡ Some t) ⊎ ((n : Name) × Contains (structs_in ds) n × HasSortOf h (a_name n) s)
  pub lists : KeepsLists g h
