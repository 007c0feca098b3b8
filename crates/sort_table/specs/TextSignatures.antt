-- A signature on the way to what a text declares.
use Rattle.std.specs.Prelude.{◌≡◌, ◌↔◌, ◌⊎◌, ℕ, List, [], Some, slice_get}
use Rattle.std.specs.List.{Contains, AllByRecursion, flat_map}
use Rattle.std.specs.Str.{IsUtf8}
use Rattle.mcrl2_syntax.specs.Declarations.{PlainSpec}
use Rattle.data_theory.specs.declared.ids.NameId.{NameId}
use Rattle.data_theory.specs.declared.ids.SortId.{SortId}
use Rattle.data_theory.specs.Sorts.{SortInfo, without_constructors, IsListOver}
use Rattle.data_theory.specs.IdSorts.{IsDeclaredKind}
use Rattle.data_theory.specs.FirstNames.{first_names}
use Rattle.data_theory.specs.Signature.{Sig, IsTaken, first_signature}
use Rattle.sort_table.specs.Expressions.{Name}
use Rattle.sort_table.specs.BareSorts.{SortExpression}
use Rattle.sort_table.specs.BareDeclarations.{Declaration, bare_sections, declarations_in}
use Rattle.sort_table.specs.SortMeanings.{Kind, kinds_in, under_names}
use Rattle.sort_table.specs.UnknownSorts.{AllAreKnown}
use Rattle.sort_table.specs.SortCycles.{NoCycle}
use Rattle.sort_table.specs.Duplicates.{NothingAgain}
use Rattle.sort_table.specs.Identifiers.{identifiers_in, copied_identifiers}
use Rattle.sort_table.specs.NamedSorts.{AreIdsOf, HaveSortNames, ReadsSorts, sort_names_of, sort_count}
use Rattle.sort_table.specs.EnteredFunctions.{IsReadable}
use Rattle.sort_table.specs.PlacedSections.{IsPlaced}
use Rattle.sort_table.specs.Built.{expressions_in, IsWritten}

abbrev pub declarations_of : PlainSpec → List Declaration
declarations_of spec = declarations_in (bare_sections spec)

-- The text is sound but for empty sorts, its identifiers are text, and each declaration stands in a section of its word.
pub record IsSoundText (spec : PlainSpec) : Type 0 where
  pub placed : IsPlaced spec
  pub text : AllByRecursion IsUtf8 (identifiers_in spec)
  pub known : AllAreKnown (declarations_of spec)
  pub round : NoCycle (declarations_of spec)
  pub once : NothingAgain (bare_sections spec)

-- The signature has nothing declared, over a table with all identifiers of the text, in which these are the ids of its sort names.
pub record IsBegun (spec : PlainSpec) (ids : List NameId) (g : Sig) : Type 0 where
  pub given : List Name
  pub first : g ≡ first_signature given
  pub ids_are : AreIdsOf given (kinds_in (declarations_of spec)) ids
  pub entered : (t : Name) → Contains (identifiers_in spec) t → Contains given t

-- no declared sort has constructors
abbrev pub AllBare : List SortInfo → Type 0
AllBare ss = (i : ℕ) (t : SortInfo) → slice_get ss i ≡ Some t → IsDeclaredKind t.kind → t.kind ≡ without_constructors

-- The signature has the sorts of the text, all without constructors, and no functions, actions and variables. Each sort expression of
-- the declarations has its sort, and each list sort is that of one. All identifiers are entered, and those of copied declarations
-- are taken.
pub record HasTextSorts (spec : PlainSpec) (kinds : List (Name × Kind)) (ids : List NameId) (g : Sig) : Type 0 where
  pub names : HaveSortNames (under_names (declarations_of spec)) (sort_names_of g) (sort_count g)
  pub reads : ReadsSorts kinds ids g
  pub bare : AllBare g.sorts
  pub written : (e : SortExpression) → Contains (flat_map expressions_in (declarations_of spec)) e → IsReadable g e
  pub lists : (e l : SortId) → IsListOver g.sorts e l → IsWritten (declarations_of spec) g l
  pub entered : (t : Name) → Contains (identifiers_in spec) t → Contains g.texts t
  pub taken : (t : Name) → IsTaken g t ↔ (Contains first_names t ⊎ Contains (copied_identifiers spec) t)
  pub no_functions : g.declared ≡ []
  pub no_actions : g.actions ≡ []
  pub no_variables : g.variables ≡ []
