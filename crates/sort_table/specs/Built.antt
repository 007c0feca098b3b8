-- What is built from the declarations of a text.
use Rattle.std.specs.Prelude.{◌≡◌, ◌↔◌, ◌⊎◌, ℕ, List, [], ◌∷◌, ◌++◌, map, Some, slice_get}
use Rattle.std.specs.List.{All, Contains, flat_map}
use Rattle.data_theory.specs.declared.ids.NameId.{NameId}
use Rattle.data_theory.specs.declared.ids.SortId.{SortId}
use Rattle.data_theory.specs.Declarations.{NoSortIsEmpty}
use Rattle.data_theory.specs.FirstNames.{first_names}
use Rattle.data_theory.specs.Sorts.{IsListOver}
use Rattle.data_theory.specs.Signature.{Sig, IsTaken}
use Rattle.data_theory.specs.IdData.{data_meant}
use Rattle.data_theory.specs.IdRoles.{AreRoles}
use Rattle.mcrl2_syntax.specs.Declarations.{PlainSpec}
use Rattle.sort_table.specs.Expressions.{Name}
use Rattle.sort_table.specs.BareSorts.{SortExpression}
use Rattle.sort_table.specs.BareProcesses.{Variables, sums_in}
use Rattle.sort_table.specs.BareDeclarations.{Field, Constructor, Declaration, sorts, alias, struct, constructors, mappings, variables, equation, actions, process, initial, declarations_in, bare_sections}
use Rattle.sort_table.specs.SortMeanings.{under_names}
use Rattle.sort_table.specs.Vocabularies.{IsVocabularyOf}
use Rattle.sort_table.specs.SignatureVocabularies.{vocabulary_of}
use Rattle.sort_table.specs.WrittenLists.{IsPartSort}
use Rattle.sort_table.specs.EnteredFunctions.{HasSortOf}
use Rattle.sort_table.specs.Refusals.{unknown_sort, sort_cycle, duplicate, empty_sort, IsRefusedWith, IsSoundlyDeclared}
use Rattle.sort_table.specs.Identifiers.{identifiers_in, copied_identifiers}
use Rattle.sort_table.specs.declared.building.SortFault.{SortFault}
use Rattle.sort_table.specs.declared.building.SortFault.TheVariants as faults

-- ---- the sort expressions of declarations
abbrev pub sorts_of_variables : Variables → List SortExpression
sorts_of_variables vs = map (λ (x : Name × SortExpression). x.1) vs

abbrev pub sorts_of_constructor : Constructor → List SortExpression
sorts_of_constructor c = map (λ (f : Field). f.sort) c.fields

abbrev pub expressions_in : Declaration → List SortExpression
expressions_in (sorts ns) = []
expressions_in (alias n e) = e ∷ []
expressions_in (struct n cs) = flat_map sorts_of_constructor cs
expressions_in (constructors fs es to) = es ++ to ∷ []
expressions_in (mappings fs es to) = es ++ to ∷ []
expressions_in (variables vs) = sorts_of_variables vs
expressions_in (equation c l r) = []
expressions_in (actions as_ es) = es
expressions_in (process p vs body) = sorts_of_variables vs ++ flat_map sorts_of_variables (sums_in body)
expressions_in (initial body) = flat_map sorts_of_variables (sums_in body)

-- a sort of the signature is that of an expression in the declarations, or of a part of one
pub record IsWritten (ds : List Declaration) (g : Sig) (l : SortId) : Type 0 where
  pub declaration : Declaration
  pub expression : SortExpression
  pub declared : Contains ds declaration
  pub used : Contains (expressions_in declaration) expression
  pub part : IsPartSort expression g l

-- ---- the answer
-- The signature has what the text declares and no variables. All identifiers of the text are entered; those of copied declarations
-- are taken, and but for the words and the names that are taken from the start no others. Each sort expression of the declarations,
-- also of parameters, sums and variables, has its sort, and each list sort is that of such an expression. The roles of functions hold.
pub record IsDeclared (spec : PlainSpec) (g : Sig) : Type 0 where
  pub vocabulary : IsVocabularyOf (under_names (declarations_in (bare_sections spec))) (vocabulary_of g)
  pub no_variables : g.variables ≡ []
  pub entered : All (Contains g.texts) (identifiers_in spec)
  pub taken : (t : Name) → IsTaken g t ↔ (Contains first_names t ⊎ Contains (copied_identifiers spec) t)
  pub written : (d : Declaration) (e : SortExpression) → Contains (declarations_in (bare_sections spec)) d → Contains (expressions_in d) e → (s : SortId) × HasSortOf g e s
  pub lists : (e l : SortId) → IsListOver g.sorts e l → IsWritten (declarations_in (bare_sections spec)) g l
  pub roles : AreRoles g

-- The declarations are sound, and the signature has what they declare; so none of its sorts is empty.
pub record IsBuilt (spec : PlainSpec) (g : Sig) : Type 0 where
  pub sound : IsSoundlyDeclared (bare_sections spec)
  pub declared : IsDeclared spec g
  pub inhabited : NoSortIsEmpty (data_meant g)

-- ---- the refusals
-- an id is that of a text
abbrev pub IsNameOf : List (List ℕ) → NameId → Name → Type 0
IsNameOf texts i n = slice_get texts i.0 ≡ Some n

abbrev pub AreNamesOfAll : List (List ℕ) → List NameId → List Name → Type 0
AreNamesOfAll texts ids ns = map (λ (i : NameId). slice_get texts i.0) ids ≡ map (λ n. Some n) ns

-- The text is refused with this fault, and the table of texts has each name of the fault. Want of memory says nothing.
abbrev pub IsFaultOf : PlainSpec → List (List ℕ) → SortFault → Type 0
IsFaultOf spec texts (faults.UnknownSort number name) = (n : Name) × IsNameOf texts name n × IsRefusedWith (bare_sections spec) (unknown_sort number n)
IsFaultOf spec texts (faults.SortCycle names) = (ns : List Name) × AreNamesOfAll texts names.items ns × IsRefusedWith (bare_sections spec) (sort_cycle ns)
IsFaultOf spec texts (faults.Duplicate first second) = IsRefusedWith (bare_sections spec) (duplicate first second)
IsFaultOf spec texts (faults.EmptySort name) = (n : Name) × IsNameOf texts name n × IsRefusedWith (bare_sections spec) (empty_sort n)
IsFaultOf spec texts faults.NoMemory = Unit {0}
