-- The declarations of a printed text: that they are sound, and that a signature has their vocabulary.
use Rattle.std.specs.Prelude.{◌≡◌, ◌≢◌, ℕ, suc, List, [], ◌∷◌, ◌++◌, map, length, Some}
use Rattle.std.specs.List.{AllByRecursion, Contains}
use Rattle.mcrl2_syntax.specs.Declarations.{PlainSpec}
use Rattle.data_theory.specs.declared.ids.FunId.{FunId}
use Rattle.data_theory.specs.declared.ids.NameId.{NameId}
use Rattle.data_theory.specs.declared.ids.SortId.{SortId}
use Rattle.data_theory.specs.Terms.{Sort, Term}
use Rattle.data_theory.specs.Declarations.{NoSortIsEmpty}
use Rattle.data_theory.specs.Signature.{Sig, IsTaken}
use Rattle.data_theory.specs.WholeSignatures.{IsSignature}
use Rattle.data_theory.specs.IdData.{data_meant}
use Rattle.bisim_laws.specs.LinearProcesses.{Linear}
use Rattle.sort_table.specs.Expressions.{Name}
use Rattle.sort_table.specs.BareSorts.{SortExpression}
use Rattle.sort_table.specs.BareProcesses.{Variables}
use Rattle.sort_table.specs.BareDeclarations.{Declaration, equation, process, Section, bare_section, bare_sections, declarations_in}
use Rattle.sort_table.specs.SortMeanings.{under_names}
use Rattle.sort_table.specs.Duplicates.{variable_lists}
use Rattle.sort_table.specs.Vocabularies.{sort_in, IsVocabularyOf}
use Rattle.sort_table.specs.SignatureVocabularies.{text_under, vocabulary_of}
use Rattle.sort_table.specs.Growth.{More, with_more}
use Rattle.sort_table.specs.Refusals.{IsSoundlyDeclared}
use Rattle.sort_table.specs.Identifiers.{copied_identifiers}
use Rattle.sort_table.specs.PlacedSections.{IsPlaced}
use Rattle.sort_checker.specs.FullVocabularies.{FullVocabulary}
use Rattle.lps_printer.specs.WrittenProcesses.{TextNames, parameters_written, body_written, plain_process}
use Rattle.lps_printer.specs.LinearBack.{EachTwo, LinearReads}
use Rattle.lps_printer.specs.CopiedSections.{kept_sections}
use Rattle.lps_printer.specs.WholeTexts.{linear_declared}
use Rattle.lps_printer.specs.AddedDeclarations.{action_declared, added_declared}
use Rattle.lps_printer.specs.GrowingByConstants.{GrowsByConstants}
use Rattle.lps_printer.specs.GrowingByAdditions.{Struct, GrowsByAdditions, added_structs, added_constants, added_actions}
use Rattle.lps_printer.specs.GrownTexts.{mapping_declared}
use Rattle.lps_printer.specs.DeclaredAdditions.{declaration_of, AddsThem}
use Rattle.lps_printer.specs.SignatureNames.{text_names_under}

-- ---- the vocabulary of a signature that has grown by constants
-- the names of constants, whose numbers as functions count from k
abbrev pub numbered_constants : Sig → ℕ → List (NameId × SortId) → List (Name × ℕ)
numbered_constants h k [] = []
numbered_constants h k (c ∷ cs) = (text_under h c.0, k) ∷ numbered_constants h (suc k) cs

-- it has these constants behind the functions, and no further sorts, names of sorts and actions
pub record HasConstantsMore (g h : Sig) (constants : List (NameId × SortId)) : Type 0 where
  pub more : More
  pub is : vocabulary_of h ≡ with_more (vocabulary_of g) more
  pub sorts : more.sorts ≡ []
  pub sort_names : more.sort_names ≡ []
  pub actions : more.actions ≡ []
  pub function_names : more.function_names ≡ numbered_constants h (length g.declared) constants

abbrev pub GrowthByConstantsIsMore : Type 0
GrowthByConstantsIsMore = (g h : Sig) → IsSignature g → IsSignature h → (w : GrowsByConstants g h) → HasConstantsMore g h w.constants

-- ---- the declarations of a printed text
abbrev pub IsEquation : Declaration → Type 0
IsEquation (equation c l r) = Unit {0}
IsEquation _ = ⊥

-- sections that declare these actions, structs and constants, and have equations and nothing else behind them
pub record DeclareAdditions (h : Sig) (n : TextNames) (acts : List NameId) (structs : List Struct) (constants : List (NameId × SortId)) (added : List Section) : Type 0 where
  pub equations : List Declaration
  pub declared : declarations_in added ≡ map (action_declared h) acts ++ (map (declaration_of h n) structs ++ (map (mapping_declared h n) constants ++ equations))
  pub others : AllByRecursion IsEquation equations

-- the sections that are added to a text declare so
abbrev pub WhatIsAddedIsDeclared : Type 0
WhatIsAddedIsDeclared =
    (spec : PlainSpec) (g h : Sig) (w : GrowsByAdditions g h) → AddsThem spec w → (x : Name) (empty_lists : List FunId)
    → DeclareAdditions h (text_names_under h x) (added_actions w) (added_structs w) (added_constants w) (added_declared spec h (text_names_under h x) empty_lists)

-- variables that can stand in one list: their names differ, and each has a sort
pub record CanBeListed (ns : List (Name × Sort)) (vs : Variables) : Type 0 where
  pub differ : EachTwo (λ (x y : Name × SortExpression). x.0 ≢ y.0) vs
  pub sorts : AllByRecursion (λ (x : Name × SortExpression). (s : Sort) × (sort_in ns x.1 ≡ Some s)) vs

-- `proc P(x: S, ..) = ..;`
abbrev pub process_declared : TextNames → Linear → Declaration
process_declared n l = process n.process (parameters_written n l.params) (plain_process (body_written n l))

-- A text's declarations are sound, and a signature has their vocabulary and its names as taken ones. It has grown by structs, constants and actions,
-- which the added sections declare; the process has a name that wasn't taken and that no added action has, and lists of variables that can be.
pub record DeclaresMore (spec : PlainSpec) (g h : Sig) (added : List Section) (x : Name) (l : Linear) : Type 0 where
  pub placed : IsPlaced spec
  pub sound : IsSoundlyDeclared (bare_sections spec)
  pub vocabulary : IsVocabularyOf (under_names (declarations_in (bare_sections spec))) (vocabulary_of g)
  pub stands : IsSignature g
  pub taken : (t : Name) → Contains (copied_identifiers spec) t → IsTaken g t
  pub grows : GrowsByAdditions g h
  pub stands_later : IsSignature h
  pub inhabited : NoSortIsEmpty (data_meant h)
  pub additions : DeclareAdditions h (text_names_under h x) (added_actions grows) (added_structs grows) (added_constants grows) added
  pub new_process : ¬ (IsTaken g x)
  pub no_action : AllByRecursion (λ (a : NameId). text_under h a ≢ x) (added_actions grows)
  pub listed : AllByRecursion (CanBeListed (vocabulary_of h).sort_names) (variable_lists (process_declared (text_names_under h x) l))

-- the copied sections, the added ones, and the process with its start
abbrev pub printed_declared : PlainSpec → List Section → TextNames → Linear → List Term → List Section
printed_declared spec added n l ts = linear_declared (map bare_section (kept_sections spec.sections) ++ added) n l ts

-- the declarations are sound, and the signature has their vocabulary
pub record AreSoundOver (ss : List Section) (h : Sig) : Type 0 where
  pub sound : IsSoundlyDeclared ss
  pub vocabulary : IsVocabularyOf (under_names (declarations_in ss)) (vocabulary_of h)

abbrev pub PrintedDeclarationsAreSound : Type 0
PrintedDeclarationsAreSound =
    (spec : PlainSpec) (g h : Sig) (added : List Section) (x : Name) (l : Linear) (ts : List Term) → DeclaresMore spec g h added x l → AreSoundOver (printed_declared spec added (text_names_under h x) l ts) h

-- the variables of a linear process that reads back can be listed
abbrev pub VariablesThatReadCanBeListed : Type 0
VariablesThatReadCanBeListed = (v : FullVocabulary) (n : TextNames) (l : Linear) (ts : List Term) → LinearReads v n l ts → AllByRecursion (CanBeListed v.declared.sort_names) (variable_lists (process_declared n l))
