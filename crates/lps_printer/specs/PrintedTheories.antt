-- The printed text is well typed, and has the theory of its text with the equations of the constants for empty lists.
use Rattle.std.specs.Prelude.{◌≡◌, List, [], ◌∷◌, ◌++◌, length, map}
use Rattle.std.specs.List.{Contains}
use Rattle.mcrl2_syntax.specs.Declarations.{PlainSpec}
use Rattle.data_theory.specs.declared.ids.SortId.{SortId}
use Rattle.data_theory.specs.IdTerms.{sort_under}
use Rattle.data_theory.specs.Provable.{Equation}
use Rattle.data_theory.specs.Signature.{Sig, IsTaken}
use Rattle.data_theory.specs.Structs.{numbers_from}
use Rattle.data_theory.specs.Terms.{Sort, list, Term}
use Rattle.data_theory.specs.WholeSignatures.{IsSignature}
use Rattle.process_terms.specs.Processes.{Bound, Process}
use Rattle.process_terms.specs.Theories.{Theory}
use Rattle.bisim_laws.specs.LinearProcesses.{Linear}
use Rattle.sort_table.specs.BareDeclarations.{Section, bare_sections}
use Rattle.sort_table.specs.Expressions.{Name}
use Rattle.sort_table.specs.Identifiers.{copied_identifiers}
use Rattle.sort_table.specs.PlacedSections.{IsPlaced}
use Rattle.sort_table.specs.SignatureVocabularies.{vocabulary_of}
use Rattle.sort_table.specs.Vocabularies.{EachPair}
use Rattle.sort_checker.specs.Elaborations.{ElaboratesEquation}
use Rattle.sort_checker.specs.FullVocabularies.{FullVocabulary}
use Rattle.sort_checker.specs.Refusals.{IsWellTyped}
use Rattle.sort_checker.specs.Systems.{equations_in, IsSystem}
use Rattle.lps_printer.specs.AddedConstants.{AddsConstants, AreConstants}
use Rattle.lps_printer.specs.AddedDeclarations.{added_declared}
use Rattle.lps_printer.specs.EmptyEquations.{empty_equations}
use Rattle.lps_printer.specs.FilledLinears.{Constants}
use Rattle.lps_printer.specs.GrowingByAdditions.{GrowsByAdditions}
use Rattle.lps_printer.specs.LinearBack.{parameters_of, LinearReads}
use Rattle.lps_printer.specs.PrintedDeclarations.{printed_declared, AreSoundOver}
use Rattle.lps_printer.specs.PrintedSystems.{PrintsLinear}
use Rattle.lps_printer.specs.SignatureNames.{text_names_under}
use Rattle.lps_printer.specs.WrittenProcesses.{TextNames}

-- The sections that are printed for a linear process under a name, where constants for the empty lists over some sorts came to the
-- signature k, which then is h.
abbrev pub printed_sections : PlainSpec → Sig → Sig → Name → List Sort → Linear → List Term → List Section
printed_sections spec k h x needed l initial = printed_declared spec (added_declared spec h (text_names_under h x) (numbers_from (length k.functions) (length needed))) (text_names_under h x) l initial

-- what the signature declares, and the process
abbrev pub printed_vocabulary : Sig → TextNames → List Bound → FullVocabulary
printed_vocabulary h n params = record { declared = vocabulary_of h; processes = (n.process, parameters_of n params) ∷ [] }

-- The text elaborates over the vocabulary of the signature, where the identifiers of what is copied of it are taken.
pub record ElaboratesOver (spec : PlainSpec) (g : Sig) : Type 0 where
  pub placed : IsPlaced spec
  pub stands : IsSignature g
  pub taken : (t : Name) → Contains (copied_identifiers spec) t → IsTaken g t
  pub vocabulary : FullVocabulary
  pub declared : vocabulary.declared ≡ vocabulary_of g
  pub theory : Theory
  pub process : Process
  pub system : IsSystem (bare_sections spec) vocabulary theory process

-- well typed, with these equations
pub record HasTheory (w : FullVocabulary) (ss : List Section) (es : List Equation) : Type 0 where
  pub well_typed : IsWellTyped w ss
  pub equations : EachPair (ElaboratesEquation w) (equations_in ss) es

-- Where the names of the linear process read back, and the printed declarations are sound and have the vocabulary of the signature.
abbrev pub PrintedTextsHaveTheories : Type 0
PrintedTextsHaveTheories =
    (spec : PlainSpec) (g k h : Sig) (own : ElaboratesOver spec g) → IsSignature k → IsSignature h → GrowsByAdditions g h
    → (needed : List Sort) (sorts : List SortId) (c : Constants) → map (sort_under k) sorts ≡ map list needed → AddsConstants k sorts h → AreConstants (length k.declared) needed c
    → (x : Name) (l : Linear) (initial : List Term) → LinearReads (printed_vocabulary h (text_names_under h x) l.params) (text_names_under h x) l initial
    → PrintsLinear (printed_sections spec k h x needed l initial) (text_names_under h x) l initial → AreSoundOver (printed_sections spec k h x needed l initial) h
    → HasTheory (printed_vocabulary h (text_names_under h x) l.params) (printed_sections spec k h x needed l initial) (own.theory.equations ++ empty_equations (length k.declared) needed)
