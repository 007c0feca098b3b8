-- The equations, definitions and `init` of a well-typed text elaborate, and each soundly declared text has a full vocabulary.
use Rattle.std.specs.Prelude.{List, []}
use Rattle.std.specs.List.{AllByRecursion, flat_map}
use Rattle.data_theory.specs.Provable.{Equation}
use Rattle.data_theory.specs.Signature.{Sig}
use Rattle.process_terms.specs.Processes.{Body, Definition}
use Rattle.sort_table.specs.BareProcesses.{Process}
use Rattle.sort_table.specs.BareDeclarations.{Section, declarations_in}
use Rattle.sort_table.specs.Refusals.{IsSoundlyDeclared}
use Rattle.sort_table.specs.SignatureVocabularies.{vocabulary_of}
use Rattle.sort_table.specs.SortMeanings.{under_names}
use Rattle.sort_table.specs.Vocabularies.{IsVocabularyOf}
use Rattle.sort_checker.specs.FullVocabularies.{FullVocabulary, Written, processes_in, IsFullVocabularyOf, IsOver}
use Rattle.sort_checker.specs.Elaborations.{Elaborates, ElaboratesDefinition, WrittenEquation, ElaboratesEquation}
use Rattle.sort_checker.specs.Refusals.{IsWellTyped}
use Rattle.sort_checker.specs.Systems.{equations_in, initial_by}

pub record AllElaborateOf (v : FullVocabulary) (ss : List Section) : Type 0 where
  pub equations : AllByRecursion (λ (e : WrittenEquation). (q : Equation) × ElaboratesEquation v e q) (equations_in ss)
  pub definitions : AllByRecursion (λ (w : Written). (d : Definition) × ElaboratesDefinition v w d) (processes_in (declarations_in ss))
  pub initial : AllByRecursion (λ (p : Process). (b : Body) × Elaborates v [] p b) (flat_map initial_by (declarations_in ss))

abbrev pub WellTypedTextsElaborate : Type 0
WellTypedTextsElaborate = (v : FullVocabulary) (ss : List Section) → IsWellTyped v ss → AllElaborateOf v ss

-- the processes of a text with what its signature declares
abbrev pub SoundTextsHaveVocabularies : Type 0
SoundTextsHaveVocabularies =
    (g : Sig) (ss : List Section) → IsSoundlyDeclared ss → IsVocabularyOf (under_names (declarations_in ss)) (vocabulary_of g) → (v : FullVocabulary) × IsOver g ss v × IsFullVocabularyOf (declarations_in ss) v
