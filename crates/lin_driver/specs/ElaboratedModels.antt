-- What the elaboration of a text says of a specification in code, and that it can be linearised.
use Rattle.std.specs.Prelude.{◌≡◌, [], ◌∷◌, map}
use Rattle.std.specs.List.{All, flat_map}
use Rattle.data_theory.specs.Declarations.{NoSortIsEmpty}
use Rattle.data_theory.specs.Signature.{Sig}
use Rattle.data_theory.specs.WholeSignatures.{IsSignature}
use Rattle.data_theory.specs.IdData.{data_meant}
use Rattle.data_theory.specs.IdTerms.{IsTreeWithin}
use Rattle.term_pool.specs.Pools.{PoolContents}
use Rattle.term_pool.specs.Constants.{AreConstants}
use Rattle.process_terms.specs.PlainProcesses.{PlainDefinition, PlainModel}
use Rattle.process_terms.specs.Meanings.{bound_at, body_of, definition_of, HasModel}
use Rattle.process_terms.specs.SignatureEntries.{entries_of}
use Rattle.sort_table.specs.BareProcesses.{Process}
use Rattle.sort_table.specs.Vocabularies.{EachPair}
use Rattle.sort_checker.specs.FullVocabularies.{FullVocabulary, Written, processes_in, IsOver}
use Rattle.sort_checker.specs.Elaborations.{Elaborates, ElaboratesDefinition}
use Rattle.sort_checker.specs.Systems.{initial_by}
use Rattle.sort_table.specs.BareDeclarations.{bare_sections, declarations_in}
use Rattle.mcrl2_syntax.specs.Declarations.{PlainSpec}
use Rattle.mcrl2_syntax.specs.TreeWords.{IsSpecOfWords}
use Rattle.lin_driver.specs.ModelLinears.{CanBeLinear}
use Rattle.lin_driver.specs.TakenNames.{HaveIdentifiers}

-- the definition in code is that for which the written one stands, and its parameters have their sorts in the signature
pub record IsDefinitionOf (v : FullVocabulary) (g : Sig) (p : PoolContents) (w : Written) (d : PlainDefinition) : Type 0 where
  pub elaborates : ElaboratesDefinition v w (definition_of (entries_of g p.trees) d)
  pub bounds : map (bound_at (entries_of g p.trees)) d.params ≡ elaborates.bounds

-- Over the vocabulary of the signature, the definitions and the one `init` of the text stand for those in code.
pub record IsElaborated (v : FullVocabulary) (g : Sig) (p : PoolContents) (spec : PlainSpec) (m : PlainModel) : Type 0 where
  pub over : IsOver g (bare_sections spec) v
  pub definitions : EachPair (IsDefinitionOf v g p) (processes_in (declarations_in (bare_sections spec))) m.definitions
  pub init : Process
  pub one_init : flat_map initial_by (declarations_in (bare_sections spec)) ≡ init ∷ []
  pub start : Elaborates v [] init (body_of (entries_of g p.trees) m.init)
  pub there : HasModel (entries_of g p.trees) m
  pub trees : All (IsTreeWithin g) p.trees

-- the specification is one that tokens spell
abbrev pub WhatElaboratesCanBeLinear : Type 0
WhatElaboratesCanBeLinear =
    (v : FullVocabulary) (g : Sig) (p : PoolContents) (spec : PlainSpec) (m : PlainModel) → IsSpecOfWords spec → IsSignature g → NoSortIsEmpty (data_meant g) → AreConstants g p.constants → HaveIdentifiers g
    → IsElaborated v g p spec m → CanBeLinear g p m
