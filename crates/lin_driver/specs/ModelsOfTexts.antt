-- The model of a text can be linearised.
use Rattle.data_theory.specs.Declarations.{NoSortIsEmpty}
use Rattle.data_theory.specs.Signature.{Sig}
use Rattle.data_theory.specs.WholeSignatures.{IsSignature}
use Rattle.data_theory.specs.IdData.{data_meant}
use Rattle.term_pool.specs.Pools.{PoolContents}
use Rattle.term_pool.specs.Constants.{AreConstants}
use Rattle.process_terms.specs.PlainProcesses.{PlainModel}
use Rattle.mcrl2_syntax.specs.Declarations.{PlainSpec}
use Rattle.mcrl2_syntax.specs.TreeWords.{IsSpecOfWords}
use Rattle.sort_checker.specs.TextModels.{IsModelOf}
use Rattle.lin_driver.specs.ModelLinears.{CanBeLinear}
use Rattle.lin_driver.specs.TakenNames.{HaveIdentifiers}

-- the specification is one that tokens spell
abbrev pub ModelsOfTextsCanBeLinear : Type 0
ModelsOfTextsCanBeLinear =
    (spec : PlainSpec) (g : Sig) (p : PoolContents) (m : PlainModel) → IsSpecOfWords spec → IsSignature g → NoSortIsEmpty (data_meant g) → AreConstants g p.constants → HaveIdentifiers g → IsModelOf spec g p m → CanBeLinear g p m
