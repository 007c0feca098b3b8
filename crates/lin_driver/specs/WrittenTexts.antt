-- Which text is written for a text.
use Rattle.std.specs.Prelude.{ℕ, List}
use Rattle.data_theory.specs.declared.ids.NameId.{NameId}
use Rattle.data_theory.specs.Signature.{Sig}
use Rattle.data_theory.specs.WholeSignatures.{IsSignature}
use Rattle.mcrl2_syntax.specs.Declarations.{PlainSpec}
use Rattle.term_pool.specs.Pools.{PoolContents}
use Rattle.process_terms.specs.PlainProcesses.{PlainEquation}
use Rattle.lps_core.specs.PlainLinears.{PlainLinear}
use Rattle.sort_table.specs.SignatureVocabularies.{text_under}
use Rattle.lps_printer.specs.CanonicalTexts.{IsCanonicalText}
use Rattle.lps_printer.specs.PrintedLinears.{IsPrinted}
use Rattle.lin_driver.specs.LinearOfTexts.{IsLinearOf}
use Rattle.lin_driver.specs.declared.ending.Ending.{Ending}
use Rattle.lin_driver.specs.declared.methods.Method.{Method}

-- There is the linear process of the text by the ending and the method, and the bytes are its printed text, which is canonical.
pub record IsWrittenFor (ending : Ending) (method : Method) (text printed : List ℕ) : Type 0 where
  pub spec : PlainSpec
  pub signature : Sig
  pub pool : PoolContents
  pub equations : List PlainEquation
  pub name : NameId
  pub linear : PlainLinear
  pub components : ℕ
  pub is_linear : IsLinearOf ending method text spec signature pool equations name linear components
  pub printed_signature : Sig
  pub stands : IsSignature printed_signature
  pub is_printed : IsPrinted spec signature printed_signature pool.trees name linear printed
  pub canonical : IsCanonicalText spec printed_signature (text_under printed_signature name) printed
