-- Texts that are printed for what an elimination leaves.
use Rattle.std.specs.Prelude.{ℕ, List}
use Rattle.data_theory.specs.declared.ids.NameId.{NameId}
use Rattle.data_theory.specs.IdTrees.{Tree}
use Rattle.data_theory.specs.Signature.{Sig}
use Rattle.data_theory.specs.WholeSignatures.{IsSignature}
use Rattle.mcrl2_syntax.specs.Declarations.{PlainSpec}
use Rattle.term_pool.specs.Pools.{PoolContents}
use Rattle.process_terms.specs.PlainProcesses.{PlainEquation}
use Rattle.lps_core.specs.PlainLinears.{PlainLinear}
use Rattle.lps_printer.specs.PrintedLinears.{IsPrinted}
use Rattle.lin_driver.specs.Eliminations.{equations_at, IsLeft}
use Rattle.lin_driver.specs.LinearOfTexts.{IsLinearOf}
use Rattle.lin_driver.specs.declared.eliminations.Elimination.{Elimination}
use Rattle.lin_driver.specs.declared.ending.Ending.{Ending}
use Rattle.lin_driver.specs.declared.methods.Method.{Method}

-- The bytes are the text of what the elimination leaves of a linear process, over the same equations. The pool has grown meanwhile.
pub record IsPrintedLeft (e : Elimination) (spec : PlainSpec) (g : Sig) (ts : List Tree) (equations : List PlainEquation) (x : NameId) (l : PlainLinear) (printed : List ℕ) : Type 0 where
  pub trees : List Tree
  pub left : PlainLinear
  pub is_left : IsLeft e g (equations_at g ts equations) ts trees l left
  pub signature : Sig
  pub stands : IsSignature signature
  pub is_printed : IsPrinted spec g signature trees x left printed

-- There is the linear process of the text by the ending and the method, and the bytes are the text of what the elimination leaves of it.
pub record IsEliminated (ending : Ending) (method : Method) (e : Elimination) (text printed : List ℕ) : Type 0 where
  pub spec : PlainSpec
  pub signature : Sig
  pub pool : PoolContents
  pub equations : List PlainEquation
  pub name : NameId
  pub linear : PlainLinear
  pub components : ℕ
  pub is_linear : IsLinearOf ending method text spec signature pool equations name linear components
  pub is_left : IsPrintedLeft e spec signature pool.trees equations name linear printed
