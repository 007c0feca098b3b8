-- What the task `generate` writes.
use Rattle.std.specs.Prelude.{◌≡◌, ◌++◌, ℕ, List, codes, decimal, length}
use Rattle.data_theory.specs.declared.ids.NameId.{NameId}
use Rattle.data_theory.specs.IdTrees.{Tree}
use Rattle.data_theory.specs.Provable.{Equation}
use Rattle.data_theory.specs.Signature.{Sig}
use Rattle.mcrl2_syntax.specs.Declarations.{PlainSpec}
use Rattle.term_pool.specs.Pools.{PoolContents}
use Rattle.process_terms.specs.PlainProcesses.{PlainEquation}
use Rattle.lps_core.specs.PlainLinears.{PlainLinear}
use Rattle.lps_simulator.specs.OptionLaws.{HasOptions}
use Rattle.lps_simulator.specs.OptionsInCode.{PlainOptions}
use Rattle.lin_driver.specs.Eliminations.{equations_at}
use Rattle.lin_driver.specs.LinearOfTexts.{IsLinearOf}
use Rattle.lin_driver.specs.declared.ending.Ending.TheVariants.{End}
use Rattle.lin_driver.specs.declared.methods.Method.TheVariants.{Auto}

-- In its initial state the linear process has so many moves, by 100,000 uses of equations for each term, and the first 16 values of each sum.
pub record HasFirstMoves (g : Sig) (own : List Equation) (ts : List Tree) (l : PlainLinear) (count : ℕ) : Type 0 where
  pub later : List Tree
  pub found : PlainOptions
  pub options : HasOptions g own 100000 16 ts later l l.init found
  pub counted : count ≡ length found.moves

-- a count by its name, on a line
abbrev pub count_line : List ℕ → ℕ → List ℕ
count_line name count = name ++ codes " " ++ decimal count ++ codes "\n"

abbrev pub counts_text : (components parameters summands steps : ℕ) → List ℕ
counts_text components parameters summands steps =
    count_line (codes "components") components ++ count_line (codes "parameters") parameters ++ count_line (codes "summands") summands ++ count_line (codes "steps") steps

-- the bytes tell how large a linear process of so many components is: how many parameters and summands it has, and how many moves in its initial state
pub record ShowsCounts (g : Sig) (own : List Equation) (ts : List Tree) (l : PlainLinear) (components : ℕ) (shown : List ℕ) : Type 0 where
  pub steps : ℕ
  pub moves : HasFirstMoves g own ts l steps
  pub shows : shown ≡ counts_text components (length l.params) (length l.summands) steps

-- There is the linear process of the text by the method `Auto`, with its end as it is, and the bytes tell how large it is, over the text's equations.
pub record AreCounts (text shown : List ℕ) : Type 0 where
  pub spec : PlainSpec
  pub signature : Sig
  pub pool : PoolContents
  pub equations : List PlainEquation
  pub name : NameId
  pub linear : PlainLinear
  pub components : ℕ
  pub is_linear : IsLinearOf End Auto text spec signature pool equations name linear components
  pub counts : ShowsCounts signature (equations_at signature pool.trees equations) pool.trees linear components shown
