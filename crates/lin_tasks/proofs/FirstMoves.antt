-- The options of an initial state.
use Rattle.std.proofs.Common.{◌≡◌, ℕ, List, Option, Some, subst}
use Rattle.data_theory.specs.declared.ids.TermId.{TermId}
use Rattle.data_theory.specs.IdTrees.{Tree}
use Rattle.data_theory.specs.Provable.{Equation}
use Rattle.data_theory.specs.Signature.{Sig}
use Rattle.lps_core.specs.PlainLinears.{PlainLinear}
use Rattle.lps_simulator.specs.OptionsInCode.{PlainOptions, AreOptions, AreOptionsAt}

-- those of a session that stands in it
pub first_options : (g : Sig) (own : List Equation) (fuel bound : ℕ) (ts us : List Tree) (l k : PlainLinear) (state : Option (List TermId)) (found : PlainOptions) → k ≡ l → state ≡ Some l.init
    → AreOptionsAt g own fuel bound ts us k state found → AreOptions g own fuel bound ts us l l.init found
first_options g own fuel bound ts us l k state found same start are =
    subst (λ (m : PlainLinear). AreOptions g own fuel bound ts us m l.init found) same (subst (λ (s : Option (List TermId)). AreOptionsAt g own fuel bound ts us k s found) start are)
