use Rattle.std.proofs.Common.{◌≡◌, ◌<◌, length}
use Rattle.data_theory.specs.declared.ids.FunId.{FunId}
use Rattle.data_rewriter.specs.Signs.{sign_at}
use Rattle.data_rewriter.specs.Marking.{IsFirstSign}
use Rattle.data_rewriter.proofs.function_signs.first_signs.Given as goal

abbrev pub invariant-loop-number : goal.invariant-loop-number
invariant-loop-number l = (length l.signs.items ≡ l.number) × ((f : FunId) → f.0 < l.number → IsFirstSign l.sig f (sign_at l.signs.items f))
