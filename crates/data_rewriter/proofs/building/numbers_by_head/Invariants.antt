use Rattle.std.proofs.Common.{◌≡◌, ◌<◌, length, get_or, []}
use Rattle.data_theory.specs.declared.ids.FunId.{FunId}
use Rattle.data_rewriter.proofs.HeadNumbers.{items_of, AreRulesBefore}
use Rattle.data_rewriter.proofs.building.numbers_by_head.Given as goal

abbrev pub invariant-loop-number : goal.invariant-loop-number
invariant-loop-number l = (length l.by_head.items ≡ l.count) × ((f : FunId) → f.0 < l.count → AreRulesBefore l.pool.trees l.rules l.number f (get_or (items_of l.by_head.items) f.0 []))
