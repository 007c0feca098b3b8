use Rattle.std.proofs.Common.{◌≡◌, length}
use Rattle.term_pool.specs.Bindings.{listed}
use Rattle.term_pool.proofs.Filling.{IsFilling}
use Rattle.term_pool.proofs.pool.Pool.subst.Given as goal

abbrev pub invariant-loop-next : goal.invariant-loop-next
invariant-loop-next l = IsFilling l.fn.self.trees l.self.trees (listed l.fn.self.trees l.fn.by) l.fn.id l.left.items l.results × (l.self.constants ≡ l.fn.self.constants)

abbrev pub decreases-loop-next : goal.decreases-loop-next
decreases-loop-next l = length l.left.items
