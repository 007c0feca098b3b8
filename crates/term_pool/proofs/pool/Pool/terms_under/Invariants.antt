use Rattle.term_pool.proofs.Lists.{above_last}
use Rattle.term_pool.proofs.OpenTerms.{AreOpen}
use Rattle.term_pool.proofs.pool.Pool.terms_under.Given as goal

abbrev pub invariant-loop-next : goal.invariant-loop-next
invariant-loop-next l = AreOpen l.self.trees l.fn.id l.under.items l.waiting.keys

abbrev pub decreases-loop-next : goal.decreases-loop-next
decreases-loop-next l = above_last l.waiting.keys
