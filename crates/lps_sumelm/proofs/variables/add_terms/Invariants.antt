use Rattle.term_pool.proofs.Lists.{above_last}
use Rattle.lps_sumelm.proofs.OccurringLemmas.{IsGathering}
use Rattle.lps_sumelm.proofs.variables.add_terms.Given as goal

abbrev pub invariant-loop-next : goal.invariant-loop-next
invariant-loop-next l = IsGathering l.pool.trees l.terms l.fn.set.keys l.set.keys l.waiting.keys

abbrev pub decreases-loop-next : goal.decreases-loop-next
decreases-loop-next l = above_last l.waiting.keys
