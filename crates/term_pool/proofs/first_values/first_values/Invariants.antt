use Rattle.term_pool.specs.FirstValues.{AreFirstSoFar, open_count}
use Rattle.term_pool.proofs.first_values.first_values.Given as goal

abbrev pub invariant-loop-entries : goal.invariant-loop-entries
invariant-loop-entries l = AreFirstSoFar l.sig l.entries.items

abbrev pub decreases-loop-entries : goal.decreases-loop-entries
decreases-loop-entries l = open_count l.entries.items
