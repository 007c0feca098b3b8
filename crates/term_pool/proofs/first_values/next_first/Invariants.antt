use Rattle.term_pool.specs.FirstValues.{IsNextOf}
use Rattle.term_pool.proofs.first_values.next_first.Given as goal

abbrev pub invariant-loop-number : goal.invariant-loop-number
invariant-loop-number l = IsNextOf l.sig l.entries l.number l.next
