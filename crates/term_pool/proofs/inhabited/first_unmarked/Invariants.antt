use Rattle.term_pool.specs.Inhabited.{AreMarkedUpTo}
use Rattle.term_pool.proofs.inhabited.first_unmarked.Given as goal

abbrev pub invariant-loop-place : goal.invariant-loop-place
invariant-loop-place l = AreMarkedUpTo l.marks l.sorts l.place
