use Rattle.std.proofs.Common.{◌+◌, [], length}
use Rattle.term_pool.specs.Inhabited.{IsSearch, unmarked_count}
use Rattle.term_pool.proofs.inhabited.inhabited_sorts.Given as goal

abbrev pub invariant-loop-sort : goal.invariant-loop-sort
invariant-loop-sort l = IsSearch l.sig l.marks.items l.ready.items l.waiting.items []

abbrev pub decreases-loop-sort : goal.decreases-loop-sort
decreases-loop-sort l = unmarked_count l.marks.items + length l.ready.items
