use Rattle.std.proofs.Common.{◌≡◌, take}
use Rattle.term_pool.specs.Inhabited.{marks_at_once}
use Rattle.term_pool.proofs.inhabited.sorts_at_once.Given as goal

abbrev pub invariant-loop-number : goal.invariant-loop-number
invariant-loop-number l = l.marks.items ≡ marks_at_once (take l.number l.sig.sorts)
