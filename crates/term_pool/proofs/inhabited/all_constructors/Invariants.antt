use Rattle.std.proofs.Common.{◌≡◌, take}
use Rattle.term_pool.specs.Inhabited.{candidates_in}
use Rattle.term_pool.proofs.inhabited.all_constructors.Given as goal

abbrev pub invariant-loop-number : goal.invariant-loop-number
invariant-loop-number l = l.all.items ≡ candidates_in (take l.number l.sig.sorts)
