use Rattle.std.proofs.Common.{◌≡◌, ◌++◌, map, take}
use Rattle.eqn_check.specs.CallTables.{with_mark}
use Rattle.eqn_check.proofs.falling.push_marked.Given as goal

abbrev pub invariant-loop-term : goal.invariant-loop-term
invariant-loop-term l = l.waiting.items ≡ l.fn.waiting.items ++ map (with_mark l.mark) (take l.term-index l.terms)
