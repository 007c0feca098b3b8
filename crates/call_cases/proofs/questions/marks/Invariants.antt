use Rattle.std.proofs.Common.{◌≡◌, length}
use Rattle.call_cases.proofs.questions.marks.Given as goal

abbrev pub invariant-loop-node : goal.invariant-loop-node
invariant-loop-node l = length l.marks.items ≡ l.count
