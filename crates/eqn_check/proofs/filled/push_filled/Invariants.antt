use Rattle.std.proofs.Common.{◌≡◌, ◌++◌, take}
use Rattle.eqn_check.specs.Alike.{pairs}
use Rattle.eqn_check.specs.Fillings.{filled_pairs}
use Rattle.eqn_check.proofs.filled.push_filled.Given as goal

abbrev pub invariant-loop-i : goal.invariant-loop-i
invariant-loop-i l = l.left.items ≡ l.fn.left.items ++ filled_pairs l.one l.other (pairs (take l.i l.ones) (take l.i l.others))
