use Rattle.std.proofs.Common.{◌≡◌, take}
use Rattle.std.specs.Prelude.{None}
use Rattle.sort_checker.specs.Refusals.{first_from}
use Rattle.sort_checker.specs.ElaboratedTexts.{declarations_listed, initial_in}
use Rattle.sort_checker.proofs.definitions.first_initial.Given as goal

abbrev pub invariant-loop-i : goal.invariant-loop-i
invariant-loop-i l = first_from initial_in 1 (declarations_listed (take l.i l.list)) ≡ None
