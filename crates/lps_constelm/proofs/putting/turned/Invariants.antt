use Rattle.std.proofs.Common.{◌≡◌, take}
use Rattle.lps_constelm.specs.Putting.{unmarked}
use Rattle.lps_constelm.proofs.putting.turned.Given as goal

abbrev pub invariant-loop-mark : goal.invariant-loop-mark
invariant-loop-mark l = l.others.items ≡ unmarked (take l.mark-index l.marks)
