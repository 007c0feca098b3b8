use Rattle.std.proofs.Common.{◌≡◌, take}
use Rattle.std.specs.List.{zip}
use Rattle.lps_invariant.proofs.places.pairs.Given as goal

abbrev pub invariant-loop-number : goal.invariant-loop-number
invariant-loop-number l = l.by.items ≡ zip (take l.number l.vars) (take l.number l.terms)
