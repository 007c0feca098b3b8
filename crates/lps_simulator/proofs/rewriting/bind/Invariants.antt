use Rattle.std.proofs.Common.{◌≡◌, ◌++◌, take}
use Rattle.std.specs.List.{zip}
use Rattle.lps_simulator.proofs.rewriting.bind.Given as goal

abbrev pub invariant-loop-number : goal.invariant-loop-number
invariant-loop-number l = l.by.items ≡ l.fn.by.items ++ take l.number (zip l.variables l.terms)
