use Rattle.std.proofs.Common.{◌≡◌, drop}
use Rattle.sort_checker.specs.UnknownTrees.{unknown_along}
use Rattle.sort_checker.proofs.unknown_names.unknown_along.Given as goal

abbrev pub invariant-loop-stop : goal.invariant-loop-stop
invariant-loop-stop l = unknown_along l.known l.scope (drop l.stop-index l.stops) ≡ unknown_along l.known l.fn.scope l.stops
