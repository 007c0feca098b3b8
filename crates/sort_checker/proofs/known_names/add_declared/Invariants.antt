use Rattle.std.proofs.Common.{take}
use Rattle.sort_checker.specs.NameNumbers.{AddsNames}
use Rattle.sort_checker.specs.KnownNames.{declared_names}
use Rattle.sort_checker.proofs.known_names.add_declared.Given as goal

abbrev pub invariant-loop-fun : goal.invariant-loop-fun
invariant-loop-fun l = AddsNames l.fn.names l.names (declared_names l.sig (take l.fun-index l.funs))
