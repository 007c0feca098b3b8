use Rattle.std.proofs.Common.{take}
use Rattle.sort_checker.specs.NameNumbers.{AddsNames}
use Rattle.sort_checker.specs.KnownNames.{process_names_of}
use Rattle.sort_checker.proofs.known_names.add_processes.Given as goal

abbrev pub invariant-loop-declaration : goal.invariant-loop-declaration
invariant-loop-declaration l = AddsNames l.fn.names l.names (process_names_of (take l.declaration-index l.declarations))
