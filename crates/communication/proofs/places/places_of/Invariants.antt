use Rattle.std.proofs.Common.{◌≡◌, ◌++◌, map, drop}
use Rattle.process_terms.specs.PlainProcesses.{plain_action}
use Rattle.communication.specs.Places.{places_from, places_of}
use Rattle.communication.proofs.places.places_of.Given as goal

abbrev pub invariant-loop-index : goal.invariant-loop-index
invariant-loop-index l = l.places.items ++ places_from l.sig (map plain_action l.actions) l.index (map plain_action (drop l.index l.actions)) ≡ places_of l.sig (map plain_action l.actions)
