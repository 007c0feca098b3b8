use Rattle.std.proofs.Common.{◌≡◌, ◌+◌, map, drop}
use Rattle.process_terms.specs.PlainProcesses.{plain_action}
use Rattle.communication.specs.Places.{class_of}
use Rattle.communication.proofs.places.class_of.Given as goal

abbrev pub invariant-loop-index : goal.invariant-loop-index
invariant-loop-index l = class_of l.sig (map plain_action l.actions) (plain_action l.action) ≡ l.index + class_of l.sig (map plain_action (drop l.index l.actions)) (plain_action l.action)
