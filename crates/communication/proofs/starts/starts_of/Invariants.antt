use Rattle.std.proofs.Common.{◌≡◌, map, take}
use Rattle.std.specs.Prelude.{flat_map}
use Rattle.process_terms.specs.PlainProcesses.{plain_rule}
use Rattle.communication.specs.Places.{joining_of, placed, plain_start}
use Rattle.communication.specs.Ways.{starts_by}
use Rattle.communication.proofs.starts.starts_of.Given as goal

abbrev pub invariant-loop-rule : goal.invariant-loop-rule
invariant-loop-rule l = map plain_start l.found.items ≡ flat_map (starts_by placed l.first l.later) (map joining_of (map plain_rule (take l.rule-index l.near)))
