use Rattle.std.proofs.Common.{◌≡◌, map, take}
use Rattle.process_terms.specs.PlainProcesses.{plain_action}
use Rattle.trace_replay.specs.Entering.{entered_action}
use Rattle.trace_replay.proofs.entering.entered_label.Given as goal

abbrev pub invariant-loop-action : goal.invariant-loop-action
invariant-loop-action l = map plain_action l.actions.items ≡ map (entered_action l.ids) (map plain_action (take l.action-index l.action-items))
