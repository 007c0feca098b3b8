use Rattle.std.proofs.Common.{◌≡◌, map, take}
use Rattle.process_terms.specs.PlainProcesses.{plain_action}
use Rattle.action_filters.specs.Filters.{renamed_action}
use Rattle.action_filters.proofs.labels.renamed_label.Given as goal

abbrev pub invariant-loop-action : goal.invariant-loop-action
invariant-loop-action l = map plain_action l.actions.items ≡ map (renamed_action l.sig l.pairs.entries) (map plain_action (take l.action-index l.action-items))
