use Rattle.std.proofs.Common.{◌≡◌, map, take}
use Rattle.process_terms.specs.PlainProcesses.{plain_action}
use Rattle.action_filters.specs.LabelFilters.{shown}
use Rattle.action_filters.specs.Filters.{naming}
use Rattle.action_filters.proofs.labels.shown_label.Given as goal

abbrev pub invariant-loop-action : goal.invariant-loop-action
invariant-loop-action l = map plain_action l.actions.items ≡ shown (naming l.sig) l.hidden.keys (map plain_action (take l.action-index l.action-items))
