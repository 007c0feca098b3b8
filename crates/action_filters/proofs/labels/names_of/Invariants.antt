use Rattle.std.proofs.Common.{◌≡◌, map, take}
use Rattle.process_terms.specs.PlainProcesses.{plain_action}
use Rattle.action_filters.specs.Filters.{naming}
use Rattle.action_filters.proofs.labels.names_of.Given as goal

abbrev pub invariant-loop-action : goal.invariant-loop-action
invariant-loop-action l = l.names.items ≡ map (naming l.sig).name (map plain_action (take l.action-index l.action-items))
