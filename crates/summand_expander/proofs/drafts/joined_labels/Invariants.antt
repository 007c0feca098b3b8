use Rattle.std.proofs.Common.{◌≡◌, ◌++◌, map, take}
use Rattle.process_terms.specs.PlainProcesses.{plain_action, plain_label}
use Rattle.summand_expander.proofs.drafts.joined_labels.Given as goal

abbrev pub invariant-loop-action : goal.invariant-loop-action
invariant-loop-action l = map plain_action l.actions.items ≡ plain_label l.first ++ map plain_action (take l.action-index l.action-items)
