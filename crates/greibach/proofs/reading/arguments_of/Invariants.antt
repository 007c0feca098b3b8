use Rattle.std.proofs.Common.{◌≡◌, map, take}
use Rattle.process_terms.specs.PlainProcesses.{plain_action}
use Rattle.greibach.specs.OccurringVariables.{label_terms}
use Rattle.greibach.proofs.reading.arguments_of.Given as goal

abbrev pub invariant-loop-action : goal.invariant-loop-action
invariant-loop-action l = l.terms.items ≡ label_terms (map plain_action (take l.action-index l.label.actions.items))
