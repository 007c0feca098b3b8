use Rattle.std.proofs.Common.{◌≡◌, ◌++◌, map, take}
use Rattle.process_terms.specs.PlainProcesses.{plain_action}
use Rattle.lps_parelm.specs.Uses.{argument_numbers}
use Rattle.lps_parelm.proofs.uses.add_arguments.Given as goal

abbrev pub invariant-loop-action : goal.invariant-loop-action
invariant-loop-action l = l.found.items ≡ l.fn.found.items ++ argument_numbers (map plain_action (take l.action-index l.action-items))
