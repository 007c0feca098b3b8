use Rattle.std.proofs.Common.{◌≡◌, map, take}
use Rattle.process_terms.specs.PlainProcesses.{plain_rule}
use Rattle.process_terms.proofs.comm_rules.CommSet.copy.Given as goal

abbrev pub invariant-loop-rule : goal.invariant-loop-rule
invariant-loop-rule l = map plain_rule l.rules.items ≡ map plain_rule (take l.rule-index l.rule-items)
