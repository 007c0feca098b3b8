use Rattle.std.proofs.Common.{map, take}
use Rattle.process_terms.specs.PlainProcesses.{plain_rule}
use Rattle.communication.specs.RuleTables.{KnowsRules}
use Rattle.communication.proofs.rule_tables.name_places.Given as goal

abbrev pub invariant-loop-place : goal.invariant-loop-place
invariant-loop-place l = KnowsRules (map plain_rule (take l.place l.rules)) l.places.entries
