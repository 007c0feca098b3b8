use Rattle.sort_table.proofs.Searches.{further, here}
use Rattle.sort_checker.specs.UnknownTrees.{is_unknown_action}
use Rattle.sort_checker.proofs.NameLists.{of_rule, of_rules, rules_listed}
use Rattle.sort_checker.proofs.unknown_names.unknown_in_rules.Goals as goal

pub returns-in-Some : goal.returns-in-Some
returns-in-Some c =
    here of_rules of_rule (is_unknown_action c.args.known.now) rules_listed c.args.rules.now c.loop-rule.rule-index c.rule-item.result c.unknown_in_rule.result c.in-Some.name c.loop-rule-test.true c.rule-item.is c.loop-rule.invariant c.unknown_in_rule.ensures c.in-Some.is

pub loop-rule-preserved : goal.loop-rule-preserved
loop-rule-preserved c =
    further of_rules of_rule (is_unknown_action c.args.known.now) rules_listed c.args.rules.now c.loop-rule.rule-index c.rule-item.result c.unknown_in_rule.result c.loop-rule-test.true c.rule-item.is c.loop-rule.invariant c.unknown_in_rule.ensures c.in_default.is
