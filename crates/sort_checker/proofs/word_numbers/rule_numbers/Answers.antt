use Rattle.std.proofs.Common.{[], ◌∷◌, map, ap, ◌∙◌}
use Rattle.std.proofs.lemmas.List.{map-append}
use Rattle.mcrl2_syntax.specs.ProcessParts.{comm_rule_of}
use Rattle.mcrl2_syntax.specs.TreeWords.{IsRuleOfWords}
use Rattle.process_terms.specs.PlainProcesses.{plain_rule}
use Rattle.sort_table.proofs.KeptFunctions.{nothing_yet}
use Rattle.sort_checker.specs.CommTrees.{rule_at}
use Rattle.sort_checker.specs.NumberedWords.{rule_names, StandIn, IsRuleOf}
use Rattle.sort_checker.proofs.ReadLists.{at_one, at_mapped, next_one}
use Rattle.sort_checker.proofs.word_numbers.rule_numbers.Goals as goal

pub loop-rule-init : goal.loop-rule-init
loop-rule-init c = nothing_yet (IsRuleOf c.args.sig.now) (map plain_rule c.new-numbers.result.items) (ap (map plain_rule) c.new-numbers.ensures.items)

pub rule_number-requires-clause-names : goal.rule_number-requires-clause-names
rule_number-requires-clause-names c = at_mapped IsRuleOfWords comm_rule_of c.args.rules.now c.loop-rule.rule-index c.rule-item.result c.loop-rule-test.true c.rule-item.is c.requires.names

pub rule_number-requires-clause-there : goal.rule_number-requires-clause-there
rule_number-requires-clause-there c = at_one (λ r. StandIn c.args.sig.now (rule_names r)) c.args.rules.now c.loop-rule.rule-index c.rule-item.result c.loop-rule-test.true c.rule-item.is c.requires.there

pub loop-rule-preserved : goal.loop-rule-preserved
loop-rule-preserved c =
    next_one (IsRuleOf c.args.sig.now) rule_at c.args.rules.now c.loop-rule.rule-index c.rule-item.result (map plain_rule c.loop-rule.numbers.items) (map plain_rule c.push.new.self.items) (plain_rule c.in_ok-rule_number.field-0) c.loop-rule-test.true c.rule-item.is c.loop-rule.invariant c.in_ok-rule_number.ensures
    (ap (map plain_rule) c.in_ok-push.ensures.items ∙ map-append plain_rule c.loop-rule.numbers.items (c.in_ok-rule_number.field-0 ∷ []))
