use Rattle.std.proofs.Common.{map, take}
use Rattle.process_terms.specs.PlainProcesses.{plain_rule}
use Rattle.sort_checker.specs.CommTrees.{rule_at}
use Rattle.sort_checker.specs.NumberedWords.{AreRulesOf}
use Rattle.sort_checker.proofs.word_numbers.rule_numbers.Given as goal

abbrev pub invariant-loop-rule : goal.invariant-loop-rule
invariant-loop-rule l = AreRulesOf l.sig (map rule_at (take l.rule-index l.rules)) (map plain_rule l.numbers.items)
