use Rattle.std.proofs.Common.{◌≡◌, true, take}
use Rattle.std.specs.List.{list_all}
use Rattle.sort_table.specs.SignatureVocabularies.{vocabulary_of}
use Rattle.sort_checker.specs.Operators.{rule_fits}
use Rattle.sort_checker.specs.CommTrees.{rules_at}
use Rattle.sort_checker.proofs.comm_shapes.rules_fit.Given as goal

abbrev pub invariant-loop-rule : goal.invariant-loop-rule
invariant-loop-rule l = list_all (rule_fits (vocabulary_of l.sig)) (rules_at (take l.rule-index l.rules)) ≡ true
