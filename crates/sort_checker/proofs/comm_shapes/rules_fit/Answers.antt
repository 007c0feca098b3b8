use Rattle.std.proofs.Common.{◌&&◌, Bool, ap₂, sym, ◌∙◌}
use Rattle.sort_table.specs.SignatureVocabularies.{vocabulary_of}
use Rattle.sort_checker.specs.Operators.{rule_fits}
use Rattle.sort_checker.specs.CommTrees.{rule_at}
use Rattle.sort_checker.proofs.NameLists.{one_image_fails}
use Rattle.sort_checker.proofs.comm_shapes.rules_fit.Goals as goal

pub returns-then-not-rule_fits : goal.returns-then-not-rule_fits
returns-then-not-rule_fits c =
    sym (ap₂ (λ (a b : Bool). a && b) (sym c.in_ok-are_apart.ensures ∙ c.if-not-branch.false)
    (one_image_fails (rule_fits (vocabulary_of c.args.sig.now)) rule_at c.args.rules.now c.loop-rule.rule-index c.rule-item.result c.loop-rule-test.true c.rule-item.is (sym c.rule_fits.ensures ∙ c.if-not-rule_fits.true)))
