use Rattle.std.proofs.Common.{sym, ap, ◌∙◌}
use Rattle.process_terms.specs.declared.comm_rules.CommRule.{CommRule}
use Rattle.communication.proofs.NamedRules.{no_rules, one_rule_more}
use Rattle.communication.proofs.rule_tables.name_places.Goals as goal

pub loop-place-init : goal.loop-place-init
loop-place-init c = no_rules c.new-places.result.entries c.new-places.ensures.empty

pub loop-place-preserved : goal.loop-place-preserved
loop-place-preserved c =
    one_rule_more c.args.rules.now c.loop-place.place c.index-rules-place.result c.index-rules-place.result c.as_slice.result.now c.loop-place.places.entries c.enter_names.new.places.entries c.loop-place-test.true c.index-rules-place.is (c.as_slice.ensures.value ∙ sym (ap (λ (r : CommRule). r.left.items) c.index-rules-place.is)) c.loop-place.invariant
    (c.in_ok-enter_names.ensures c.if-not-branch.false)
