use Rattle.std.proofs.Common.{◌≡◌, ◌||◌, List, [], ◌∷◌, map, refl, sym, ap, ◌∙◌, take}
use Rattle.std.specs.List.{list_any}
use Rattle.std.proofs.lemmas.List.{take_all}
use Rattle.data_theory.specs.declared.ids.NameId.{NameId}
use Rattle.process_terms.specs.declared.comm_rules.CommRule.{CommRule}
use Rattle.process_terms.specs.PlainProcesses.{plain_rule}
use Rattle.action_filters.specs.NameTests.{is_among}
use Rattle.action_filters.specs.Filters.{same_name}
use Rattle.summand_expander.specs.PlainAllowed.{joinings}
use Rattle.action_filters.proofs.AddedNames.{or_none, found_more}
use Rattle.summand_expander.proofs.nearby.add_left_sides.Goals as goal

-- the left sides of rules in memory
left_sides : (x : NameId) (rs : List CommRule) → list_any (λ c. is_among same_name c.left x) (joinings (map plain_rule rs)) ≡ list_any (λ v. is_among same_name v x) (map (λ (r : CommRule). r.left.items) rs)
left_sides x [] = refl
left_sides x (r ∷ rs) = ap (λ b. is_among same_name r.left.items x || b) (left_sides x rs)

pub loop-rule-init : goal.loop-rule-init
loop-rule-init c x = or_none (is_among same_name c.args.set.now.keys x)

pub loop-rule-preserved : goal.loop-rule-preserved
loop-rule-preserved c x =
    let old = is_among same_name c.args.set.now.keys x in
    found_more (λ (r : CommRule). r.left.items) (λ v. is_among same_name v x) c.args.rules.now c.loop-rule.rule-index c.rule-item.result old (is_among same_name c.loop-rule.set.keys x) (is_among same_name c.add_names.new.set.keys x) c.loop-rule-test.true c.rule-item.is
    (c.loop-rule.invariant x ∙ ap (λ b. old || b) (left_sides x (take c.loop-rule.rule-index c.args.rules.now)))
    (c.in_ok-add_names.ensures x ∙ ap (λ ns. is_among same_name c.loop-rule.set.keys x || is_among same_name ns x) c.as_slice.ensures.value)
    ∙ ap (λ b. old || b) (sym (left_sides x (take _ c.args.rules.now)))

pub returns : goal.returns
returns c x =
    c.loop-rule.invariant x ∙ ap (λ rs. is_among same_name c.args.set.now.keys x || list_any (λ d. is_among same_name d.left x) (joinings (map plain_rule rs))) (take_all c.loop-rule.rule-index c.args.rules.now c.loop-rule-test.false)
