use Rattle.std.proofs.Common.{map, ap, ap₂, ◌∙◌}
use Rattle.std.specs.Prelude.{filter}
use Rattle.process_terms.specs.PlainProcesses.{items_of_each, plain_rule}
use Rattle.action_filters.specs.Filters.{same_name}
use Rattle.summand_expander.specs.ByFirst.{rules_with}
use Rattle.summand_expander.specs.Nearby.{is_home, near_rules, stands_in}
use Rattle.summand_expander.specs.PlainAllowed.{joinings, plain_allowed}
use Rattle.summand_expander.proofs.NearNames.{all_near}
use Rattle.summand_expander.proofs.nearby.near_to.Goals as goal

pub returns : goal.returns
returns c ns =
    let candidates = ap (λ rs. joinings (map plain_rule rs)) c.as_slice-2.ensures.value ∙ c.in_ok-candidates.ensures ∙ ap (λ rs. rules_with same_name c.args.name (joinings (map plain_rule rs))) c.as_slice.ensures.value in
    all_near (plain_allowed c.args.allowed.now) (record { sets = items_of_each c.in_ok-sets.sets.items; rules = map plain_rule c.in_ok-rules.rules.items }) c.in_ok-names.names.keys c.args.name
    (c.in_ok-sets.ensures ∙ ap₂ (λ cs vs. filter (is_home same_name cs c.args.name) (items_of_each vs)) candidates c.as_slice-3.ensures.value)
    (c.in_ok-rules.ensures ∙ ap₂ (λ rs vs. near_rules same_name (joinings (map plain_rule rs)) (items_of_each vs)) c.as_slice-4.ensures.value c.as_slice-5.ensures.value)
    (λ x. c.in_ok-names.ensures x ∙ ap₂ (λ rs vs. stands_in same_name (joinings (map plain_rule rs)) (items_of_each vs) x) c.as_slice-6.ensures.value c.as_slice-7.ensures.value)
    ns
