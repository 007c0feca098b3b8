use Rattle.std.proofs.Common.{◌≡◌, ◌||◌, Bool, [], map, ap, ◌∙◌, rules}
use Rattle.std.specs.List.{list_any}
use Rattle.process_terms.specs.PlainProcesses.{items_of_each, plain_rule}
use Rattle.action_filters.specs.NameTests.{is_among}
use Rattle.action_filters.specs.Filters.{same_name}
use Rattle.summand_expander.specs.PlainAllowed.{joinings}
use Rattle.summand_expander.proofs.nearby.all_names.Goals as goal

pub returns : goal.returns
returns c x =
    let empty : c.new-set.result.keys ≡ [] = search rules in
    let members : Bool → Bool = λ b. b || list_any (λ v. is_among same_name v x) (items_of_each c.args.sets.now) in
    c.in_ok-add_left_sides.ensures x
    ∙ ap (λ b. b || list_any (λ d. is_among same_name d.left x) (joinings (map plain_rule c.args.rules.now))) (c.in_ok-add_members.ensures x ∙ ap members (ap (λ ks. is_among same_name ks x) empty))
