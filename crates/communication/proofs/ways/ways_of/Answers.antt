use Rattle.std.proofs.Common.{◌≡◌, ◌==◌, ◌∷◌, [], map, length, sym, ap, ◌∙◌}
use Rattle.communication.specs.Places.{joining_of, placed, plain_group, plain_way}
use Rattle.communication.specs.Rounds.{items_of}
use Rattle.communication.specs.Ways.{further, stays, ways}
use Rattle.action_filters.proofs.Loops.{if_ok}
use Rattle.communication.proofs.NamedRules.{nothing_begins, empty_items}
use Rattle.communication.proofs.ways.ways_of.Goals as goal

pub returns-then-is_empty : goal.returns-then-is_empty
returns-then-is_empty c =
    let rules = map joining_of c.args.rules.now in
    let none = sym (c.in_ok-groups.ensures ∙ ap (further placed rules) c.as_slice.ensures.value) ∙ ap (map plain_group) (empty_items c.in_ok-groups.groups.items (ap (λ n. n == 0) (sym c.in_ok-groups.groups.ok.0) ∙ sym c.is_empty.ensures ∙ c.if-is_empty.true)) in
    if_ok c.staying_way.result _ (λ found. map items_of (map plain_way found.items) ≡ ways placed rules (length c.args.places.items) c.args.places.items)
    (λ found e. e ∙ ap (λ ps. map stays ps ∷ []) c.as_slice-then-is_empty.ensures.value ∙ sym (nothing_begins rules c.args.places.items none)) c.staying_way.ensures
