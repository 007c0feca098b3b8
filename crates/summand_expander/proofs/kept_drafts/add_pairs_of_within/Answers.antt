use Rattle.std.proofs.Common.{map, sym, ◌∙◌}
use Rattle.summand_expander.specs.Drafts.{plain_draft, plain_move, plain_side}
use Rattle.summand_expander.specs.PlainAllowed.{plain_allowed}
use Rattle.summand_expander.proofs.NamedPartners.{keeps_apart}
use Rattle.summand_expander.proofs.NearNames.{near_first}
use Rattle.summand_expander.proofs.kept_drafts.add_pairs_of_within.Goals as goal

pub add_near_pairs-requires-clause-names : goal.add_near_pairs-requires-clause-names
add_near_pairs-requires-clause-names c = c.as_slice-names.ensures.value ∙ c.in_ok-own.ensures

pub returns-clause-added : goal.returns-clause-added
returns-clause-added c =
    c.in_ok-add_near_pairs.ensures (plain_allowed c.args.allowed.now)
    (near_first (plain_allowed c.args.allowed.now) (plain_allowed c.in_ok-near.near.allowed) c.in_ok-near.near.names.keys c.as_slice-names.result.now (record { 0 = 0 }) (sym c.is_empty.ensures ∙ c.if-is_empty.false) c.in_ok-near.ensures)

pub returns-then-is_apart-clause-added : goal.returns-then-is_apart-clause-added
returns-then-is_apart-clause-added c =
    let far = c.is_apart.ensures.apart c.if-is_apart.true in
    keeps_apart c.args.sig.now (plain_allowed c.args.allowed.now) (plain_side c.args.left.now) (plain_side c.args.right.now) (plain_move c.args.first.now) c.args.partners.now.keys far.0 far.1.0 far.1.1 (map plain_move c.args.right.now.moves.items)
    c.requires.partners (map plain_draft c.args.drafts.now.items) c.args.spare.now (c.is_apart.ensures.spares c.if-is_apart.true)
