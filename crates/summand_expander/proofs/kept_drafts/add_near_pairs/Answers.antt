use Rattle.std.proofs.Common.{map, sym, ap, subst, ◌∙◌}
use Rattle.std.specs.List.{All}
use Rattle.std.proofs.lemmas.List.{take_all}
use Rattle.action_filters.specs.Filters.{naming, AreActionsIn}
use Rattle.action_filters.proofs.Loops.{mapped_item}
use Rattle.summand_expander.specs.Drafts.{PlainMove, both_moves, plain_draft, plain_move, plain_side}
use Rattle.summand_expander.specs.KeptDrafts.{draft_stays, is_last, Keeps}
use Rattle.summand_expander.specs.PlainAllowed.{can_complete_ids}
use Rattle.summand_expander.proofs.KeptDrafts.{keeps_none, keeps_pair, keeps_one_more}
use Rattle.summand_expander.proofs.NearLabels.{names_of_both}
use Rattle.summand_expander.proofs.kept_drafts.add_near_pairs.Goals as goal

pub loop-second-init : goal.loop-second-init
loop-second-init c a near = keeps_none (draft_stays c.args.sig.now a) is_last c.args.spare.now (map plain_draft c.args.drafts.now.items)

pub stay_near-requires : goal.stay_near-requires
stay_near-requires c =
    mapped_item plain_move (λ (m : PlainMove). AreActionsIn c.args.sig.now m.label) c.deref-second-items.result.now c.loop-second.second-index c.second-item.result c.second-item.result c.loop-second-test.true c.second-item.is
    (subst (λ z. All (λ (m : PlainMove). AreActionsIn c.args.sig.now m.label) (map plain_move z)) (sym c.deref-second-items.ensures.value) c.requires.actions)

pub loop-second-preserved : goal.loop-second-preserved
loop-second-preserved c a near =
    let g = c.args.sig.now in
    let left = plain_side c.args.left.now in
    let right = plain_side c.args.right.now in
    let first = plain_move c.args.first.now in
    let second = plain_move c.second-item.result in
    keeps_one_more (draft_stays g a) is_last (both_moves left right first) plain_move _ _ c.second-item.result _ _ _ _ _ _ c.loop-second-test.true c.second-item.is (c.loop-second.invariant a near)
    (keeps_pair g a left right first second c.in_ok-stays.stays _ _ _ _ (c.in_ok-stays.ensures a near ∙ ap (can_complete_ids a) (names_of_both (naming g).name c.args.names.now first.label second.label c.requires.names)) c.in_ok-add_pair_within.ensures)

pub returns : goal.returns
returns c a near =
    let left = plain_side c.args.left.now in
    let right = plain_side c.args.right.now in
    subst (λ ms. Keeps (draft_stays c.args.sig.now a) is_last (map (both_moves left right (plain_move c.args.first.now)) (map plain_move ms)) c.args.spare.now c.loop-second.spare (map plain_draft c.args.drafts.now.items) (map plain_draft c.loop-second.drafts.items))
    (take_all c.loop-second.second-index c.deref-second-items.result.now c.loop-second-test.false ∙ c.deref-second-items.ensures.value) (c.loop-second.invariant a near)
