use Rattle.std.proofs.Common.{map, sym, subst}
use Rattle.std.specs.List.{All}
use Rattle.action_filters.specs.Filters.{AreActionsIn}
use Rattle.action_filters.proofs.Loops.{mapped_item}
use Rattle.summand_expander.specs.Drafts.{PlainMove, both_moves, plain_move, plain_side}
use Rattle.summand_expander.specs.KeptDrafts.{draft_stays, is_last}
use Rattle.summand_expander.specs.PlainAllowed.{plain_allowed}
use Rattle.summand_expander.proofs.KeptDrafts.{keeps_pair, keeps_one_more}
use Rattle.summand_expander.proofs.kept_drafts.add_asked_pairs.Goals as goal

pub both_stay-requires-clause-second : goal.both_stay-requires-clause-second
both_stay-requires-clause-second c =
    mapped_item plain_move (λ (m : PlainMove). AreActionsIn c.args.sig.now m.label) c.deref-second-items.result.now c.loop-second.second-index c.second-item.result c.second-item.result c.loop-second-test.true c.second-item.is
    (subst (λ z. All (λ (m : PlainMove). AreActionsIn c.args.sig.now m.label) (map plain_move z)) (sym c.deref-second-items.ensures.value) c.requires.actions)

pub loop-second-preserved : goal.loop-second-preserved
loop-second-preserved c =
    let g = c.args.sig.now in
    let a = plain_allowed c.args.allowed.now in
    let left = plain_side c.args.left.now in
    let right = plain_side c.args.right.now in
    let first = plain_move c.args.first.now in
    record {
      answers = c.in_ok-stays.ensures.kept;
      keeps = keeps_one_more (draft_stays g a) is_last (both_moves left right first) plain_move _ _ c.second-item.result _ _ _ _ _ _ c.loop-second-test.true c.second-item.is c.loop-second.invariant.keeps
          (keeps_pair g a left right first (plain_move c.second-item.result) c.in_ok-stays.stays _ _ _ _ c.in_ok-stays.ensures.can c.in_ok-add_pair_within.ensures);
    }
