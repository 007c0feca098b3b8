use Rattle.std.proofs.Common.{map, sym, subst}
use Rattle.std.specs.List.{All}
use Rattle.action_filters.specs.Filters.{AreActionsIn}
use Rattle.action_filters.proofs.Loops.{mapped_item}
use Rattle.summand_expander.specs.Drafts.{PlainMove, both_moves, plain_move, plain_side}
use Rattle.summand_expander.specs.KeptDrafts.{draft_stays, is_last}
use Rattle.summand_expander.specs.PlainAllowed.{plain_allowed}
use Rattle.summand_expander.proofs.KeptDrafts.{keeps_more}
use Rattle.summand_expander.proofs.kept_drafts.add_pairs_within.Goals as goal

pub add_pairs_of_within-requires-clause-first : goal.add_pairs_of_within-requires-clause-first
add_pairs_of_within-requires-clause-first c =
    mapped_item plain_move (λ (m : PlainMove). AreActionsIn c.args.sig.now m.label) c.deref-first-items.result.now c.loop-first.first-index c.first-item.result c.first-item.result c.loop-first-test.true c.first-item.is
    (subst (λ z. All (λ (m : PlainMove). AreActionsIn c.args.sig.now m.label) (map plain_move z)) (sym c.deref-first-items.ensures.value) c.requires.left)

pub loop-first-preserved : goal.loop-first-preserved
loop-first-preserved c =
    let g = c.args.sig.now in
    let a = plain_allowed c.args.allowed.now in
    let left = plain_side c.args.left.now in
    let right = plain_side c.args.right.now in
    record {
      answers = c.in_ok-add_pairs_of_within.ensures.kept;
      keeps = keeps_more (draft_stays g a) is_last (λ m. map (both_moves left right m) right.moves) plain_move _ _ c.first-item.result _ _ _ _ _ _ c.loop-first-test.true c.first-item.is c.loop-first.invariant.keeps c.in_ok-add_pairs_of_within.ensures.added;
    }
