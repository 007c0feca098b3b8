use Rattle.std.proofs.Common.{map}
use Rattle.summand_expander.specs.Drafts.{both_moves, plain_move, plain_side}
use Rattle.summand_expander.proofs.DraftLists.{added_more}
use Rattle.summand_expander.proofs.drafts.add_pairs.Goals as goal

pub loop-first-preserved : goal.loop-first-preserved
loop-first-preserved c = added_more (λ m. map (both_moves (plain_side c.args.left.now) (plain_side c.args.right.now) m) (map plain_move c.args.right.now.moves.items)) plain_move _ _ c.first-item.result _ _ _ c.loop-first-test.true c.first-item.is c.loop-first.invariant c.in_ok-add_pairs_of.ensures
