use Rattle.summand_expander.specs.Drafts.{lone_drafts, plain_move, plain_side}
use Rattle.summand_expander.proofs.DraftLists.{added_more}
use Rattle.summand_expander.proofs.drafts.add_all_alone.Goals as goal

pub loop-step-preserved : goal.loop-step-preserved
loop-step-preserved c = added_more (lone_drafts c.args.own_first (plain_side c.args.own.now) (plain_side c.args.other.now)) plain_move _ _ c.step-item.result _ _ _ c.loop-step-test.true c.step-item.is c.loop-step.invariant c.in_ok-add_alone.ensures
