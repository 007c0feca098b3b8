use Rattle.std.proofs.Common.{◌+◌, sym, subst, map}
use Rattle.std.specs.Prelude.{take}
use Rattle.std.specs.List.{AllZip}
use Rattle.lps_core.specs.PlainLinears.{plain_summand}
use Rattle.summand_expander.specs.Drafts.{plain_move}
use Rattle.summand_expander.specs.Frames.{IsMoveOf, plain_frame}
use Rattle.summand_expander.proofs.Framing.{moves_more, summand_at}
use Rattle.summand_expander.proofs.frames.moves_of.Goals as goal

pub move_of-requires : goal.move_of-requires
move_of-requires c = summand_at c.args.pool.now.trees c.args.summands.now c.loop-summand.summand-index c.summand-item.result c.requires c.loop-summand-test.true c.summand-item.is

pub loop-summand-preserved : goal.loop-summand-preserved
loop-summand-preserved c =
    subst (λ z. AllZip (IsMoveOf c.args.pool.now.trees (plain_frame c.args.frame.now)) (map plain_move z) (map plain_summand (take (c.loop-summand.summand-index + 1) c.args.summands.now))) (sym c.in_ok-push.ensures.items)
    (moves_more (IsMoveOf c.args.pool.now.trees (plain_frame c.args.frame.now)) c.loop-summand.made.items c.args.summands.now c.loop-summand.summand-index c.in_ok-move_of.field-0 c.summand-item.result c.loop-summand.invariant c.loop-summand-test.true c.summand-item.is c.in_ok-move_of.ensures)
