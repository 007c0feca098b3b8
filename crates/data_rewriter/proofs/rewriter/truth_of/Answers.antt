use Rattle.std.proofs.Common.{refl}
use Rattle.data_rewriter.proofs.Deciding.{told, denied}
use Rattle.data_rewriter.proofs.rewriter.truth_of.Goals as goal

pub returns-then-is_true : goal.returns-then-is_true
returns-then-is_true c = λ sig tables term. told (c.is_true.ensures sig c.args.pool.now.trees _ (c.view_of-shown.ensures.shown sig tables.signs term)) c.if-is_true.true

pub returns-then-is_false : goal.returns-then-is_false
returns-then-is_false c = λ sig tables term. told (c.is_false.ensures sig c.args.pool.now.trees _ (c.view_of-shown.ensures.shown sig tables.signs term)) c.if-is_false.true

pub returns : goal.returns
returns c = λ sig tables term.
    let v = c.view_of-shown.ensures.shown sig tables.signs term in
    (refl, denied (c.is_true.ensures sig c.args.pool.now.trees _ v) c.if-is_true.false, denied (c.is_false.ensures sig c.args.pool.now.trees _ v) c.if-is_false.false)
