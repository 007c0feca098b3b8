use Rattle.std.proofs.Common.{sym, subst, ◌∙◌}
use Rattle.data_rewriter.specs.Standing.{StandsFor}
use Rattle.data_rewriter.proofs.Standings.{stands_still_for}
use Rattle.data_rewriter.specs.FirstLines.{ConditionIs}
use Rattle.data_rewriter.proofs.Deciding.{condition_not_true}
use Rattle.data_rewriter.proofs.making.make_line.Goals as goal

pub returns-in_default-clause-made : goal.returns-in_default-clause-made
returns-in_default-clause-made c = λ sig tables t h.
    (c.in_ok-right.ensures.made sig tables h.right h.right_is, subst (λ o. ConditionIs sig c.args.pool.now.trees o h.condition) c.in_default.is h.condition_is)

pub returns-clause-made : goal.returns-clause-made
returns-clause-made c = λ sig tables t h.
    let k = subst (λ o. ConditionIs sig c.args.pool.now.trees o h.condition) c.in-Some.is h.condition_is in
    let index = stands_still_for sig c.args.pool.now.trees c.make.new.pool.trees c.in_ok-right.ensures.kept c.in-Some.index k.0 k.1 in
    let made = c.in_ok-cond.ensures.made sig tables.signature k.0 index in (
      stands_still_for sig c.make.new.pool.trees c.above_zero.new.pool.trees c.in_ok-cond.ensures.kept c.in_ok-right.right h.right (c.in_ok-right.ensures.made sig tables h.right h.right_is),
      (subst (StandsFor sig c.above_zero.new.pool.trees c.in_ok-cond.cond) (sym k.2) made, (λ e. condition_not_true k.0 (sym k.2 ∙ e))),
    )
