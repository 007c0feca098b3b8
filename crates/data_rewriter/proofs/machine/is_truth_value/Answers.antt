use Rattle.std.proofs.Common.{inl, inr, ⊎_elim, rules}
use Rattle.data_rewriter.proofs.Deciding.{told, denied}
use Rattle.data_rewriter.proofs.machine.is_truth_value.Goals as goal

pub returns-then-is_true : goal.returns-then-is_true
returns-then-is_true c = λ sig own all term.
    let v = c.view_of-shown.ensures.shown sig all.signs.signs term in
    ((λ b. inl (told (c.is_true.ensures sig c.args.pool.now.trees _ v) c.if-is_true.true)), (λ t. search rules))

pub returns : goal.returns
returns c = λ sig own all term.
    let v = c.view_of-shown.ensures.shown sig all.signs.signs term in (
      (λ b. inr ((c.is_false.ensures sig c.args.pool.now.trees _ v).0 b)),
      (λ t. ⊎_elim (λ e. absurd (denied (c.is_true.ensures sig c.args.pool.now.trees _ v) c.if-is_true.false e)) (λ e. (c.is_false.ensures sig c.args.pool.now.trees _ v).1 e) t),
    )
