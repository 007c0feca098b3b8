use Rattle.std.proofs.Common.{◌≤◌, ◌++◌, length, min, sym, ap, subst, ◌∙◌, append-nil}
use Rattle.communication.proofs.Stepping.{paired_past}
use Rattle.communication.proofs.plans.add_paired.Goals as goal

pub returns : goal.returns
returns c =
    sym (append-nil c.loop-index.found.items)
    ∙ ap (λ l. c.loop-index.found.items ++ l)
    (sym (paired_past c.args.sorts.now c.args.left.now c.args.right.now c.loop-index.index
    (subst (λ k. k ≤ c.loop-index.index) (c.min-count.ensures ∙ ap (λ k. min k (length c.args.right.now)) c.min.ensures) c.loop-index-test.false)))
    ∙ c.loop-index.invariant
