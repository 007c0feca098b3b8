use Rattle.std.proofs.Common.{ap, ◌∙◌}
use Rattle.summand_expander.specs.Renewals.{renewed_variables}
use Rattle.summand_expander.proofs.RenewedFits.{summand_renewed}
use Rattle.summand_expander.proofs.renewed.renewed_summand.Goals as goal

pub returns-clause-renewed : goal.returns-clause-renewed
returns-clause-renewed c =
    summand_renewed c.args.by.now c.args.old.now c.args.new.now _ _ c.args.pool.now.trees c.subst.new.self.trees c.put_label.new.pool.trees c.put_next.new.pool.trees c.requires.within c.requires.listed c.subst.ensures.kept c.put_label.ensures.kept c.put_next.ensures.kept
    (c.in_ok-sums.ensures ∙ ap (renewed_variables c.args.old.now c.args.new.now) c.as_slice.ensures.value)
    c.in_ok-cond.ensures.within c.in_ok-cond.ensures.tree c.in_ok-label.ensures.within c.in_ok-label.ensures.label c.in_ok-next.ensures.next
