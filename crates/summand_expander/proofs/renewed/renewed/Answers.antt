use Rattle.std.proofs.Common.{rules, map, subst, ap, ap₂, ◌∙◌}
use Rattle.lps_core.specs.PlainLinears.{plain_summand}
use Rattle.summand_expander.specs.Renewals.{renewed_variables, AreRenewedSummands}
use Rattle.summand_expander.proofs.RenewedFits.{renewed_since}
use Rattle.summand_expander.proofs.renewed.renewed.Goals as goal

pub returns-clause-renewed : goal.returns-clause-renewed
returns-clause-renewed c =
    let t1 = c.renaming.new.pool.trees in
    let t2 = c.renewed_summands.new.pool.trees in
    let made = map plain_summand c.in_ok-summands.summands.items in
    let ss = map plain_summand c.args.lin.now.summands.items in
    record {
      params = c.in_ok-renewed_variables.ensures ∙ ap₂ (λ os ns. renewed_variables os ns c.as_slice-3.result.now) c.as_slice-old.ensures.keys c.as_slice-new.ensures.value
          ∙ ap (renewed_variables c.args.renewal.now.from.keys c.args.renewal.now.to.items) c.as_slice-3.ensures.value;
      init = (search rules);
      summands = renewed_since c.args.pool.now.trees t1 t2 c.args.renewal.now.from.keys c.args.renewal.now.to.items ss made c.renaming.ensures.kept c.requires.within
          (subst (λ os. AreRenewedSummands t1 t2 os c.args.renewal.now.to.items ss made) c.as_slice-old.ensures.keys
          (subst (λ ns. AreRenewedSummands t1 t2 c.as_slice-old.result.now ns ss made) c.as_slice-new.ensures.value
          (subst (λ zs. AreRenewedSummands t1 t2 c.as_slice-old.result.now c.as_slice-new.result.now (map plain_summand zs) made) c.as_slice.ensures.value c.in_ok-summands.ensures.renewed)));
    }
