use Rattle.std.proofs.Common.{◌+◌, ◌≤◌, length, arith, map, subst, sym, refl, ◌∙◌}
use Rattle.std.proofs.lemmas.List.{take_all}
use Rattle.lps_core.specs.PlainLinears.{plain_summand}
use Rattle.lps_core.specs.TreeSummands.{IsSummandIn}
use Rattle.lps_core.proofs.KeptSummands.{summand_in_kept}
use Rattle.lps_core.proofs.NamingLoops.{item_is}
use Rattle.summand_expander.specs.Renewals.{AreRenewedSummands}
use Rattle.summand_expander.proofs.RenewedFits.{IsRenewing, renewing_none, renewing_more, listed_still}
use Rattle.summand_expander.proofs.renewed.renewed_summands.Goals as goal

pub loop-summand-init : goal.loop-summand-init
loop-summand-init c = (subst (λ z. IsRenewing c.args.pool.now.trees c.args.old.now c.args.new.now c.args.summands.now 0 c.args.pool.now.trees z) (sym c.new-made.ensures.items) (renewing_none _ _ _ _), refl)

pub renewed_summand-requires-clause-within : goal.renewed_summand-requires-clause-within
renewed_summand-requires-clause-within c =
    summand_in_kept c.args.pool.now.trees c.loop-summand.pool.trees c.loop-summand.invariant.0.kept (plain_summand c.summand-item.result)
    (item_is (IsSummandIn c.args.pool.now.trees) c.args.summands.now c.loop-summand.summand-index c.summand-item.result c.loop-summand-test.true c.summand-item.is c.requires.within)

pub renewed_summand-requires-clause-listed : goal.renewed_summand-requires-clause-listed
renewed_summand-requires-clause-listed c = listed_still c.args.pool.now.trees c.loop-summand.pool.trees c.args.old.now c.args.new.now c.args.by.now c.loop-summand.invariant.0.kept c.requires.listed

pub loop-summand-preserved : goal.loop-summand-preserved
loop-summand-preserved c = (
  subst (λ z. IsRenewing c.args.pool.now.trees c.args.old.now c.args.new.now c.args.summands.now (c.loop-summand.summand-index + 1) c.renewed_summand.new.pool.trees z) (sym c.in_ok-push.ensures.items)
      (renewing_more c.args.pool.now.trees c.args.old.now c.args.new.now c.args.summands.now c.loop-summand.summand-index c.loop-summand.pool.trees c.loop-summand.made.items c.summand-item.result c.loop-summand.invariant.0 c.loop-summand-test.true c.summand-item.is
      (item_is (IsSummandIn c.args.pool.now.trees) c.args.summands.now c.loop-summand.summand-index c.summand-item.result c.loop-summand-test.true c.summand-item.is c.requires.within)
      c.renewed_summand.new.pool.trees _ c.renewed_summand.ensures.kept c.in_ok-renewed_summand.ensures.within c.in_ok-renewed_summand.ensures.renewed),
  c.renewed_summand.ensures.constants ∙ c.loop-summand.invariant.1,
)

pub returns-clause-renewed : goal.returns-clause-renewed
returns-clause-renewed c =
    let n = c.loop-summand-test.false in
    let l : length c.args.summands.now ≤ c.loop-summand.summand-index = omega (arith, n) in
    subst (λ z. AreRenewedSummands c.args.pool.now.trees c.loop-summand.pool.trees c.args.old.now c.args.new.now (map plain_summand z) (map plain_summand c.loop-summand.made.items)) (take_all c.loop-summand.summand-index c.args.summands.now l) c.loop-summand.invariant.0.so_far
