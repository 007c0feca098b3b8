use Rattle.std.proofs.Common.{◌+◌, ◌≤◌, length, arith, subst, sym, refl, ◌∙◌}
use Rattle.std.specs.List.{All, Contains}
use Rattle.lps_core.specs.PlainLinears.{PlainSummand, plain_summand}
use Rattle.lps_core.specs.Fitting.{IsVariable}
use Rattle.lps_core.specs.TreeSummands.{IsSummandIn}
use Rattle.lps_core.proofs.KeptSummands.{summand_in_kept}
use Rattle.lps_core.proofs.NamedSums.{variable_kept}
use Rattle.lps_core.proofs.NamingLoops.{IsNamingSummands, naming_no_summands, naming_one_summand, naming_all_summands, item_is}
use Rattle.lps_core.proofs.naming.name_summands.Goals as goal

pub loop-summand-init : goal.loop-summand-init
loop-summand-init c = (
  subst (λ z. IsNamingSummands (λ n. Contains c.args.used.now.keys n) c.args.sig.now c.args.pool.now.trees c.args.summands.now 0 c.args.sig.now c.args.pool.now.trees z) (sym c.new-named.ensures.items) (naming_no_summands _ _ _ _ c.requires.stands),
  refl,
)

pub name_summand-requires-clause-sums : goal.name_summand-requires-clause-sums
name_summand-requires-clause-sums c =
    let own = item_is (λ (s : PlainSummand). All (IsVariable c.args.sig.now) s.sums) c.args.summands.now c.loop-summand.summand-index c.summand-item.result c.loop-summand-test.true c.summand-item.is c.requires.sums in
    λ k d l. variable_kept c.args.sig.now c.loop-summand.sig _ c.loop-summand.invariant.0.on.grown (own k d l)

pub name_summand-requires-clause-within : goal.name_summand-requires-clause-within
name_summand-requires-clause-within c =
    summand_in_kept c.args.pool.now.trees c.loop-summand.pool.trees c.loop-summand.invariant.0.kept (plain_summand c.summand-item.result)
    (item_is (IsSummandIn c.args.pool.now.trees) c.args.summands.now c.loop-summand.summand-index c.summand-item.result c.loop-summand-test.true c.summand-item.is c.requires.within)

pub loop-summand-preserved : goal.loop-summand-preserved
loop-summand-preserved c = (
  subst (λ z. IsNamingSummands (λ n. Contains c.args.used.now.keys n) c.args.sig.now c.args.pool.now.trees c.args.summands.now (c.loop-summand.summand-index + 1) c.name_summand.new.sig c.name_summand.new.pool.trees z) (sym c.in_ok-push.ensures.items)
      (naming_one_summand (λ n. Contains c.args.used.now.keys n) c.args.sig.now c.args.pool.now.trees c.args.summands.now c.loop-summand.summand-index c.loop-summand.sig c.loop-summand.pool.trees c.loop-summand.named.items c.summand-item.result
      c.loop-summand.invariant.0 c.loop-summand-test.true c.summand-item.is
      (item_is (IsSummandIn c.args.pool.now.trees) c.args.summands.now c.loop-summand.summand-index c.summand-item.result c.loop-summand-test.true c.summand-item.is c.requires.within)
      c.name_summand.new.sig c.name_summand.new.pool.trees _ c.name_summand.ensures.grown c.name_summand.ensures.kept c.in_ok-name_summand.ensures.named c.in_ok-name_summand.ensures.within c.in_ok-name_summand.ensures.other),
  c.name_summand.ensures.constants ∙ c.loop-summand.invariant.1,
)

pub returns-clause-named : goal.returns-clause-named
returns-clause-named c =
    let n = c.loop-summand-test.false in
    let l : length c.args.summands.now ≤ c.loop-summand.summand-index = omega (arith, n) in
    naming_all_summands (λ n. Contains c.args.used.now.keys n) c.args.sig.now c.args.pool.now.trees c.args.summands.now c.loop-summand.summand-index c.loop-summand.sig c.loop-summand.pool.trees c.loop-summand.named.items c.loop-summand.invariant.0 l
