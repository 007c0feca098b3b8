use Rattle.std.proofs.Common.{◌∙◌, map, rules, take, sym, subst, ◌+◌}
use Rattle.lps_core.proofs.PoolTrees.{extends_on}
use Rattle.communication.specs.PlanMeanings.{equality_of}
use Rattle.communication.proofs.PartTerms.{PartsGrow, equalities_more}
use Rattle.communication.proofs.conditions.add_equalities.Goals as goal

pub loop-one-preserved : goal.loop-one-preserved
loop-one-preserved c =
    let g = c.args.sig.now in
    let ts = c.args.pool.now.trees in
    let us = c.loop-one.pool.trees in
    let vs = c.equality.new.pool.trees in (
      extends_on ts us vs c.loop-one.invariant.0 c.equality.ensures.kept,
      c.equality.ensures.constants ∙ c.loop-one.invariant.1,
      subst (λ ids. PartsGrow g ts c.args.parts.now.items vs ids (map (equality_of g ts) (take (c.loop-one.one-index + 1) c.args.asked.now))) (sym c.in_ok-push.ensures.items)
          (equalities_more g ts us vs c.loop-one.invariant.0 c.equality.ensures.kept c.args.parts.now.items c.loop-one.parts.items c.in_ok-equality.field-0 c.args.asked.now c.loop-one.one-index _ c.requires c.loop-one-test.true (search rules) c.in_ok-equality.ensures.means c.loop-one.invariant.2),
    )
