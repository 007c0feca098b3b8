use Rattle.std.proofs.Common.{◌∙◌, map, take, sym, subst, ◌+◌}
use Rattle.std.specs.Prelude.{Vec}
use Rattle.std.specs.Global.{Global}
use Rattle.std.proofs.lemmas.List.{take_all}
use Rattle.lps_core.proofs.PoolTrees.{extends_on}
use Rattle.communication.specs.declared.plans.Equality.{Equality}
use Rattle.communication.specs.PlanMeanings.{against, AreFitting, IsPart}
use Rattle.communication.proofs.PartTerms.{PartsGrow, against_more, fitting_group, grown_each}
use Rattle.communication.proofs.conditions.add_against.Goals as goal

pub against-requires : goal.against-requires
against-requires c =
    subst (λ z. AreFitting c.args.sig.now c.loop-group.pool.trees z) (sym c.as_slice.ensures.value)
    (fitting_group c.args.sig.now c.args.pool.now.trees c.loop-group.pool.trees c.args.groups.now c.loop-group.group-index c.group-item.result c.loop-group.invariant.0 c.requires c.loop-group-test.true c.group-item.is)

pub loop-group-preserved : goal.loop-group-preserved
loop-group-preserved c =
    let g = c.args.sig.now in
    let ts = c.args.pool.now.trees in
    let us = c.loop-group.pool.trees in
    let vs = c.against.new.pool.trees in (
      extends_on ts us vs c.loop-group.invariant.0 c.against.ensures.kept,
      c.against.ensures.constants ∙ c.loop-group.invariant.1,
      subst (λ ids. PartsGrow g ts c.args.parts.now.items vs ids (map (λ (z : Vec Equality Global). against g ts z.items) (take (c.loop-group.group-index + 1) c.args.groups.now))) (sym c.in_ok-push.ensures.items)
          (against_more g ts us vs c.loop-group.invariant.0 c.against.ensures.kept c.args.parts.now.items c.loop-group.parts.items c.in_ok-against.field-0 c.args.groups.now c.loop-group.group-index c.group-item.result c.requires c.loop-group-test.true c.group-item.is
          (subst (λ z. IsPart g vs c.in_ok-against.field-0 (against g us z)) c.as_slice.ensures.value c.in_ok-against.ensures.means) c.loop-group.invariant.2),
    )

pub returns-clause-parts : goal.returns-clause-parts
returns-clause-parts c =
    grown_each c.args.sig.now c.args.pool.now.trees c.loop-group.pool.trees c.args.parts.now.items c.loop-group.parts.items c.args.groups.now (take c.loop-group.group-index c.args.groups.now) (take_all c.loop-group.group-index c.args.groups.now c.loop-group-test.false) c.loop-group.invariant.2
