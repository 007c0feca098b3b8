use Rattle.std.proofs.Common.{◌∙◌, map, take, sym, ap₂, subst}
use Rattle.std.specs.List.{All}
use Rattle.std.proofs.lemmas.List.{take_all}
use Rattle.data_theory.specs.Table.{bool_sort}
use Rattle.process_terms.specs.PlainProcesses.{plain_action}
use Rattle.lps_core.specs.PlainLinears.{plain_summand}
use Rattle.lps_core.specs.Fitting.{IsActionOf}
use Rattle.lps_core.proofs.PoolTrees.{extends_on}
use Rattle.communication.specs.GrownSummands.{SummandsGrow}
use Rattle.communication.specs.PlanMeanings.{PlanFits}
use Rattle.communication.specs.Places.{plain_item}
use Rattle.communication.specs.Plans.{plain_plan, planned}
use Rattle.communication.proofs.PartTerms.{term_fits_on}
use Rattle.communication.proofs.GrowingSummands.{serves_still, way_at, within_at, results_at, plan_fits_on, label_fits_on, way_more, ways_summands}
use Rattle.communication.proofs.around.add_ways.Goals as goal

pub plan_of-requires-clause-within : goal.plan_of-requires-clause-within
plan_of-requires-clause-within c =
    within_at c.args.sig.now c.args.pool.now.trees c.args.rules.now c.args.summand.now.label.actions.items c.as_slice.result.now c.way-item.result.items.items c.as_slice-in-loop-way.result.now c.as_slice.ensures.value c.as_slice-in-loop-way.ensures.value
    (way_at c.args.sig.now c.args.pool.now.trees c.args.rules.now (plain_summand c.args.summand.now).label c.args.ways.now c.loop-way.way-index c.way-item.result c.loop-way-test.true c.way-item.is c.requires.ways)

pub plan_of-requires-clause-results : goal.plan_of-requires-clause-results
plan_of-requires-clause-results c =
    results_at c.args.sig.now c.args.pool.now.trees c.args.rules.now c.args.summand.now.label.actions.items c.as_slice.result.now c.way-item.result.items.items c.as_slice-in-loop-way.result.now c.as_slice.ensures.value c.as_slice-in-loop-way.ensures.value
    (way_at c.args.sig.now c.args.pool.now.trees c.args.rules.now (plain_summand c.args.summand.now).label c.args.ways.now c.loop-way.way-index c.way-item.result c.loop-way-test.true c.way-item.is c.requires.ways)

pub add_planned-requires-clause-cond : goal.add_planned-requires-clause-cond
add_planned-requires-clause-cond c = term_fits_on c.args.sig.now c.args.pool.now.trees c.loop-way.pool.trees c.loop-way.invariant.0 bool_sort (plain_summand c.args.summand.now).condition c.requires.cond

pub add_planned-requires-clause-plan : goal.add_planned-requires-clause-plan
add_planned-requires-clause-plan c =
    let g = c.args.sig.now in
    let s = plain_summand c.args.summand.now in
    let rules = c.args.rules.now in
    let serve = way_at g c.args.pool.now.trees rules s.label c.args.ways.now c.loop-way.way-index c.way-item.result c.loop-way-test.true c.way-item.is c.requires.ways in
    subst (λ p. PlanFits g c.loop-way.pool.trees p)
    (sym (c.in_ok-plan.ensures ∙ ap₂ (λ xs vs. planned g rules (map plain_action xs) (map plain_item vs)) c.as_slice.ensures.value c.as_slice-in-loop-way.ensures.value))
    (plan_fits_on g c.args.pool.now.trees c.loop-way.pool.trees c.loop-way.invariant.0 (planned g rules s.label (map plain_item c.way-item.result.items.items)) serve.fits)

pub add_planned-requires-clause-label : goal.add_planned-requires-clause-label
add_planned-requires-clause-label c =
    let g = c.args.sig.now in
    let s = plain_summand c.args.summand.now in
    let rules = c.args.rules.now in
    let serve = way_at g c.args.pool.now.trees rules s.label c.args.ways.now c.loop-way.way-index c.way-item.result c.loop-way-test.true c.way-item.is c.requires.ways in
    label_fits_on g c.args.pool.now.trees c.loop-way.pool.trees c.loop-way.invariant.0 (plain_plan c.in_ok-plan.plan).label
    (subst (λ p. All (IsActionOf g c.args.pool.now.trees) p.label)
    (sym (c.in_ok-plan.ensures ∙ ap₂ (λ xs vs. planned g rules (map plain_action xs) (map plain_item vs)) c.as_slice.ensures.value c.as_slice-in-loop-way.ensures.value)) serve.label)

pub loop-way-preserved : goal.loop-way-preserved
loop-way-preserved c =
    let g = c.args.sig.now in
    let s = plain_summand c.args.summand.now in
    let rules = c.args.rules.now in
    let ts = c.args.pool.now.trees in
    let us = c.loop-way.pool.trees in
    let vs = c.add_planned.new.pool.trees in
    let serve = way_at g ts rules s.label c.args.ways.now c.loop-way.way-index c.way-item.result c.loop-way-test.true c.way-item.is c.requires.ways in (
      extends_on ts us vs c.loop-way.invariant.0 c.add_planned.ensures.kept,
      c.add_planned.ensures.constants ∙ c.loop-way.invariant.1,
      λ ps h.
          way_more g c.signature_stands.ensures ts us vs c.loop-way.invariant.0 ps (map plain_summand c.args.found.now.items) (map plain_summand c.loop-way.found.items) (map plain_summand c.add_planned.new.found.items) rules s c.args.ways.now c.loop-way.way-index c.way-item.result (plain_plan c.in_ok-plan.plan)
          c.loop-way-test.true c.way-item.is serve
          (c.in_ok-plan.ensures ∙ ap₂ (λ xs vs. planned g rules (map plain_action xs) (map plain_item vs)) c.as_slice.ensures.value c.as_slice-in-loop-way.ensures.value) h
          (c.loop-way.invariant.2 ps h) (c.in_ok-add_planned.ensures.added ps (serves_still g c.signature_stands.ensures ts us c.loop-way.invariant.0 ps s h)),
    )

pub returns-clause-added : goal.returns-clause-added
returns-clause-added c =
    λ ps h.
    subst (λ z. SummandsGrow c.args.sig.now ps c.args.pool.now.trees (map plain_summand c.args.found.now.items) c.loop-way.pool.trees (map plain_summand c.loop-way.found.items) z)
    (ways_summands c.args.sig.now c.args.pool.now.trees c.args.rules.now (plain_summand c.args.summand.now) c.args.ways.now (take c.loop-way.way-index c.args.ways.now) (take_all c.loop-way.way-index c.args.ways.now c.loop-way-test.false))
    (c.loop-way.invariant.2 ps h)
