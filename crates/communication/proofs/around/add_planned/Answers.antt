use Rattle.std.proofs.Common.{◌∙◌, map, sym, subst}
use Rattle.lps_core.specs.PlainLinears.{plain_summand}
use Rattle.communication.specs.GrownSummands.{SummandsGrow}
use Rattle.communication.specs.PlanLaws.{planned_summand}
use Rattle.communication.specs.Plans.{plain_plan}
use Rattle.communication.proofs.GrowingSummands.{grow_none, planned_none, planned_added}
use Rattle.communication.proofs.around.add_planned.Goals as goal

pub returns-then-is_shut-clause-added : goal.returns-then-is_shut-clause-added
returns-then-is_shut-clause-added c =
    λ ps h. grow_none c.args.sig.now ps c.args.pool.now.trees (map plain_summand c.args.found.now.items) (planned_summand c.args.sig.now c.args.pool.now.trees (plain_summand c.args.summand.now) (plain_plan c.args.plan))
    (planned_none c.args.sig.now c.args.pool.now.trees (plain_summand c.args.summand.now) (plain_plan c.args.plan) (sym c.is_shut.ensures ∙ c.if-is_shut.true))

pub returns-clause-added : goal.returns-clause-added
returns-clause-added c =
    let g = c.args.sig.now in
    let ts = c.args.pool.now.trees in
    let us = c.condition_of.new.pool.trees in
    let s = plain_summand c.args.summand.now in
    let p = plain_plan c.args.plan in
    λ ps h.
    subst (λ l. SummandsGrow g ps ts (map plain_summand c.args.found.now.items) us l (planned_summand g ts s p)) (sym c.in_ok-add_with.ensures)
    (planned_added g c.signature_stands.ensures ts us c.condition_of.ensures.kept ps s p h c.requires.label c.in_ok-cond.cond c.in_ok-cond.ensures.means (map plain_summand c.args.found.now.items) (sym c.is_shut.ensures ∙ c.if-is_shut.false))
