use Rattle.std.proofs.Common.{◌∙◌, map, length, sym, ap, subst}
use Rattle.std.specs.Prelude.{flat_map}
use Rattle.std.specs.List.{All}
use Rattle.process_terms.specs.PlainProcesses.{plain_action}
use Rattle.lps_core.specs.PlainLinears.{plain_summand}
use Rattle.action_filters.specs.Filters.{AreActionsIn}
use Rattle.action_filters.proofs.Whole.{actions_in}
use Rattle.communication.specs.GrownSummands.{SummandsGrow}
use Rattle.communication.specs.PlanLaws.{planned_summand, WayServes}
use Rattle.communication.specs.Places.{joining_of, placed, places_of, plain_way}
use Rattle.communication.specs.Plans.{planned}
use Rattle.communication.specs.Rounds.{items_of}
use Rattle.communication.specs.Ways.{ways}
use Rattle.communication.proofs.MeantPlans.{ways_serve, plans_mean_ways}
use Rattle.communication.proofs.around.add_communicated.Goals as goal

pub places_of-requires : goal.places_of-requires
places_of-requires c =
    subst (λ z. AreActionsIn c.args.sig.now (map plain_action z)) (sym c.as_slice.ensures.value) (actions_in c.args.sig.now c.args.pool.now.trees (plain_summand c.args.summand.now).label c.requires.fits.1.fits.label)

pub add_ways-requires-clause-actions : goal.add_ways-requires-clause-actions
add_ways-requires-clause-actions c = actions_in c.args.sig.now c.args.pool.now.trees (plain_summand c.args.summand.now).label c.requires.fits.1.fits.label

pub add_ways-requires-clause-cond : goal.add_ways-requires-clause-cond
add_ways-requires-clause-cond c = c.requires.fits.1.fits.condition

pub add_ways-requires-clause-ways : goal.add_ways-requires-clause-ways
add_ways-requires-clause-ways c =
    let g = c.args.sig.now in
    let s = plain_summand c.args.summand.now in
    let rules = c.args.rules.now in
    subst (λ z. All (WayServes g c.args.pool.now.trees rules s.label) z)
    (sym
    (ap (λ z. map items_of (map plain_way z)) c.as_slice-2.ensures.value ∙ c.in_ok-ways.ensures
    ∙ ap (λ l. ways placed (map joining_of rules) (length l) l) (c.in_ok-places.ensures ∙ ap (λ z. places_of g (map plain_action z)) c.as_slice.ensures.value)))
    (ways_serve g c.args.pool.now.trees c.signature_stands.ensures rules c.requires.names c.requires.results s.label c.requires.fits.1.fits.label)

pub returns-clause-added : goal.returns-clause-added
returns-clause-added c =
    let g = c.args.sig.now in
    let s = plain_summand c.args.summand.now in
    let rules = c.args.rules.now in
    λ ps h.
    subst (λ z. SummandsGrow g ps c.args.pool.now.trees (map plain_summand c.args.found.now.items) c.add_ways.new.pool.trees (map plain_summand c.add_ways.new.found.items) z)
    (ap (flat_map (λ v. planned_summand g c.args.pool.now.trees s (planned g rules s.label v)))
    (ap (λ z. map items_of (map plain_way z)) c.as_slice-2.ensures.value ∙ c.in_ok-ways.ensures
    ∙ ap (λ l. ways placed (map joining_of rules) (length l) l) (c.in_ok-places.ensures ∙ ap (λ z. places_of g (map plain_action z)) c.as_slice.ensures.value))
    ∙ plans_mean_ways g c.args.pool.now.trees c.signature_stands.ensures rules c.requires.names c.requires.results s c.requires.fits.1.fits.label)
    (c.in_ok-add_ways.ensures.added ps h)
