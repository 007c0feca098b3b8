use Rattle.std.proofs.Common.{◌≡◌, ◌<◌, ◌≤◌, ◌+◌, ◌∷◌, [], ◌∙◌, ℕ, Some, map, length, refl, sym, ap, subst, arith, rules}
use Rattle.std.specs.Prelude.{slice_get}
use Rattle.std.specs.List.{All}
use Rattle.std.proofs.lemmas.List.{length-map, length-append, map-append}
use Rattle.std.proofs.lemmas.List.Elements.{All-nil, All-cons}
use Rattle.lps_core.proofs.Members.{all_at}
use Rattle.lps_core.proofs.NamedSums.{names_none, names_then}
use Rattle.lps_core.proofs.PoolTrees.{extends_itself, extends_on}
use Rattle.greibach.specs.PlainForms.{plain_equation, plain_form_summand}
use Rattle.greibach.specs.PlacesInCode.{plain_place, plain_places}
use Rattle.greibach.proofs.ReadPlaces.{still_read}
use Rattle.greibach.proofs.GrownFits.{since_grows}
use Rattle.greibach.proofs.FittingHeads.{meets_only}
use Rattle.greibach.proofs.StartedEquations.{equations_grow, equations_more, few_met}
use Rattle.greibach.proofs.MadeForms.{nothing_mapped, params_of_signature, first_met, no_equations}
use Rattle.greibach.proofs.MadeHeads.{makes_first, makes_next}
use Rattle.greibach.proofs.normal_forms.equations.Goals as goal

pub returns-in_err-number-clause-grown : goal.returns-in_err-number-clause-grown
returns-in_err-number-clause-grown c = names_none c.args.sig.now c.requires.stands

pub loop-alloc-init : goal.loop-alloc-init
loop-alloc-init c = record {
  grown = names_none c.args.sig.now c.requires.stands;
  kept = extends_itself c.args.pool.now.trees;
  constants = refl;
  names = c.requires.names;
  met = meets_only (λ (n : ℕ). n < length c.args.places.now.places.items) c.in_ok-number.ensures.met (subst (All (λ (n : ℕ). n < length c.args.places.now.places.items)) (sym c.new.ensures.empty) (All-nil (λ (n : ℕ). n < length c.args.places.now.places.items)))
      (All-cons (λ (n : ℕ). n < length c.args.places.now.places.items) c.args.places.now.start [] c.requires.start (All-nil (λ (n : ℕ). n < length c.args.places.now.places.items)));
  waiting = c.new-2.ensures.items;
  summands = c.new-3.ensures.items;
  starts = first_met c.args.places.now.start c.in_ok-number.ensures.met c.new.ensures.empty;
  made = no_equations c.args.sig.now c.args.pool.now.trees (map plain_place c.args.places.now.places.items) c.number.new.met.keys (map plain_equation c.new-equations.result.items) (ap (map plain_equation) c.new-equations.ensures.items);
  heads = makes_first c.args.sig.now c.args.pool.now.trees (plain_places c.args.places.now) c.args.places.now.start c.new.result.keys c.number.new.met.keys (map plain_equation c.new-equations.result.items) c.in_ok-number.ensures.met c.new.ensures.empty (ap (map plain_equation) c.new-equations.ensures.items);
}

pub equation-requires-clause-table : goal.equation-requires-clause-table
equation-requires-clause-table c = since_grows c.args.sig.now c.loop-alloc.sig c.args.pool.now.trees c.loop-alloc.pool.trees (plain_places c.args.places.now) c.loop-alloc.invariant.grown c.loop-alloc.invariant.kept c.requires.table

pub equation-requires-clause-place : goal.equation-requires-clause-place
equation-requires-clause-place c =
    let at : slice_get c.loop-alloc.under_way.met.keys (length c.loop-alloc.equations.items) ≡ Some c.index-place.result.now = search rules in
    all_at (λ (n : ℕ). n < length c.args.places.now.places.items) c.loop-alloc.under_way.met.keys (length c.loop-alloc.equations.items) c.index-place.result.now c.loop-alloc.invariant.met at

pub loop-alloc-smaller : goal.loop-alloc-smaller
loop-alloc-smaller c =
    let few = few_met (length c.args.places.now.places.items) c.loop-alloc.under_way.met.keys c.len-in-loop-alloc.ensures.unique c.loop-alloc.invariant.met in
    let some : length c.loop-alloc.equations.items < length c.loop-alloc.under_way.met.keys = search rules in
    let more : length c.push.new.self.items ≡ length c.loop-alloc.equations.items + 1 = ap length c.in_ok-push.ensures.items ∙ length-append c.loop-alloc.equations.items (c.in_ok-made.made ∷ []) in
    omega (arith, few, some, more)

pub loop-alloc-preserved : goal.loop-alloc-preserved
loop-alloc-preserved c =
    let i = c.loop-alloc.invariant in
    let r = c.in_ok-made.ensures.made in
    let g = c.loop-alloc.sig in
    let h = c.equation.new.sig in
    let ts = c.loop-alloc.pool.trees in
    let us = c.equation.new.pool.trees in
    let t = plain_places c.args.places.now in
    let at : slice_get c.loop-alloc.under_way.met.keys (length c.loop-alloc.equations.items) ≡ Some c.index-place.result.now = search rules in
    let count = length-map c.loop-alloc.equations.items plain_equation in
    let since = since_grows c.args.sig.now g c.args.pool.now.trees ts t i.grown i.kept c.requires.table in
    let grown = equations_grow g h ts us i.grown.stands c.in_ok-made.ensures.grown c.in_ok-made.ensures.kept t.places c.loop-alloc.under_way.met.keys c.equation.new.under_way.met.keys r.met (params_of_signature g ts t since) (map plain_equation c.loop-alloc.equations.items) i.made in
    record {
      grown = names_then c.args.sig.now g h i.grown c.in_ok-made.ensures.grown;
      kept = extends_on c.args.pool.now.trees ts us i.kept c.in_ok-made.ensures.kept;
      constants = c.in_ok-made.ensures.constants ∙ i.constants;
      names = r.names;
      met = subst (λ n. All (λ (m : ℕ). m < n) c.equation.new.under_way.met.keys) (length-map c.args.places.now.places.items plain_place) r.met_there;
      waiting = nothing_mapped (λ z. (z.0, z.1.items)) c.equation.new.under_way.waiting.items r.waiting;
      summands = nothing_mapped plain_form_summand c.equation.new.under_way.summands.items r.summands;
      starts = still_read c.loop-alloc.under_way.met.keys c.equation.new.under_way.met.keys 0 c.args.places.now.start r.met i.starts;
      made = equations_more h us t.places c.equation.new.under_way.met.keys (map plain_equation c.loop-alloc.equations.items) (map plain_equation c.push.new.self.items) c.index-place.result.now (plain_equation c.in_ok-made.made) grown
          (subst (λ n. slice_get c.equation.new.under_way.met.keys n ≡ Some c.index-place.result.now) (sym count) (still_read c.loop-alloc.under_way.met.keys c.equation.new.under_way.met.keys (length c.loop-alloc.equations.items) c.index-place.result.now r.met at)) r.equation
          (ap (map plain_equation) c.in_ok-push.ensures.items ∙ map-append plain_equation c.loop-alloc.equations.items (c.in_ok-made.made ∷ []));
      heads = makes_next g h ts us t c.args.places.now.start c.index-place.result.now c.loop-alloc.under_way.met.keys c.equation.new.under_way.met.keys (map plain_equation c.loop-alloc.equations.items) (map plain_equation c.push.new.self.items) (plain_equation c.in_ok-made.made) c.in_ok-made.ensures.grown c.in_ok-made.ensures.kept
          (subst (λ n. slice_get c.loop-alloc.under_way.met.keys n ≡ Some c.index-place.result.now) (sym count) at) (ap (map plain_equation) c.in_ok-push.ensures.items ∙ map-append plain_equation c.loop-alloc.equations.items (c.in_ok-made.made ∷ [])) i.heads c.in_ok-made.ensures.heads;
    }

pub returns-clause-heads : goal.returns-clause-heads
returns-clause-heads c =
    let l : length c.loop-alloc.under_way.met.keys ≤ length c.loop-alloc.equations.items = search rules in
    let m = length-map c.loop-alloc.equations.items plain_equation in
    λ k ws sk grow. record { met = c.loop-alloc.under_way.met.keys; makes = c.loop-alloc.invariant.heads k ws sk grow; all = omega (arith, l, m) }
