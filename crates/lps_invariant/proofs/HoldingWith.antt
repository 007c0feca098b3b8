-- Where a linear process in code is answered to hold an invariant, it does, and what is left is bisimilar.
use Rattle.std.proofs.Common.{◌≡◌, ℕ, List, [], ◌∷◌, map, refl, sym, ap, ap₂, ◌∙◌, subst}
use Rattle.std.specs.Prelude.{Contains}
use Rattle.std.specs.List.{All}
use Rattle.std.proofs.lemmas.List.Elements.{All-head, All-tail, All-contains_itself}
use Rattle.data_theory.specs.declared.ids.TermId.{TermId}
use Rattle.data_theory.specs.Terms.{boolean, Term}
use Rattle.data_theory.specs.Declarations.{HasSort, HaveSorts}
use Rattle.data_theory.specs.EqualityLaws.{AreAmong}
use Rattle.data_theory.specs.Provable.{Equation}
use Rattle.data_theory.specs.Rewriting.{AreSorts}
use Rattle.data_theory.specs.Environments.{terms_of}
use Rattle.data_theory.specs.Signature.{Sig}
use Rattle.data_theory.specs.IdData.{data_meant}
use Rattle.data_theory.specs.IdTrees.{Tree}
use Rattle.data_theory.specs.IdTerms.{variable_sorts}
use Rattle.data_theory.specs.WholeSignatures.{IsSignature}
use Rattle.data_theory.proofs.GrowthLemmas.{growth_keeps_sorts}
use Rattle.data_theory.proofs.IdDataLemmas.{meant_data_are_data}
use Rattle.data_theory.proofs.StandingLemmas.{variables_have_sorts_of_the_data}
use Rattle.data_rewriter.specs.declared.rewriter.Truth.{Truth}
use Rattle.data_rewriter.specs.Simplifying.{AreLater, AreWellFormed}
use Rattle.data_rewriter.specs.Standing.{term_at}
use Rattle.term_pool.specs.Pools.{Extends}
use Rattle.process_terms.specs.Theories.{Theory}
use Rattle.process_terms.specs.Meanings as meanings
use Rattle.process_terms.specs.Meanings.{bound_at}
use Rattle.process_terms.specs.SignatureEntries.{entries_of}
use Rattle.bisim_laws.specs.LinearProcesses as theory
use Rattle.bisim_laws.specs.LinearProcesses.{sorts, state_of}
use Rattle.bisim_laws.specs.Links.{Held, IsGood}
use Rattle.lps_core.specs.Fitting.{sort_of_variable, Fits, SummandFits, HasTakenName}
use Rattle.lps_core.specs.GoingOn.{GoesOn}
use Rattle.lps_core.specs.PlainLinears.{PlainSummand, PlainLinear, linear_of, summand_of, initial_of}
use Rattle.lps_core.proofs.GrowingData.{sort_grown, linear_grown, terms_grown}
use Rattle.lps_core.proofs.Members.{contains_map, map_contains}
use Rattle.lps_core.proofs.Staying.{summand_stays, condition_sorted, sorts_of_variables, term_is, terms_sorted, what_fits_is_sorted, what_fits_stays}
use Rattle.lps_invariant.specs.Places.{IsShown, IsContradictory, AreJudged, none_to_judge, it_stays, it_is_left_out}
use Rattle.lps_invariant.specs.InvariantLaws.{IsInvariantOf, IsJudged, with_summands}
use Rattle.lps_invariant.specs.Decisions.{IsProvedWhole, IsRefuted, IsJudgedBy}
use Rattle.lps_invariant.specs.Judging.{AreSifted, none_to_sift, one_stays, one_goes, IsInvariantIn, IsShownWith, HoldsWith, PlaceOf}
use Rattle.lps_invariant.specs.HoldingLaws.{HoldsInEveryRun, LeftOutAreContradictory, HoldingIsGood, WhatHoldsIsAnInvariant}
use Rattle.lps_invariant.proofs.DecidedPlaces.{decisions_tell, summand_shown, summand_refuted}
use Rattle.lps_invariant.proofs.HeldInvariants.{invariant_holds, held_good}
use Rattle.lps_invariant.proofs.JudgedSummands.{both_grow, linear_stays, place_weaker}
use Rattle.lps_invariant.proofs.Sifting.{sifted_all, sifted_among, sifted_weaker_on}

-- ---- what is left
module _ (g : Sig) (own : List Equation) (fuel : ℕ) (ts us : List Tree) (l : PlainLinear) (inv : TermId) (k : PlainLinear) (truths : List (List Truth)) (stands : IsSignature g) (fits : Fits g ts l) (extends : Extends ts us) (holds : HoldsWith g own fuel ts us l inv k truths) where
  left_fit : All (SummandFits g ts l.params) k.summands
  left_fit = sifted_all (λ s a. PlaceOf (IsShownWith g own fuel us a) g ts l inv s) (PlaceOf (IsRefuted (data_meant g) own fuel) g ts l inv) (SummandFits g ts l.params) holds.summands fits.summands

  same_summands : (ss : List PlainSummand) → All (SummandFits g ts l.params) ss → map (summand_of (entries_of g us)) ss ≡ map (summand_of (entries_of g ts)) ss
  same_summands [] h = refl
  same_summands (s ∷ ss) h =
      ap₂ (λ t zs. t ∷ zs) (summand_stays g g ts us stands.table stands.complete (both_grow g ts us extends) l.params s (All-head (SummandFits g ts l.params) s ss h)) (same_summands ss (All-tail (SummandFits g ts l.params) s ss h))

  same_linear : linear_of (entries_of g us) l ≡ linear_of (entries_of g ts) l
  same_linear = (what_fits_stays g g ts us l stands.table stands.complete (both_grow g ts us extends) fits).0

  fits_later : Fits g us l
  fits_later = linear_stays g stands ts us l extends fits

  among : (s : PlainSummand) → Contains k.summands s → Contains l.summands s
  among s i = sifted_among (λ s a. PlaceOf (IsShownWith g own fuel us a) g ts l inv s) (PlaceOf (IsRefuted (data_meant g) own fuel) g ts l inv) holds.summands s i

  fits_with : Fits g us (record { params = l.params; init = l.init; summands = k.summands })
  fits_with = record {
    params = fits_later.params;
    init = fits_later.init;
    closed = fits_later.closed;
    summands = sifted_all (λ s a. PlaceOf (IsShownWith g own fuel us a) g ts l inv s) (PlaceOf (IsRefuted (data_meant g) own fuel) g ts l inv) (SummandFits g us l.params) holds.summands fits_later.summands;
    linear = record {
      distinct = fits_later.linear.distinct;
      summands = λ s i.
          let r = contains_map (summand_of (entries_of g us)) k.summands s i in
          subst (theory.IsSummand (linear_of (entries_of g us) l).params) (sym r.1.1) (fits_later.linear.summands (summand_of (entries_of g us) r.0) (map_contains (summand_of (entries_of g us)) l.summands r.0 (among r.0 r.1.0)));
    };
    taken = fits_later.taken;
    sums_taken = sifted_all (λ s a. PlaceOf (IsShownWith g own fuel us a) g ts l inv s) (PlaceOf (IsRefuted (data_meant g) own fuel) g ts l inv) (λ (s : PlainSummand). All (HasTakenName g) s.sums) holds.summands fits_later.sums_taken;
  }

  pub left_fits : Fits g us k
  left_fits = subst (Fits g us) (ap₂ (λ ps is. record { params = ps; init = is; summands = k.summands }) (sym holds.params) (sym holds.init)) fits_with

-- ---- what follows
module _ (g : Sig) (own : List Equation) (fuel : ℕ) (ts us : List Tree) (l : PlainLinear) (inv : TermId) (k : PlainLinear) (truths : List (List Truth)) (stands : IsSignature g) (fine : AreWellFormed g own) (fits : Fits g ts l) (invariant : IsInvariantIn g ts l inv) (extends : Extends ts us) (holds : HoldsWith g own fuel ts us l inv k truths) where
  abbrev L : theory.Linear
  L = linear_of (entries_of g ts) l

  abbrev I : Term
  I = term_at g ts inv

  -- the summands that stay
  abbrev KS : List theory.Summand
  KS = map (summand_of (entries_of g ts)) k.summands

  -- the boolean term
  boolean_there : HasSort (data_meant g) (variable_sorts g) I boolean
  boolean_there = subst (λ z. HasSort (data_meant g) (variable_sorts g) z boolean) (term_is g ts inv invariant.term.within) (condition_sorted g ts inv stands.table invariant.term)

  -- variables have sorts of the data
  sorts_there : AreSorts (data_meant g) (variable_sorts g)
  sorts_there = variables_have_sorts_of_the_data g stands

  -- ---- what stays
  all_judged : {ss ks : List PlainSummand} {answers : List (List Truth)} → AreSifted (λ s a. PlaceOf (IsShownWith g own fuel us a) g ts l inv s) (PlaceOf (IsRefuted (data_meant g) own fuel) g ts l inv) ss ks answers
      → AreJudged (IsProvedWhole (data_meant g) own fuel) (IsRefuted (data_meant g) own fuel) L.params I (map (summand_of (entries_of g ts)) ss) (map (summand_of (entries_of g ts)) ks)
  all_judged none_to_sift = none_to_judge
  all_judged (one_stays {x = s} {b = a} h w) = it_stays (place_weaker (IsShownWith g own fuel us a) (IsProvedWhole (data_meant g) own fuel) (λ p z. z.goals) L.params I (summand_of (entries_of g ts) s) h) (all_judged w)
  all_judged (one_goes h w) = it_is_left_out h (all_judged w)

  judged_there : IsJudgedBy (data_meant g) own fuel L I (initial_of (entries_of g ts) l) KS
  judged_there = record { start = holds.start; summands = all_judged holds.summands }

  kept_params : (linear_of (entries_of g us) k).params ≡ L.params
  kept_params = ap (λ ps. map (bound_at (entries_of g us)) ps) holds.params ∙ ap (λ (z : theory.Linear). z.params) (same_linear g own fuel ts us l inv k truths stands fits extends holds)

  init_kept : initial_of (entries_of g us) k ≡ initial_of (entries_of g ts) l
  init_kept = ap (map (meanings.term_at (entries_of g us))) holds.init ∙ (what_fits_stays g g ts us l stands.table stands.complete (both_grow g ts us extends) fits).1

  left_is : linear_of (entries_of g us) k ≡ with_summands L KS
  left_is = ap₂ (λ ps ss. record { params = ps; summands = ss }) kept_params (same_summands g own fuel ts us l inv k truths stands fits extends holds k.summands (left_fit g own fuel ts us l inv k truths stands fits extends holds))

  init_sorted : HaveSorts (data_meant g) (variable_sorts g) (terms_of (initial_of (entries_of g ts) l)) (sorts L.params)
  init_sorted = subst (λ ss. HaveSorts (data_meant g) (variable_sorts g) (terms_of (initial_of (entries_of g ts) l)) ss) (sym (sorts_of_variables g ts l.params fits.params)) (terms_sorted g ts (map (sort_of_variable g) l.params) l.init stands.table fits.init)

  -- ---- over a theory
  module _ (th : Theory) (on : GoesOn g th) (with_own : AreAmong own th.equations) where
    later : AreLater g own th.declared th.equations
    later = record { grows = on.grows; is_data = on.is_data; among = with_own }

    invariant_there : IsInvariantOf th (variable_sorts g) L I (initial_of (entries_of g ts) l)
    invariant_there = record {
      linear = fits.linear;
      sorted = linear_grown (data_meant g) th.declared on.grows (variable_sorts g) L (what_fits_is_sorted g ts l stands.table stands.complete fits);
      variable_sorts = λ v s d. sort_grown (data_meant g) th.declared on.grows s (sorts_there v s d);
      inhabited = on.inhabited;
      over = invariant.over;
      sort = growth_keeps_sorts (data_meant g) th.declared on.grows (variable_sorts g) I boolean boolean_there;
      of_sorts = terms_grown (data_meant g) th.declared on.grows [] (terms_of (initial_of (entries_of g ts) l)) (sorts L.params) fits.closed;
    }

    judged_over : IsJudged th (variable_sorts g) L I (initial_of (entries_of g ts) l) KS
    judged_over =
        decisions_tell g own fuel (variable_sorts g) L I (initial_of (entries_of g ts) l) KS fine sorts_there (meant_data_are_data g stands.table stands.roles) fits.linear
        (what_fits_is_sorted g ts l stands.table stands.complete fits) boolean_there init_sorted judged_there th later

    sifted_over : AreSifted (λ s a. PlaceOf (IsShown th (variable_sorts g)) g ts l inv s) (PlaceOf (IsContradictory th (variable_sorts g)) g ts l inv) l.summands k.summands truths
    sifted_over =
        sifted_weaker_on (λ s. Contains l.summands s) (λ s a. PlaceOf (IsShownWith g own fuel us a) g ts l inv s) (λ s a. PlaceOf (IsShown th (variable_sorts g)) g ts l inv s) (PlaceOf (IsRefuted (data_meant g) own fuel) g ts l inv) (PlaceOf (IsContradictory th (variable_sorts g)) g ts l inv)
        (λ s a i h.
        summand_shown g own fuel (variable_sorts g) fine sorts_there (meant_data_are_data g stands.table stands.roles) th later L I (initial_of (entries_of g ts) l) fits.linear (what_fits_is_sorted g ts l stands.table stands.complete fits) boolean_there init_sorted (summand_of (entries_of g ts) s)
        (map_contains (summand_of (entries_of g ts)) l.summands s i) (place_weaker (IsShownWith g own fuel us a) (IsProvedWhole (data_meant g) own fuel) (λ p z. z.goals) L.params I (summand_of (entries_of g ts) s) h))
        (λ s i h.
        summand_refuted g own fuel (variable_sorts g) fine sorts_there (meant_data_are_data g stands.table stands.roles) th later L I (initial_of (entries_of g ts) l) fits.linear (what_fits_is_sorted g ts l stands.table stands.complete fits) boolean_there init_sorted (summand_of (entries_of g ts) s)
        (map_contains (summand_of (entries_of g ts)) l.summands s i) h)
        (All-contains_itself l.summands) holds.summands

  pub in_every_run : HoldsInEveryRun g own ts l inv
  in_every_run th on with_own ms p run = invariant_holds th (variable_sorts g) L I (initial_of (entries_of g ts) l) KS (invariant_there th on with_own) (judged_over th on with_own) ms p run

  pub left_out : LeftOutAreContradictory g own ts l inv k truths
  left_out th on with_own = sifted_over th on with_own

  pub good_left : HoldingIsGood g own ts us l inv k
  good_left th on with_own con =
      subst (λ (z : theory.Linear). IsGood th (Held I L z) (state_of L (initial_of (entries_of g ts) l)) (state_of z (initial_of (entries_of g us) k))) (sym left_is)
      (subst (λ ins. IsGood th (Held I L (with_summands L KS)) (state_of L (initial_of (entries_of g ts) l)) (state_of (with_summands L KS) ins)) (sym init_kept)
      (held_good th (variable_sorts g) L I (initial_of (entries_of g ts) l) KS con (invariant_there th on with_own) (judged_over th on with_own)))

pub what_holds : WhatHoldsIsAnInvariant
what_holds g own fuel ts us l inv k truths stands fine fits invariant extends holds = record {
  in_every_run = in_every_run g own fuel ts us l inv k truths stands fine fits invariant extends holds;
  left_out = left_out g own fuel ts us l inv k truths stands fine fits invariant extends holds;
  good = good_left g own fuel ts us l inv k truths stands fine fits invariant extends holds;
  fits = left_fits g own fuel ts us l inv k truths stands fits extends holds;
}
