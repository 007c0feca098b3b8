-- Combinations of listed values, and sums that are whole.
use Rattle.std.specs.Prelude.{◌≡◌, ◌⊎◌, ◌↔◌, ◌||◌, ℕ, Bool, true, false, not, List, [], ◌∷◌, map, IsTrue}
use Rattle.std.proofs.Common.{refl, sym, subst, ap, ◌∙◌, inl, inr, ⊎_elim}
use Rattle.std.specs.List.{AllZip, Contains, flat_map}
use Rattle.bisim_laws.proofs.Firing.{contains_first, contains_later, contains_cases, contains_none}
use Rattle.data_theory.specs.declared.ids.VarId.{VarId}
use Rattle.data_theory.specs.declared.ids.TermId.{TermId}
use Rattle.data_theory.specs.IdTrees.{Tree}
use Rattle.data_theory.specs.Provable.{Equation}
use Rattle.data_theory.specs.Signature.{Sig}
use Rattle.data_theory.specs.Terms.{Term}
use Rattle.term_pool.specs.ConstructorValues.{ConstructorValue}
use Rattle.value_enum.specs.Values.{AreWhole}
use Rattle.value_enum.proofs.OneList.{first_values_once}
use Rattle.data_rewriter.specs.Standing.{term_at}
use Rattle.process_terms.specs.Meanings.{Entries, bound_at}
use Rattle.process_terms.specs.Processes.{Bound}
use Rattle.bisim_laws.specs.LinearProcesses.{Summand, Linear}
use Rattle.lps_core.specs.Fitting.{sort_of_variable}
use Rattle.lps_core.proofs.Members.{In, here, there, in_contains, contains_in, in_each, in_map, each_in, map_in, map_contains, contains_map}
use Rattle.lps_simulator.specs.Combinations.{combinations}
use Rattle.lps_simulator.specs.SumValues.{value_term, Listed, AreListedFor, AreSumValues, terms_of_each, is_cut}
use Rattle.lps_simulator.proofs.CombinationTerms.{combinations_mapped}
use Rattle.trace_replay.specs.Settings.{Setting}
use Rattle.trace_replay.specs.Listings.{number_of, IsListed, IsWhole, AreListed, no_values, one_value}
use Rattle.trace_replay.specs.Replays.{State}
use Rattle.trace_replay.specs.Attempts.{Attempt, a_sum, combination_at, OfCombinations, OfSummand, with_values, its_sum, AreTried}
use Rattle.trace_replay.specs.DecidedConditions.{setting}
use Rattle.trace_replay.proofs.Attempted.{no_doubt, tried_none, tried_both, tried_open, tried_whole}

module _ (g : Sig) (own : List Equation) (fuel bound : ℕ) where
  -- ---- a sort has one list of first values
  same_values : (x : VarId) (one other : Listed) (h : AreListedFor g bound x one) (k : AreListedFor g bound x other) → h.values ≡ k.values
  same_values x one other h k = first_values_once g (sort_of_variable g x) bound h.values k.values h.first k.first

  same_terms : (x : VarId) (one other : Listed) → AreListedFor g bound x one → AreListedFor g bound x other → one.terms ≡ other.terms
  same_terms x one other h k = h.terms ∙ ap (map (value_term g)) (same_values x one other h k) ∙ sym k.terms

  also_whole : (x : VarId) (one other : Listed) → AreListedFor g bound x one → AreListedFor g bound x other → IsTrue one.whole → IsTrue other.whole
  also_whole x one other h k w = k.whole.1 (subst (AreWhole g (sort_of_variable g x)) (same_values x one other h k) (h.whole.0 w))

  -- ---- sums
  sum_tried : (e : Entries) (x : VarId) (found : Listed) (os : List State) → AreListedFor g bound x found → AreTried (setting g own fuel bound) (λ a. a ≡ a_sum (bound_at e x)) os os (not found.whole)
  unfolding IsWhole
  sum_tried e x found os h = by_whole found.whole refl
    where
      by_whole : (b : Bool) → found.whole ≡ b → AreTried (setting g own fuel bound) (λ a. a ≡ a_sum (bound_at e x)) os os (not b)
      by_whole true is = tried_whole (setting g own fuel bound) (bound_at e x) os (found, h, is)
      by_whole false is = tried_open (setting g own fuel bound) (a_sum (bound_at e x)) os (λ w. no_doubt (sym is ∙ also_whole x w.0 found w.1 h w.2))

  -- the sums of a summand, whether they are whole
  abbrev pub OfSums : List Bound → Attempt → Type 0
  OfSums xs t = (x : Bound) × (Contains xs x × (t ≡ a_sum x))

  pub sums_tried : (e : Entries) (xs : List VarId) (listed : List Listed) (os : List State) → AllZip (AreListedFor g bound) xs listed → AreTried (setting g own fuel bound) (OfSums (map (bound_at e) xs)) os os (is_cut listed)
  sums_tried e [] [] os h = tried_none (setting g own fuel bound) (OfSums []) os (λ a c. contains_none c.0 c.1.0)
  sums_tried e [] (f ∷ fs) os h = absurd h
  sums_tried e (x ∷ xs) [] os h = absurd h
  sums_tried e (x ∷ xs) (f ∷ fs) os h =
      tried_both (setting g own fuel bound) (OfSums (map (bound_at e) (x ∷ xs))) (λ a. a ≡ a_sum (bound_at e x)) (OfSums (map (bound_at e) xs)) os os os (not f.whole) (is_cut fs)
      (λ a c. ⊎_elim (λ q. inl (c.1.1 ∙ ap a_sum (sym q))) (λ j. inr (c.0, (j, c.1.1))) (contains_cases (bound_at e x) c.0 (map (bound_at e) xs) c.1.0))
      (λ a q. (bound_at e x, (contains_first (bound_at e x) (map (bound_at e) xs), q)))
      (λ a c. (c.0, (contains_later (bound_at e x) c.0 (map (bound_at e) xs) c.1.0, c.1.1)))
      (sum_tried e x f os h.0)
      (sums_tried e xs fs os h.1)

  -- ---- combinations
  listed_in : (e : Entries) (xs : List VarId) (listed : List Listed) (vs : List Term) → AllZip (AreListedFor g bound) xs listed → In vs (combinations (terms_of_each listed)) → AreListed (setting g own fuel bound) (map (bound_at e) xs) vs
  unfolding IsListed
  listed_in e [] [] _ h here = no_values
  listed_in e [] [] vs h (there i) = elim i [ ]
  listed_in e [] (f ∷ fs) vs h i = absurd h
  listed_in e (x ∷ xs) [] vs h i = absurd h
  listed_in e (x ∷ xs) (f ∷ fs) vs h i =
      let first = in_each (λ t. map (λ (c : List Term). t ∷ c) (combinations (terms_of_each fs))) f.terms i in
      let rest = in_map (λ (c : List Term). first.0 ∷ c) (combinations (terms_of_each fs)) first.2 in
      subst (AreListed (setting g own fuel bound) (map (bound_at e) (x ∷ xs))) (sym rest.2) (one_value (f, h.0, in_contains first.1) (listed_in e xs fs rest.0 h.1 rest.1))

  in_listed : (e : Entries) (xs : List VarId) (listed : List Listed) {vs : List Term} → AllZip (AreListedFor g bound) xs listed → AreListed (setting g own fuel bound) (map (bound_at e) xs) vs → In vs (combinations (terms_of_each listed))
  unfolding IsListed
  in_listed e [] [] h no_values = here
  in_listed e [] (f ∷ fs) h i = absurd h
  in_listed e (x ∷ xs) [] h i = absurd h
  in_listed e (x ∷ xs) (f ∷ fs) h (one_value {t = t} {ts = ts} one rest) =
      each_in (λ t. map (λ (c : List Term). t ∷ c) (combinations (terms_of_each fs)))
      (contains_in f.terms (subst (λ (us : List Term). Contains us t) (same_terms x one.0 f one.1 h.0) one.2))
      (map_in (λ (c : List Term). t ∷ c) (in_listed e xs fs h.1 rest))

  -- ---- a summand
  module _ (e : Entries) (xs : List VarId) (ts : List Tree) (lists : List (List TermId)) (cut : Bool) (values : AreSumValues g bound ts xs lists cut) where
    all_combinations : map (map (term_at g ts)) (combinations lists) ≡ combinations (terms_of_each values.listed)
    all_combinations = combinations_mapped (term_at g ts) lists ∙ ap combinations values.terms

    listed_combination : (vs : List Term) → Contains (map (map (term_at g ts)) (combinations lists)) vs → AreListed (setting g own fuel bound) (map (bound_at e) xs) vs
    listed_combination vs c = listed_in e xs values.listed vs values.each (contains_in (combinations (terms_of_each values.listed)) (subst (λ (z : List (List Term)). Contains z vs) all_combinations c))

    combination_listed : (vs : List Term) → AreListed (setting g own fuel bound) (map (bound_at e) xs) vs → Contains (map (map (term_at g ts)) (combinations lists)) vs
    combination_listed vs c = subst (λ (z : List (List Term)). Contains z vs) (sym all_combinations) (in_contains (in_listed e xs values.listed values.each c))

    -- its sums and all combinations are all that is looked at
    pub summand_tried : (l : Linear) (a : Summand) (state cs : List Term) → a.sums ≡ map (bound_at e) xs → (old new : List State) (unsure : Bool) → AreTried (setting g own fuel bound) (OfCombinations l a state cs (map (map (term_at g ts)) (combinations lists))) old new unsure
        → AreTried (setting g own fuel bound) (OfSummand (setting g own fuel bound) l a state cs) old new (cut || unsure)
    summand_tried l a state cs sums old new unsure h =
        let s : Setting = setting g own fuel bound in
        tried_both s (OfSummand s l a state cs) (OfSums (map (bound_at e) xs)) (OfCombinations l a state cs (map (map (term_at g ts)) (combinations lists))) old old new cut unsure
        (cases l a state cs sums)
        (λ t c. subst (OfSummand s l a state cs) (sym c.1.1) (its_sum (subst (λ (ys : List Bound). Contains ys c.0) (sym sums) c.1.0)))
        (λ t c. subst (OfSummand s l a state cs) (sym c.1.1) (with_values (subst (λ (ys : List Bound). AreListed s ys c.0) (sym sums) (listed_combination c.0 c.1.0))))
        (subst (AreTried s (OfSums (map (bound_at e) xs)) old old) (sym values.cut_is) (sums_tried e xs values.listed old values.each))
        h
      where
        cases : (l : Linear) (a : Summand) (state cs : List Term) → a.sums ≡ map (bound_at e) xs → (t : Attempt) → OfSummand (setting g own fuel bound) l a state cs t
            → OfSums (map (bound_at e) xs) t ⊎ OfCombinations l a state cs (map (map (term_at g ts)) (combinations lists)) t
        cases l a state cs sums _ (with_values {vs = vs} c) = inr (vs, (combination_listed vs (subst (λ (ys : List Bound). AreListed (setting g own fuel bound) ys vs) sums c), refl))
        cases l a state cs sums _ (its_sum {x = x} c) = inl (x, (subst (λ (ys : List Bound). Contains ys x) sums c, refl))
