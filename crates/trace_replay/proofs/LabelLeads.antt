-- Where a label leads, from what was tried.
use Rattle.std.specs.Prelude.{◌≡◌, ◌<◌, ◌⊎◌, ◌++◌, ◌||◌, ℕ, Bool, true, false, List, [], ◌∷◌, map, length, get_or, cond, Option, Some, None, IsTrue}
use Rattle.std.proofs.Common.{refl, sym, subst, ap, ap₂, ◌∙◌, inl, inr, ⊎_elim}
use Rattle.std.specs.List.{AllByRecursion, Contains}
use Rattle.std.proofs.lemmas.List.{map-append, get_or_default}
use Rattle.std.proofs.lemmas.List.Elements.{Contains-get_or, Contains-append_cases, Contains-append_left, Contains-push_cases, Contains-push}
use Rattle.bisim_laws.proofs.Firing.{contains_first, contains_later, contains_cases, contains_none}
use Rattle.data_theory.specs.declared.ids.TermId.{TermId}
use Rattle.data_theory.specs.Declarations.{Data, HaveSorts}
use Rattle.data_theory.specs.Environments.{Environment, term_in, terms_of}
use Rattle.data_theory.specs.Equations.{equals}
use Rattle.data_theory.specs.IdTrees.{Tree}
use Rattle.data_theory.specs.Signature.{Sig}
use Rattle.data_theory.specs.Terms.{Sort, Term, put}
use Rattle.data_theory.proofs.EnvironmentLemmas.{closed_terms_stay}
use Rattle.data_rewriter.specs.Standing.{term_at}
use Rattle.process_terms.specs.Communication.{equalities}
use Rattle.process_terms.specs.Labels.{Action, Label, put_label}
use Rattle.process_terms.specs.Processes.{Bound}
use Rattle.bisim_laws.specs.LinearProcesses.{Summand, Linear}
use Rattle.lps_core.proofs.Members.{map_contains, contains_map}
use Rattle.lps_simulator.specs.Options.{environment_at}
use Rattle.lps_simulator.specs.Rewritten.{NextIsRewritten}
use Rattle.trace_replay.specs.Settings.{Setting, data_in}
use Rattle.trace_replay.specs.Listings.{AreListed, IsWhole}
use Rattle.trace_replay.specs.Decidings.{ComeOut, hold, fail, stay_open}
use Rattle.trace_replay.specs.Pairings.{AreAlike, Pairing, label_equalities, IsClosedAction, IsClosedLabel}
use Rattle.trace_replay.specs.Replays.{State, Way, conditions, next_under, Takes, IsTried, it_fails, it_is_open, it_is_taken, IsDoubtful, open_way, cut_sum, LeadTo}
use Rattle.trace_replay.specs.Attempts as attempts
use Rattle.trace_replay.specs.Attempts.{Attempt, combination, a_sum, combination_at, MakesState, LeavesDoubt, IsSettled, OfSummand, with_values, its_sum, AreTried}
use Rattle.trace_replay.specs.Ways.{PlainWay, open_conditions, no_summand, summand_at, AreWays, OfWays, InStates}
use Rattle.trace_replay.proofs.Attempted.{no_doubt}
use Rattle.trace_replay.proofs.PairedLabels.{permuted_all}

-- ---- open conditions with terms put in
all_closed : (g : Data) (e : Environment) (us : List Term) (ss : List Sort) → HaveSorts g [] (terms_of us) ss → map (put (term_in e)) us ≡ us
all_closed g e [] ss h = refl
all_closed g e (u ∷ us) [] h = absurd h
all_closed g e (u ∷ us) (s ∷ ss) h = ap₂ (λ (x : Term) (xs : List Term). x ∷ xs) (closed_terms_stay g (term_in e) u s h.0) (all_closed g e us ss h.1)

equalities_put : (e : Environment) (ss : List Sort) (ts us : List Term) → map (put (term_in e)) (equalities ss ts us) ≡ equalities ss (map (put (term_in e)) ts) (map (put (term_in e)) us)
equalities_put e [] ts us = refl
equalities_put e (s ∷ ss) [] us = refl
equalities_put e (s ∷ ss) (t ∷ ts) [] = refl
equalities_put e (s ∷ ss) (t ∷ ts) (u ∷ us) = ap (λ (z : List Term). equals s (put (term_in e) t) (put (term_in e) u) ∷ z) (equalities_put e ss ts us)

label_equalities_put : (g : Data) (e : Environment) (m n : Label) → IsClosedLabel g n → map (put (term_in e)) (label_equalities m n) ≡ label_equalities (put_label e m) n
label_equalities_put g e [] n h = refl
label_equalities_put g e (a ∷ m) [] h = refl
label_equalities_put g e (a ∷ m) (b ∷ n) h =
    map-append (put (term_in e)) (equalities a.sorts a.args b.args) (label_equalities m n)
    ∙ ap₂ (λ (x y : List Term). x ++ y)
    (equalities_put e a.sorts a.args b.args ∙ ap (equalities a.sorts (map (put (term_in e)) a.args)) (all_closed g e b.args b.sorts h.0))
    (label_equalities_put g e m n h.1)

-- the conditions of a way are its open conditions with the terms of the state and of the combination put in
conditions_put : (g : Data) (l : Linear) (a : Summand) (m : Label) (p : Pairing a.label m) (vs ts : List Term) → IsClosedLabel g m → map (put (term_in (environment_at l a ts vs))) (open_conditions a p.paired) ≡ conditions l a p.paired vs ts
conditions_put g l a m p vs ts closed =
    ap (λ (z : List Term). put (term_in (environment_at l a ts vs)) a.condition ∷ z)
    (label_equalities_put g (environment_at l a ts vs) a.label p.paired (permuted_all (IsClosedAction g) p.same closed))

-- ---- one label
module _ (g : Sig) (us : List Tree) (s : Setting) (l : Linear) (m : Label) (from to : List State) (doubt : Bool) (ws : List PlainWay) (closed : IsClosedLabel (data_in s) m) (ways : AreWays g us l m (length l.summands) ws)
    (tried : AreTried s (InStates g us s l from ws) [] to doubt) where
  -- the attempt for a way in a state
  abbrev attempt_for : (a : Summand) → Pairing a.label m → List Term → List Term → Attempt
  attempt_for a p vs ts = combination (conditions l a p.paired vs ts) (next_under l a vs ts)

  attempt_is : (w : PlainWay) (a : Summand) (p : Pairing a.label m) (vs ts : List Term) → map (term_at g us) w.conditions ≡ open_conditions a p.paired → combination_at l a ts (map (term_at g us) w.conditions) vs ≡ attempt_for a p vs ts
  attempt_is w a p vs ts e = ap (λ (cs : List Term). combination cs (next_under l a vs ts)) (ap (map (put (term_in (environment_at l a ts vs)))) e ∙ conditions_put (data_in s) l a m p vs ts closed)

  among : (w : PlainWay) → Contains ws w → Contains l.summands (summand_at l w.summand)
  among w c = Contains-get_or l.summands w.summand no_summand (ways.number w c)

  -- ---- states that are reached
  taken : (ts : List Term) (w : PlainWay) → Contains ws w → (t : Attempt) → OfSummand s l (summand_at l w.summand) ts (map (term_at g us) w.conditions) t → (o : State) → MakesState s t o → Takes s l m ts o
  taken ts w c _ (with_values {vs = vs} listed) o makes =
      let p = ways.sound w c in
      let h : MakesState s (attempt_for (summand_at l w.summand) p.0 vs ts) o = subst (λ (t : Attempt). MakesState s t o) (attempt_is w (summand_at l w.summand) p.0 vs ts p.1) makes in
      record {
        way = record { summand = summand_at l w.summand; among = among w c; pairing = p.0; values = vs; listed = listed };
        holds = h.0;
        becomes = h.1;
      }
  taken ts w c _ (its_sum i) o makes = absurd makes

  reached : (o : State) → Contains to o → (ts : List Term) × Contains from (Some ts) × Takes s l m ts o
  reached o i = ⊎_elim
      (λ j. absurd (contains_none o j))
      (λ r. (r.1.0.0, r.1.0.1.0, taken r.1.0.0 r.1.0.1.1.0 r.1.0.1.1.1.0 r.0 r.1.0.1.1.1.1 o r.1.1))
      (tried.reached o i)

  -- ---- doubt
  doubtful_from : (ts : List Term) → Contains from (Some ts) → (w : PlainWay) → Contains ws w → (t : Attempt) → OfSummand s l (summand_at l w.summand) ts (map (term_at g us) w.conditions) t → LeavesDoubt s t → IsDoubtful s l m from
  doubtful_from ts i w c _ (with_values {vs = vs} listed) leaves =
      let p = ways.sound w c in
      let h : LeavesDoubt s (attempt_for (summand_at l w.summand) p.0 vs ts) = subst (LeavesDoubt s) (attempt_is w (summand_at l w.summand) p.0 vs ts p.1) leaves in
      open_way i (record { summand = summand_at l w.summand; among = among w c; pairing = p.0; values = vs; listed = listed }) h
  doubtful_from ts i w c _ (its_sum j) leaves = let p = ways.sound w c in cut_sum i (among w c) p.0 j leaves

  -- ---- what is tried
  abbrev SettledAt : List Term → Summand → Type 0
  SettledAt ts a = (p : Pairing a.label m) (vs : List Term) → AreListed s a.sums vs → IsSettled s to doubt (attempt_for a p vs ts)

  abbrev SumsSettledAt : Summand → Type 0
  SumsSettledAt a = Pairing a.label m → (x : Bound) → Contains a.sums x → IsSettled s to doubt (a_sum x)

  settled_here : (ts : List Term) → Contains from (Some ts) → (k : ℕ) → k < length l.summands → SettledAt ts (summand_at l k)
  settled_here ts i k inside p vs listed =
      let w = ways.complete k inside p in
      let same : summand_at l w.0.summand ≡ summand_at l k = ap (summand_at l) w.1.1.0 in
      subst (IsSettled s to doubt) (attempt_is w.0 (summand_at l k) p vs ts w.1.1.1)
      (tried.settled (combination_at l (summand_at l k) ts (map (term_at g us) w.0.conditions) vs)
      (ts, (i, (w.0, (w.1.0, subst (λ (a : Summand). OfSummand s l a ts (map (term_at g us) w.0.conditions) (combination_at l (summand_at l k) ts (map (term_at g us) w.0.conditions) vs)) (sym same) (with_values listed))))))

  sums_here : (ts : List Term) → Contains from (Some ts) → (k : ℕ) → k < length l.summands → SumsSettledAt (summand_at l k)
  sums_here ts i k inside p x j =
      let w = ways.complete k inside p in
      let same : summand_at l w.0.summand ≡ summand_at l k = ap (summand_at l) w.1.1.0 in
      tried.settled (a_sum x) (ts, (i, (w.0, (w.1.0, subst (λ (a : Summand). OfSummand s l a ts (map (term_at g us) w.0.conditions) (a_sum x)) (sym same) (its_sum j)))))

  summand_is : (a : Summand) (c : Contains l.summands a) → summand_at l c.0 ≡ a
  summand_is a c = default_is l.summands c.0 c.1 ∙ c.2
    where
      default_is : (xs : List Summand) (k : ℕ) → k < length xs → get_or xs k no_summand ≡ get_or xs k a
      default_is xs k inside = get_or_default xs k no_summand a inside

  is_tried : (ts : List Term) (w : Way s l m) → {cs : List Term} {next : Option (List Term)} → IsSettled s to doubt (combination cs next) → cs ≡ conditions l w.summand w.pairing.paired w.values ts → next ≡ next_under l w.summand w.values ts → IsTried s l m to doubt ts w
  is_tried ts w (attempts.it_fails h) e q = it_fails (subst (λ (cs : List Term). ComeOut s cs fail) e h)
  is_tried ts w (attempts.it_is_doubtful h d) e q = it_is_open (subst (λ (cs : List Term). ComeOut s cs stay_open) e h) d
  is_tried ts w (attempts.it_leads {o = o} h i) e q = it_is_taken (subst (λ (cs : List Term). ComeOut s cs hold) e h.0) (subst (λ (n : Option (List Term)). NextIsRewritten (data_in s) s.equations s.fuel n o) q h.1) i

  all_whole : doubt ≡ false → (xs : List Bound) → ((x : Bound) → Contains xs x → IsSettled s to doubt (a_sum x)) → AllByRecursion (IsWhole s) xs
  all_whole none [] h = tt
  all_whole none (x ∷ xs) h = (one_whole (h x (contains_first x xs)), all_whole none xs (λ y i. h y (contains_later x y xs i)))
    where
      one_whole : {y : Bound} → IsSettled s to doubt (a_sum y) → IsWhole s y
      one_whole (attempts.it_is_whole h) = h
      one_whole (attempts.it_is_doubtful h d) = absurd (no_doubt (sym none ∙ d))
      one_whole (attempts.it_leads h i) = absurd h

  whole_or_doubt : (xs : List Bound) → ((x : Bound) → Contains xs x → IsSettled s to doubt (a_sum x)) → AllByRecursion (IsWhole s) xs ⊎ IsTrue doubt
  whole_or_doubt xs h = by_doubt doubt refl
    where
      by_doubt : (b : Bool) → doubt ≡ b → AllByRecursion (IsWhole s) xs ⊎ IsTrue doubt
      by_doubt true e = inr e
      by_doubt false e = inl (all_whole e xs h)

  pub label_leads : LeadTo s l m from to doubt
  label_leads = record {
    reached = reached;
    tried = λ ts i w.
        is_tried ts w (subst (SettledAt ts) (summand_is w.summand w.among) (settled_here ts i w.among.0 w.among.1) w.pairing w.values w.listed) refl refl;
    whole = λ ts i a c p. whole_or_doubt a.sums (subst SumsSettledAt (summand_is a c) (sums_here ts i c.0 c.1) p);
    doubtful = λ d. let r = tried.doubtful d in doubtful_from r.1.0.0 r.1.0.1.0 r.1.0.1.1.0 r.1.0.1.1.1.0 r.0 r.1.0.1.1.1.1 r.1.1;
  }
