-- One combination after another.
use Rattle.std.specs.Prelude.{◌≡◌, ◌⊎◌, ◌↔◌, ◌||◌, ◌++◌, ℕ, Bool, true, false, List, [], ◌∷◌, map, option_map, Option, Some, None, IfSome}
use Rattle.std.proofs.Common.{refl, sym, subst, ap, ap₂, ◌∙◌, inl, inr, ⊎_elim, append_assoc, append-nil}
use Rattle.std.specs.List.{All, AllZip, Contains, zip}
use Rattle.std.proofs.lemmas.List.{map-append}
use Rattle.std.proofs.lemmas.List.Elements.{All-nil, All-cons, All-head, All-tail, All-contains, Contains-push_cases, Contains-append_left, Contains-push}
use Rattle.bisim_laws.proofs.Firing.{contains_none}
use Rattle.data_theory.specs.declared.ids.VarId.{VarId}
use Rattle.data_theory.specs.declared.ids.TermId.{TermId}
use Rattle.data_theory.specs.Environments.{Environment, term_in, bound}
use Rattle.data_theory.specs.IdData.{data_meant}
use Rattle.data_theory.specs.IdTrees.{Tree}
use Rattle.data_theory.specs.Provable.{Equation}
use Rattle.data_theory.specs.Signature.{Sig}
use Rattle.data_theory.specs.Terms.{Term, put}
use Rattle.data_theory.specs.WholeSignatures.{IsSignature}
use Rattle.term_pool.specs.Bindings.{listed_terms}
use Rattle.term_pool.specs.Pools.{Extends}
use Rattle.data_rewriter.specs.Standing.{IsTerm, term_at}
use Rattle.process_terms.specs.Meanings as meanings
use Rattle.process_terms.specs.SignatureEntries.{entries_of}
use Rattle.bisim_laws.specs.LinearProcesses.{Summand, Linear, variables, put_next}
use Rattle.lps_core.specs.PlainLinears.{PlainSummand, PlainLinear, linear_of, summand_of}
use Rattle.lps_core.proofs.Members.{all_from}
use Rattle.lps_core.proofs.MeantTrees.{numbers_meant}
use Rattle.lps_core.proofs.PoolTrees.{extends_on}
use Rattle.lps_simulator.specs.Options.{environment_at}
use Rattle.lps_simulator.specs.Rewritten.{IsRewritten, NextIsRewritten, both_end, both_go_on, environment_of, IsRewrittenTerm, IsRewrittenNext, no_next, next_terms}
use Rattle.lps_simulator.specs.Combinations.{combinations}
use Rattle.lps_simulator.specs.SumValues.{AreListsFor}
use Rattle.lps_simulator.proofs.Bindings.{both_mean, both_over, environment_kept, next_stays_over}
use Rattle.lps_simulator.proofs.CombinationTerms.{combination_closed, combination_over}
use Rattle.lps_simulator.proofs.TriedSteps.{one_of_all}
use Rattle.trace_replay.specs.Settings.{Setting}
use Rattle.trace_replay.specs.Replays.{State}
use Rattle.trace_replay.specs.Attempts.{Attempt, combination, combination_at, OfCombinations, AreTried}
use Rattle.trace_replay.specs.DecidedConditions.{attempt_with, conditions_with, setting}
use Rattle.trace_replay.specs.Decidings.{ComeOut, hold, fail, stay_open}
use Rattle.trace_replay.specs.declared.states.States.{States}
use Rattle.trace_replay.specs.States.{plain_states, meant_state, meant_states, StateStands, StatesStand}
use Rattle.trace_replay.proofs.Attempted.{tried_none, tried_both, tried_failing, tried_open, tried_leading}
use Rattle.trace_replay.proofs.EqualityTerms.{terms_meant}
use Rattle.trace_replay.proofs.StateLemmas.{states_kept, terms_kept}

-- ---- the next terms
module _ (g : Sig) (own : List Equation) (fuel : ℕ) (e : Environment) (us vs : List Tree) where
  all_made : (xs ys : List TermId) → AllZip (IsRewrittenTerm g own fuel e us vs) xs ys → AllZip (IsRewritten (data_meant g) own fuel) (map (put (term_in e)) (map (term_at g us) xs)) (map (term_at g vs) ys)
  all_made [] [] h = tt
  all_made [] (y ∷ ys) h = absurd h
  all_made (x ∷ xs) [] h = absurd h
  all_made (x ∷ xs) (y ∷ ys) h = (h.0.becomes, all_made xs ys h.1)

  all_stand : (xs ys : List TermId) → AllZip (IsRewrittenTerm g own fuel e us vs) xs ys → All (IsTerm g vs) ys
  all_stand [] [] h = All-nil (IsTerm g vs)
  all_stand [] (y ∷ ys) h = absurd h
  all_stand (x ∷ xs) [] h = absurd h
  all_stand (x ∷ xs) (y ∷ ys) h = All-cons (IsTerm g vs) y ys h.0.term (all_stand xs ys h.1)

  pub next_made : {o q : Option (List TermId)} → IsRewrittenNext g own fuel e us vs o q → NextIsRewritten (data_meant g) own fuel (put_next e (meant_state g us o)) (meant_state g vs q)
  next_made no_next = both_end
  next_made (next_terms {ids = ids} {made = made} h) = both_go_on (all_made ids made h)

  pub next_stands : {o q : Option (List TermId)} → IsRewrittenNext g own fuel e us vs o q → StateStands g vs q
  next_stands no_next = tt
  next_stands (next_terms {ids = ids} {made = made} h) = all_stand ids made h

pub next_meant : (g : Sig) (ts : List Tree) (o : Option (List TermId)) → IfSome o (All (IsTerm g ts)) → meant_state g ts o ≡ option_map (map (meanings.term_at (entries_of g ts))) o
next_meant g ts None h = refl
next_meant g ts (Some ids) h = ap (λ (z : List Term). Some z) (terms_meant g ts ids h)

pub next_kept : (g : Sig) (ts us : List Tree) → Extends ts us → (o : Option (List TermId)) → IfSome o (All (IsTerm g ts)) → meant_state g us o ≡ meant_state g ts o
next_kept g ts us e None h = refl
next_kept g ts us e (Some ids) h = ap (λ (z : List Term). Some z) (terms_kept g ts us e ids h)

-- next terms that were rewritten over a later pool
pub next_leads : (g : Sig) (own : List Equation) (fuel : ℕ) (ts us vs : List Tree) → Extends ts us → (by : List (VarId × TermId)) → All (IsTerm g ts) (listed_terms by) → (s : PlainSummand) → IfSome s.next (All (IsTerm g ts)) → (q : Option (List TermId))
    → IsRewrittenNext g own fuel (environment_of g us by) us vs s.next q → NextIsRewritten (data_meant g) own fuel (put_next (environment_of g ts by) (summand_of (entries_of g ts) s).next) (meant_state g vs q)
next_leads g own fuel ts us vs e by listed s over q h =
    subst (λ (z : Option (List Term)). NextIsRewritten (data_meant g) own fuel (put_next (environment_of g ts by) z) (meant_state g vs q)) (next_kept g ts us e s.next over ∙ next_meant g ts s.next over)
    (subst (λ (d : Environment). NextIsRewritten (data_meant g) own fuel (put_next d (meant_state g us s.next)) (meant_state g vs q)) (environment_kept g ts us by e listed)
    (next_made g own fuel (environment_of g us by) us vs h))

-- ---- one combination in code
pub attempt_kept : (g : Sig) (ts us : List Tree) → Extends ts us → (by : List (VarId × TermId)) → All (IsTerm g ts) (listed_terms by) → (conditions : List TermId) → All (IsTerm g ts) conditions → (s : PlainSummand) → IfSome s.next (All (IsTerm g ts)) → IfSome s.next (All (IsTerm g us))
    → attempt_with g us by conditions s ≡ attempt_with g ts by conditions s
attempt_kept g ts us e by listed conditions over s next later =
    let env : environment_of g us by ≡ environment_of g ts by = environment_kept g ts us by e listed in
    ap₂ (λ (cs : List Term) (o : Option (List Term)). combination cs o)
    (ap (λ (d : Environment). map (put (term_in d)) (map (term_at g us) conditions)) env ∙ ap (map (put (term_in (environment_of g ts by)))) (terms_kept g ts us e conditions over))
    (ap (λ (d : Environment). put_next d (summand_of (entries_of g us) s).next) env
    ∙ ap (put_next (environment_of g ts by)) (sym (next_meant g us s.next later) ∙ next_kept g ts us e s.next next ∙ next_meant g ts s.next next))

pub environment_meant : (g : Sig) (ts : List Tree) (l : PlainLinear) (s : PlainSummand) (c state : List TermId) (by : List (VarId × TermId)) → by ≡ zip s.sums c ++ zip l.params state
    → environment_of g ts by ≡ environment_at (linear_of (entries_of g ts) l) (summand_of (entries_of g ts) s) (map (term_at g ts) state) (map (term_at g ts) c)
environment_meant g ts l s c state by e =
    ap (environment_of g ts) e
    ∙ both_mean g ts s.sums l.params c state
    ∙ ap₂ (λ (xs ps : List ℕ). bound xs (map (term_at g ts) c) ++ bound ps (map (term_at g ts) state)) (sym (numbers_meant g ts s.sums)) (sym (numbers_meant g ts l.params))

pub attempt_meant : (g : Sig) (ts : List Tree) (l : PlainLinear) (s : PlainSummand) (c state : List TermId) (by : List (VarId × TermId)) (conditions : List TermId) → by ≡ zip s.sums c ++ zip l.params state
    → attempt_with g ts by conditions s ≡ combination_at (linear_of (entries_of g ts) l) (summand_of (entries_of g ts) s) (map (term_at g ts) state) (map (term_at g ts) conditions) (map (term_at g ts) c)
attempt_meant g ts l s c state by conditions e =
    ap (λ (d : Environment). combination (map (put (term_in d)) (map (term_at g ts) conditions)) (put_next d (summand_of (entries_of g ts) s).next)) (environment_meant g ts l s c state by e)

-- ---- what comes of it
module _ (g : Sig) (own : List Equation) (fuel bound : ℕ) (ts us : List Tree) (grows : Extends ts us) (by : List (VarId × TermId)) (conditions : List TermId) (s : PlainSummand) (old : States) (stand : StatesStand g ts old) where
  abbrev this_attempt : Attempt → Type 0
  this_attempt a = a ≡ attempt_with g ts by conditions s

  pub tried_hold : All (IsTerm g ts) (listed_terms by) → IfSome s.next (All (IsTerm g ts)) → (vs : List Tree) → Extends us vs → (new : States) (q : Option (List TermId)) → ((o : Option (List TermId)) → Contains (plain_states new) o ↔ (Contains (plain_states old) o ⊎ (o ≡ q)))
      → ComeOut (setting g own fuel bound) (conditions_with g ts by conditions) hold → IsRewrittenNext g own fuel (environment_of g us by) us vs s.next q → AreTried (setting g own fuel bound) this_attempt (meant_states g ts old) (meant_states g vs new) false
  tried_hold listed over vs later new q added holds made =
      tried_leading (setting g own fuel bound) (attempt_with g ts by conditions s) g vs (meant_states g ts old) (plain_states old) (plain_states new) q (sym (states_kept g ts vs (extends_on ts us vs grows later) old stand)) added
      (holds, next_leads g own fuel ts us vs grows by listed s over q made)

  pub tried_fail : ComeOut (setting g own fuel bound) (conditions_with g ts by conditions) fail → AreTried (setting g own fuel bound) this_attempt (meant_states g ts old) (meant_states g us old) false
  tried_fail fails =
      subst (λ (os : List State). AreTried (setting g own fuel bound) this_attempt (meant_states g ts old) os false) (sym (states_kept g ts us grows old stand))
      (tried_failing (setting g own fuel bound) (conditions_with g ts by conditions) (put_next (environment_of g ts by) (summand_of (entries_of g ts) s).next) (meant_states g ts old) fails)

  pub tried_left_open : ComeOut (setting g own fuel bound) (conditions_with g ts by conditions) stay_open → AreTried (setting g own fuel bound) this_attempt (meant_states g ts old) (meant_states g us old) true
  tried_left_open unsure =
      subst (λ (os : List State). AreTried (setting g own fuel bound) this_attempt (meant_states g ts old) os true) (sym (states_kept g ts us grows old stand))
      (tried_open (setting g own fuel bound) (attempt_with g ts by conditions s) (meant_states g ts old) unsure)

-- ---- combinations one after the other
pub combinations_first : (s : Setting) (l : Linear) (a : Summand) (ts cs : List Term) (os : List State) → AreTried s (OfCombinations l a ts cs []) os os false
combinations_first s l a ts cs os = tried_none s (OfCombinations l a ts cs []) os (λ t c. contains_none c.0 c.1.0)

pub combinations_more : (s : Setting) (l : Linear) (a : Summand) (ts cs : List Term) (done : List (List Term)) (vs : List Term) (t : Attempt) (old mid new : List State) (c d : Bool) → t ≡ combination_at l a ts cs vs → AreTried s (OfCombinations l a ts cs done) old mid c
    → AreTried s (λ z. z ≡ t) mid new d → AreTried s (OfCombinations l a ts cs (done ++ vs ∷ [])) old new (c || d)
combinations_more s l a ts cs done vs t old mid new c d is h k =
    tried_both s (OfCombinations l a ts cs (done ++ vs ∷ [])) (OfCombinations l a ts cs done) (λ z. z ≡ t) old mid new c d
    (λ z i. ⊎_elim (λ j. inl (i.0, (j, i.1.1))) (λ e. inr (i.1.1 ∙ ap (combination_at l a ts cs) (sym e) ∙ sym is)) (Contains-push_cases done vs i.0 i.1.0))
    (λ z i. (i.0, (Contains-append_left done (vs ∷ []) i.0 i.1.0, i.1.1)))
    (λ z e. (vs, (Contains-push done vs, e ∙ is)))
    h k

-- ---- the states
pub states_added : (g : Sig) (us : List Tree) (from to : List (Option (List TermId))) (next : Option (List TermId)) → ((o : Option (List TermId)) → Contains to o → Contains from o ⊎ (o ≡ next)) → All (StateStands g us) from → StateStands g us next → All (StateStands g us) to
states_added g us from to next cases h k = all_from (StateStands g us) to (λ o c. ⊎_elim (λ i. All-contains (StateStands g us) from o h i) (λ e. subst (StateStands g us) (sym e) k) (cases o c))

-- ---- in code
pub listed_over : (g : Sig) → IsSignature g → (ts : List Tree) (xs ps : List VarId) (lists : List (List TermId)) → AreListsFor g ts xs lists → (state : List TermId) → All (IsTerm g ts) state → (c : List TermId) → Contains (combinations lists) c → (by : List (VarId × TermId)) → by ≡ zip xs c ++ zip ps state
    → All (IsTerm g ts) (listed_terms by)
listed_over g stands ts xs ps lists closed state over c among by e =
    subst (λ (z : List (VarId × TermId)). All (IsTerm g ts) (listed_terms z)) (sym e) (both_over g ts xs ps c state (combination_over g stands ts xs c (combination_closed g ts xs lists c closed among)) over)

-- a turn of the loop over the combinations
pub combination_turn : (g : Sig) → IsSignature g → (own : List Equation) (fuel bound : ℕ) (ts us : List Tree) → Extends ts us → (l : PlainLinear) (s : PlainSummand) (conditions : List TermId) → All (IsTerm g ts) conditions → IfSome s.next (All (IsTerm g ts)) → (state : List TermId) → All (IsTerm g ts) state
    → (lists : List (List TermId)) → AreListsFor g ts s.sums lists → (done now left : List (List TermId)) (c : List TermId) (by : List (VarId × TermId)) → combinations lists ≡ done ++ now → now ≡ c ∷ left → by ≡ zip s.sums c ++ zip l.params state
    → (old mid new : List State) (before unsure after : Bool) → after ≡ (before || unsure)
    → AreTried (setting g own fuel bound) (OfCombinations (linear_of (entries_of g ts) l) (summand_of (entries_of g ts) s) (map (term_at g ts) state) (map (term_at g ts) conditions) (map (map (term_at g ts)) done)) old mid before
    → AreTried (setting g own fuel bound) (λ a. a ≡ attempt_with g us by conditions s) mid new unsure
    → AreTried (setting g own fuel bound) (OfCombinations (linear_of (entries_of g ts) l) (summand_of (entries_of g ts) s) (map (term_at g ts) state) (map (term_at g ts) conditions) (map (map (term_at g ts)) (done ++ c ∷ []))) old new after
combination_turn g stands own fuel bound ts us grows l s conditions over next state state_over lists closed done now left c by split one e old mid new before unsure after is h k =
    let L : Linear = linear_of (entries_of g ts) l in
    let A : Summand = summand_of (entries_of g ts) s in
    let listed : All (IsTerm g ts) (listed_terms by) = listed_over g stands ts s.sums l.params lists closed state state_over c (one_of_all (combinations lists) done now left c split one) by e in
    let same : attempt_with g us by conditions s ≡ combination_at L A (map (term_at g ts) state) (map (term_at g ts) conditions) (map (term_at g ts) c) =
    attempt_kept g ts us grows by listed conditions over s next (next_stays_over g ts us s.next grows next) ∙ attempt_meant g ts l s c state by conditions e in
    subst (λ (d : Bool). AreTried (setting g own fuel bound) (OfCombinations L A (map (term_at g ts) state) (map (term_at g ts) conditions) (map (map (term_at g ts)) (done ++ c ∷ []))) old new d) (sym is)
    (subst (λ (z : List (List Term)). AreTried (setting g own fuel bound) (OfCombinations L A (map (term_at g ts) state) (map (term_at g ts) conditions) z) old new (before || unsure)) (sym (map-append (map (term_at g ts)) done (c ∷ [])))
    (combinations_more (setting g own fuel bound) L A (map (term_at g ts) state) (map (term_at g ts) conditions) (map (map (term_at g ts)) done) (map (term_at g ts) c) (attempt_with g us by conditions s) old mid new before unsure same h k))

pub split_on : {A : Type 0} (all done now left : List A) (c : A) → all ≡ done ++ now → now ≡ c ∷ left → all ≡ (done ++ c ∷ []) ++ left
split_on {A} all done now left c e q = e ∙ ap (λ (z : List A). done ++ z) q ∙ sym (append_assoc done (c ∷ []) left)

pub all_done : {A : Type 0} (all done left : List A) → all ≡ done ++ left → left ≡ [] → done ≡ all
all_done {A} all done left e none = sym (e ∙ ap (λ (z : List A). done ++ z) none ∙ append-nil done)
