-- Files of which nothing fails are bisimilar to the linear process.
use Rattle.std.specs.Prelude.{◌≡◌, ◌<◌, ℕ, zero, suc, List, [], ◌∷◌, map, length, Contains, Option, Some, None, IfSome, option_map, slice_get}
use Rattle.std.proofs.Common.{refl, sym, subst, ap, ◌∙◌, arith}
use Rattle.std.specs.List.{All}
use Rattle.std.proofs.lemmas.List.Elements.{All-contains}
use Rattle.data_theory.specs.Terms.{Sort, Term}
use Rattle.data_theory.specs.Declarations.{IsData, HaveSorts}
use Rattle.data_theory.specs.Environments.{terms_of}
use Rattle.data_theory.specs.IdTerms.{variable_sorts}
use Rattle.data_theory.specs.IdTrees.{Tree}
use Rattle.data_theory.specs.declared.ids.TermId.{TermId}
use Rattle.data_theory.proofs.IdDataLemmas.{meant_data_are_data}
use Rattle.data_rewriter.specs.Simplifying.{AreLater}
use Rattle.process_terms.specs.Labels.{Label, Agree}
use Rattle.process_terms.specs.SignatureEntries.{entries_of}
use Rattle.process_terms.specs.Steps.{Outcome, ended, goes_on, Step}
use Rattle.process_terms.specs.Theories.{Theory, IsConsistent, Equals, AreOfSorts}
use Rattle.process_terms.proofs.AgreeingLabels.{agree_sym, agree_trans, equals_sym, equals_trans, multiset_of_order, multiset_sym, multiset_trans}
use Rattle.bisim_laws.specs.LinearProcesses.{Linear, sorts, state_of, outcome_of, Fires, NextEquals, both_without, both_with, IsWellSorted, LabelIsSorted, NextIsSorted, no_next_to_sort, next_sorted}
use Rattle.bisim_laws.proofs.AlikeFiring.{fire_alike}
use Rattle.bisim_laws.proofs.Firing.{fired, fire, contains_none}
use Rattle.bisim_laws.proofs.SortedFiring.{firings_keep}
use Rattle.lps_core.specs.PlainLinears.{PlainLinear, linear_of, initial_of, linear_state}
use Rattle.lps_core.proofs.GrowingData.{linear_grown, terms_grown}
use Rattle.lps_core.proofs.Members.{contains_map, mapped_at, all_at}
use Rattle.lps_core.proofs.Staying.{what_fits_is_sorted}
use Rattle.lps_simulator.specs.declared.options.Open.{Open}
use Rattle.lps_simulator.specs.OptionLaws.{HasOptions, IsStepOf}
use Rattle.lps_simulator.specs.Options.{TermMove}
use Rattle.lps_simulator.specs.OptionsInCode.{PlainOptions, IsMove, IsState, AreOptions, meant_move, terms_at}
use Rattle.lps_simulator.proofs.OptionLaws.{moves_are_steps}
use Rattle.trace_replay.specs.Decidings.{hold}
use Rattle.aut_check.specs.Matching.{Match, StartComes, compared}
use Rattle.aut_check.specs.PlainSystems.{PlainSystem, IsEdge, meant_edge, meant_state}
use Rattle.trace_replay.specs.Settings.{Setting, data_in}
use Rattle.aut_check.specs.SystemBisimulations.{DoesNext, does_next, StepAnswer, EdgeAnswer, SystemBisimulation, EqualStates, equal_terms, after_termination}
use Rattle.aut_check.specs.SystemLaws.{AreGiven, GoodFilesAreBisimilar}
use Rattle.aut_check.specs.Systems.{Edge, FileState, System, HasEdge, IsStateAt}
use Rattle.aut_check.specs.Verdicts.{CanDo, nothing, options, StateComes, all_match, is_good, StateIs, nothing_fails, system_in}
use Rattle.aut_check.proofs.ComparedTerms.{LandAlike, both_land_ended, land_equal, StateIsSorted, all_of_hold, arguments_equal, match_agrees, match_lands}
use Rattle.aut_check.proofs.Firings.{move_of_firing, same_next}

-- ---- elements by their places
pub at_place : {A : Type 0} (xs : List A) (i : ℕ) → i < length xs → (x : A) × (slice_get xs i ≡ Some x)
at_place [] i l = absurd (omega (arith, l))
at_place (x ∷ xs) zero l = (x, refl)
at_place (x ∷ xs) (suc i) l = at_place xs i (omega (arith, l))

pub map_at : {A B : Type 0} (f : A → B) (xs : List A) (i : ℕ) (x : A) → slice_get xs i ≡ Some x → slice_get (map f xs) i ≡ Some (f x)
map_at f [] i x e = absurd (let never : ⊥ = cc in never)
map_at f (y ∷ xs) zero x e = let q : y ≡ x = cc in ap (λ z. Some (f z)) q
map_at f (y ∷ xs) (suc i) x e = map_at f xs i x e

same_at : {A : Type 0} (xs : List A) (i : ℕ) {x y : A} → slice_get xs i ≡ Some x → slice_get xs i ≡ Some y → x ≡ y
same_at {A = A} xs i {x} {y} e q = same_some (sym e ∙ q)
  where
    same_some : {x y : A} → Some x ≡ Some y → x ≡ y
    same_some r = cc

-- ---- where a move lands
-- what the next arguments of a firing are to a state of the file
pub data Reaches (th : Theory) : Option (List Term) → FileState → Type 0 where
  reach_end : Reaches th None None
  reach_equal : {ts us : List Term} → Equals th us ts → Reaches th (Some ts) (Some us)

-- through a move that lands alike with the state
reaches : {th : Theory} {next move : Option (List Term)} {o : FileState} → NextEquals th move next → LandAlike th move o → Reaches th next o
reaches both_without both_land_ended = reach_end
reaches (both_with e) (land_equal d) = reach_equal (equals_trans (equals_sym d) e)

reaches_on : {th : Theory} {next other : Option (List Term)} {o : FileState} → Reaches th next o → NextEquals th next other → Reaches th other o
reaches_on reach_end both_without = reach_end
reaches_on (reach_equal e) (both_with d) = reach_equal (equals_trans e d)

turn_next : {th : Theory} {next other : Option (List Term)} → NextEquals th next other → NextEquals th other next
turn_next both_without = both_without
turn_next (both_with e) = both_with (equals_sym e)

module _ (s : Setting) (ts : List Tree) (l : PlainLinear) (f : PlainSystem) (given : AreGiven s ts l f) (th : Theory) (later : AreLater s.signature s.equations th.declared th.equations) (consistent : IsConsistent th) where
  abbrev P : Linear
  P = linear_of (entries_of s.signature ts) l

  abbrev F : System
  F = system_in s ts f

  abbrev ss : List Sort
  ss = sorts P.params

  abbrev at_ids : List TermId → List Term
  at_ids ids = terms_at s.signature ts ids

  data_ok : IsData (data_in s)
  data_ok = meant_data_are_data s.signature given.signature.table given.signature.roles

  sorted : IsWellSorted th.declared (variable_sorts s.signature) P
  sorted = linear_grown (data_in s) th.declared later.grows (variable_sorts s.signature) P (what_fits_is_sorted s.signature ts l given.signature.table given.signature.complete given.fits)

  agrees : (m : TermMove) (n : Label) (o : FileState) → LabelIsSorted (data_in s) [] m.label → LabelIsSorted (data_in s) [] n → Match s ss m n o → Agree th m.label n
  agrees m n o a b c = match_agrees s data_ok given.fine th later.grows later.is_data later.among ss m n o a b c

  lands_alike : (m : TermMove) (n : Label) (o : FileState) → NextIsSorted (data_in s) [] ss m.next → StateIsSorted s ss o → Match s ss m n o → LandAlike th m.next o
  lands_alike m n o a b c = match_lands s data_ok given.fine th later.grows later.is_data later.among ss m n o a b c

  -- ---- the file
  state_sorted : (j : ℕ) (o : FileState) → IsStateAt F j o → StateIsSorted s ss o
  state_sorted j o at =
      let r = mapped_at (meant_state s.signature ts) f.states j o at in
      subst (StateIsSorted s ss) (sym r.1.1) (plain_sorted r.0 (all_at (λ (q : Option (List TermId)). IfSome q (IsState s.signature ts l.params)) f.states j r.0 given.system.states r.1.0))
    where
      plain_sorted : (x : Option (List TermId)) → IfSome x (IsState s.signature ts l.params) → StateIsSorted s ss (meant_state s.signature ts x)
      plain_sorted None h = no_next_to_sort
      plain_sorted (Some ids) h = next_sorted h.closed

  record EdgeFacts (m : Label) (j : ℕ) : Type 0 where
    closed : LabelIsSorted (data_in s) [] m
    state : FileState
    at : IsStateAt F j state

  edge_facts : (i j : ℕ) (m : Label) → HasEdge F i m j → EdgeFacts m j
  edge_facts i j m edge =
      let r = contains_map (meant_edge s.signature ts) f.edges (record { from = i; label = m; to = j }) edge in
      let fit = All-contains (IsEdge s.signature ts (length f.states)) f.edges r.0 given.system.edges r.1.0 in
      let to : j ≡ r.0.to = ap (λ (e : Edge). e.to) r.1.1 in
      let there = at_place f.states j (subst (λ n. n < length f.states) (sym to) fit.to) in
      record {
        closed = subst (LabelIsSorted (data_in s) []) (sym (ap (λ (e : Edge). e.label) r.1.1)) fit.closed;
        state = meant_state s.signature ts there.0;
        at = map_at (meant_state s.signature ts) f.states j there.0 there.1;
      }

  -- ---- moves
  record MoveFacts (state : List TermId) (m : TermMove) : Type 0 where
    label : LabelIsSorted (data_in s) [] m.label
    next : NextIsSorted (data_in s) [] ss m.next
    step : IsStepOf th P (at_ids state) m

  options_there : (i : ℕ) (state : List TermId) (us : List Tree) (found : PlainOptions) → slice_get f.states i ≡ Some (Some state) → AreOptions s.signature s.equations s.fuel s.bound ts us l state found → HasOptions s.signature s.equations s.fuel s.bound ts us l state found
  options_there i state us found at are = record {
    signature = given.signature;
    fine = given.fine;
    fits = given.fits;
    stands = all_at (λ (q : Option (List TermId)). IfSome q (IsState s.signature ts l.params)) f.states i (Some state) given.system.states at;
    options = are;
  }

  move_facts : (state : List TermId) (us : List Tree) (found : PlainOptions) → HasOptions s.signature s.equations s.fuel s.bound ts us l state found → All (IsMove s.signature us l.params) found.moves → (m : TermMove) → Contains (map (meant_move s.signature us) found.moves) m → MoveFacts state m
  move_facts state us found has closed m among =
      let r = contains_map (meant_move s.signature us) found.moves m among in
      let fit = All-contains (IsMove s.signature us l.params) found.moves r.0 closed r.1.0 in
      subst (MoveFacts state) (sym r.1.1) (record {
        label = fit.closed;
        next = plain_next_sorted r.0.next fit.next;
        step = moves_are_steps s.signature s.equations s.fuel s.bound ts us l state found has r.0 r.1.0 th later;
      })
    where
      plain_next_sorted : (x : Option (List TermId)) → IfSome x (IsState s.signature us l.params) → NextIsSorted (data_in s) [] ss (option_map (terms_at s.signature us) x)
      plain_next_sorted None h = no_next_to_sort
      plain_next_sorted (Some ids) h = next_sorted h.closed

  -- ---- both ways
  lands : (us : List Term) (m : Label) (next : Option (List Term)) (j : ℕ) (o : FileState) → AreOfSorts th ss us → Fires th P us m next → IsStateAt F j o → Reaches th next o → EqualStates th P F j (outcome_of P next)
  lands us m _ j _ h k at reach_end = after_termination at
  lands us m _ j _ h k at (reach_equal {ts = vs} e) = equal_terms at (firings_keep th (variable_sorts s.signature) P us vs m given.fits.linear sorted h k) e

  -- a move that matches an edge makes a step of each equal state
  answer_edge : (state : List TermId) (us : List Term) → AreOfSorts th ss us → Equals th (at_ids state) us → (m : TermMove) → MoveFacts state m → (n : Label) (j : ℕ) (o : FileState) → LabelIsSorted (data_in s) [] n → IsStateAt F j o → Match s ss m n o
      → StepAnswer th (EqualStates th P F) (goes_on (state_of P us)) n j
  answer_edge state us h e m facts n j o closed at match_ =
      let k = fired th P (at_ids state) facts.step.label (outcome_of P facts.step.next) given.fits.linear facts.step.step in
      let b = fire_alike th P (at_ids state) us facts.step.label k.0 given.fits.linear e k.1.0 in
      let reached : Reaches th facts.step.next o = reaches facts.step.equal (lands_alike m n o facts.next (state_sorted j o at) match_) in
      record {
        label = b.label;
        outcome = outcome_of P b.onward;
        step = does_next (fire th P us b.label b.onward given.fits.linear b.fires);
        agree = multiset_trans th n m.label b.label (multiset_sym th m.label n (agrees m n o facts.label closed match_)) (multiset_of_order th m.label b.label (agree_trans facts.step.agrees b.agree));
        lands = lands us b.label b.onward j o h b.fires at (reaches_on (subst (λ (z : Option (List Term)). Reaches th z o) (same_next P facts.step.next k.0 k.1.1) reached) b.equal);
      }

  edge_answered : (i j : ℕ) (state : List TermId) → slice_get f.states i ≡ Some (Some state) → (us : List Term) → AreOfSorts th ss us → Equals th (at_ids state) us → (n : Label) → HasEdge F i n j → (moves : List TermMove) (opens : List Open)
      → CanDo s ts l (Some state) moves opens → StateComes s ss F i moves opens is_good → StepAnswer th (EqualStates th P F) (goes_on (state_of P us)) n j
  edge_answered i j state at us h e n edge _ _ (options vs found are closed) (all_match none_open each_move each_edge) =
      let facts = edge_facts i j n edge in
      let chosen = each_edge n j facts.state edge facts.at in
      answer_edge state us h e chosen.move (move_facts state vs found (options_there i state vs found at are) closed chosen.move chosen.among) n j facts.state facts.closed facts.at chosen.is

  step_answered : (i : ℕ) (state : List TermId) → slice_get f.states i ≡ Some (Some state) → (us : List Term) → AreOfSorts th ss us → Equals th (at_ids state) us → (m : Label) (q : Outcome) → Step th (state_of P us) m q → (moves : List TermMove) (opens : List Open)
      → CanDo s ts l (Some state) moves opens → StateComes s ss F i moves opens is_good → EdgeAnswer th F (EqualStates th P F) i m q
  step_answered i state at us h e m q step _ _ (options vs found are closed) (all_match none_open each_move each_edge) =
      let has = options_there i state vs found at are in
      let k = fired th P us m q given.fits.linear step in
      let b = fire_alike th P us (at_ids state) m k.0 given.fits.linear (equals_sym e) k.1.0 in
      let move = move_of_firing s.signature s.equations s.fuel s.bound ts vs l state found has none_open th later consistent given.no_sums b.label b.onward b.fires in
      let facts = move_facts state vs found has closed move.move move.among in
      let chosen = each_move move.move move.among in
      let there = edge_facts i chosen.to chosen.label chosen.edge in
      let land = lands_alike move.move chosen.label chosen.state facts.next (state_sorted chosen.to chosen.state chosen.at) chosen.is in
      record {
        label = chosen.label;
        to = chosen.to;
        edge = chosen.edge;
        agree = multiset_trans th m move.move.label chosen.label (multiset_of_order th m move.move.label (agree_trans b.agree (agree_sym move.agree))) (agrees move.move chosen.label chosen.state facts.label there.closed chosen.is);
        lands = subst (EqualStates th P F chosen.to) (sym k.1.1) (lands us m k.0 chosen.to chosen.state h k.1.0 chosen.at (reaches_on (reaches move.equal land) (turn_next b.equal)));
      }

  -- ---- the relation
  module _ (all_good : (i : ℕ) (q : Option (List TermId)) → slice_get f.states i ≡ Some q → StateIs s ts l f i q is_good) where
    none_there : (i j : ℕ) (n : Label) → HasEdge F i n j → (moves : List TermMove) (opens : List Open) → CanDo s ts l None moves opens → StateComes s ss F i moves opens is_good → StepAnswer th (EqualStates th P F) ended n j
    none_there i j n edge _ _ nothing (all_match none_open each_move each_edge) =
        let facts = edge_facts i j n edge in
        let chosen = each_edge n j facts.state edge facts.at in
        absurd (contains_none chosen.move chosen.among)

    from_state : (i j : ℕ) (terms us : List Term) (n : Label) → AreOfSorts th ss us → Equals th terms us → HasEdge F i n j → (x : Option (List TermId)) → slice_get f.states i ≡ Some x → Some terms ≡ meant_state s.signature ts x → StepAnswer th (EqualStates th P F) (goes_on (state_of P us)) n j
    from_state i j terms us n h e edge None at q = absurd (let never : ⊥ = cc in never)
    from_state i j terms us n h e edge (Some state) at q =
        let same : terms ≡ at_ids state = cc in
        let is = all_good i (Some state) at in
        edge_answered i j state at us h (subst (λ (z : List Term). Equals th z us) same e) n edge is.moves is.opens is.can_do is.comes

    from_step : (i : ℕ) (terms us : List Term) (m : Label) (r : Outcome) → AreOfSorts th ss us → Equals th terms us → Step th (state_of P us) m r → (x : Option (List TermId)) → slice_get f.states i ≡ Some x → Some terms ≡ meant_state s.signature ts x → EdgeAnswer th F (EqualStates th P F) i m r
    from_step i terms us m r h e step None at q = absurd (let never : ⊥ = cc in never)
    from_step i terms us m r h e step (Some state) at q =
        let same : terms ≡ at_ids state = cc in
        let is = all_good i (Some state) at in
        step_answered i state at us h (subst (λ (z : List Term). Equals th z us) same e) m r step is.moves is.opens is.can_do is.comes

    from_end : (i j : ℕ) (n : Label) → HasEdge F i n j → (x : Option (List TermId)) → slice_get f.states i ≡ Some x → None ≡ meant_state s.signature ts x → StepAnswer th (EqualStates th P F) ended n j
    from_end i j n edge None at q = let is = all_good i None at in none_there i j n edge is.moves is.opens is.can_do is.comes
    from_end i j n edge (Some state) at q = absurd (let never : ⊥ = cc in never)

    forth : (i j : ℕ) (r : Outcome) (m : Label) → EqualStates th P F i r → HasEdge F i m j → StepAnswer th (EqualStates th P F) r m j
    forth i j r m (equal_terms {ts = terms} {us = us} at h e) edge =
        let x = mapped_at (meant_state s.signature ts) f.states i (Some terms) at in
        from_state i j terms us m h e edge x.0 x.1.0 x.1.1
    forth i j r m (after_termination at) edge =
        let x = mapped_at (meant_state s.signature ts) f.states i None at in
        from_end i j m edge x.0 x.1.0 x.1.1

    back : (i : ℕ) (r q : Outcome) (m : Label) → EqualStates th P F i r → DoesNext th r m q → EdgeAnswer th F (EqualStates th P F) i m q
    back i _ q m (equal_terms {ts = terms} {us = us} at h e) (does_next step) =
        let x = mapped_at (meant_state s.signature ts) f.states i (Some terms) at in
        from_step i terms us m q h e step x.0 x.1.0 x.1.1
    back i _ q m (after_termination at) step = elim step [ ]

    ends : (i : ℕ) (r : Outcome) → EqualStates th P F i r → (IsStateAt F i None → r ≡ ended) × (r ≡ ended → IsStateAt F i None)
    ends i r (equal_terms {ts = terms} {us = us} at h e) = (
      (λ other. absurd (let q : None ≡ Some terms = same_at F.states i other at in let never : ⊥ = cc in never)),
      (λ q. absurd (let never : ⊥ = cc in never)),
    )
    ends i r (after_termination at) = ((λ other. refl), (λ q. at))

    pub follows : SystemBisimulation th F (EqualStates th P F)
    follows = record { forth = forth; back = back; ends = ends }

  pub starts : (o : FileState) → IsStateAt F f.first o → StartComes s ss (initial_of (entries_of s.signature ts) l) o hold → EqualStates th P F F.first (goes_on (linear_state (entries_of s.signature ts) l))
  starts _ at (compared {us = us} d) =
      let first : Equals th (initial_of (entries_of s.signature ts) l) us =
      arguments_equal s data_ok given.fine th later.grows later.is_data later.among ss (initial_of (entries_of s.signature ts) l) us given.fits.closed (state_terms us (state_sorted f.first (Some us) at)) (all_of_hold d) in
      equal_terms at (terms_grown (data_in s) th.declared later.grows [] (terms_of (initial_of (entries_of s.signature ts) l)) ss given.fits.closed) (equals_sym first)
    where
      state_terms : (us : List Term) → StateIsSorted s ss (Some us) → HaveSorts (data_in s) [] (terms_of us) ss
      state_terms us (next_sorted h) = h

pub good_files : GoodFilesAreBisimilar
good_files s ts l f given (nothing_fails {o = o} at start all_good) th later consistent = record {
  starts = starts s ts l f given th later consistent o at start;
  follows = follows s ts l f given th later consistent all_good;
}
