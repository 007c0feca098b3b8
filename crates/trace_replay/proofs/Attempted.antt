-- What is tried, step by step.
use Rattle.std.specs.Prelude.{◌≡◌, ◌⊎◌, ◌↔◌, ◌||◌, Bool, true, false, List, [], map, Option, IsTrue}
use Rattle.std.proofs.Common.{refl, sym, subst, ap, inl, inr, ⊎_elim, ◌∙◌}
use Rattle.std.specs.List.{Contains}
use Rattle.data_theory.specs.declared.ids.TermId.{TermId}
use Rattle.data_theory.specs.Signature.{Sig}
use Rattle.data_theory.specs.IdTrees.{Tree}
use Rattle.data_theory.specs.Terms.{Term}
use Rattle.lps_core.proofs.Members.{map_contains, contains_map}
use Rattle.trace_replay.specs.Settings.{Setting}
use Rattle.process_terms.specs.Processes.{Bound}
use Rattle.trace_replay.specs.Listings.{IsWhole}
use Rattle.trace_replay.specs.Decidings.{ComeOut, fail}
use Rattle.trace_replay.specs.Replays.{State}
use Rattle.trace_replay.specs.Attempts.{Attempt, combination, a_sum, MakesState, LeavesDoubt, IsSettled, it_fails, it_is_whole, it_is_doubtful, it_leads, AreTried}
use Rattle.trace_replay.specs.States.{meant_state}

-- ---- doubt
pub no_doubt : IsTrue false → ⊥
no_doubt e = cc e

pub or_left : (c d : Bool) → IsTrue c → IsTrue (c || d)
or_left true d e = refl
or_left false d e = absurd (no_doubt e)

pub or_right : (c d : Bool) → IsTrue d → IsTrue (c || d)
or_right true d e = refl
or_right false d e = e

pub or_cases : (c d : Bool) → IsTrue (c || d) → IsTrue c ⊎ IsTrue d
or_cases true d e = inl refl
or_cases false d e = inr e

-- ---- what is settled stays so
settled_on : (s : Setting) (to later : List State) (c d : Bool) → ((o : State) → Contains to o → Contains later o) → (IsTrue c → IsTrue d) → (a : Attempt) → IsSettled s to c a → IsSettled s later d a
settled_on s to later c d more grow _ (it_fails h) = it_fails h
settled_on s to later c d more grow _ (it_is_whole h) = it_is_whole h
settled_on s to later c d more grow _ (it_is_doubtful h i) = it_is_doubtful h (grow i)
settled_on s to later c d more grow _ (it_leads {o = o} h i) = it_leads h (more o i)

pub tried_none : (s : Setting) (looked_at : Attempt → Type 0) (os : List State) → ((a : Attempt) → looked_at a → ⊥) → AreTried s looked_at os os false
tried_none s looked_at os none = record {
  kept = λ o i. i;
  reached = λ o i. inl i;
  settled = λ a i. absurd (none a i);
  doubtful = λ d. absurd (no_doubt d);
}

-- one part after the other
pub tried_both : (s : Setting) (all one other : Attempt → Type 0) (old mid new : List State) (c d : Bool) → ((a : Attempt) → all a → one a ⊎ other a) → ((a : Attempt) → one a → all a) → ((a : Attempt) → other a → all a)
    → AreTried s one old mid c → AreTried s other mid new d → AreTried s all old new (c || d)
tried_both s all one other old mid new c d cases first second h k = record {
  kept = λ o i. k.kept o (h.kept o i);
  reached = λ o i. ⊎_elim
      (λ j. ⊎_elim (λ b. inl b) (λ b. inr (b.0, (first b.0 b.1.0, b.1.1))) (h.reached o j))
      (λ b. inr (b.0, (second b.0 b.1.0, b.1.1)))
      (k.reached o i);
  settled = λ a i. ⊎_elim
      (λ j. settled_on s mid new c (c || d) k.kept (or_left c d) a (h.settled a j))
      (λ j. settled_on s new new d (c || d) (λ o l. l) (or_right c d) a (k.settled a j))
      (cases a i);
  doubtful = λ t. ⊎_elim
      (λ j. let b = h.doubtful j in (b.0, (first b.0 b.1.0, b.1.1)))
      (λ j. let b = k.doubtful j in (b.0, (second b.0 b.1.0, b.1.1)))
      (or_cases c d t);
}

-- the same things, by another name
pub tried_as : (s : Setting) (one other : Attempt → Type 0) (old new : List State) (c : Bool) → ((a : Attempt) → one a → other a) → ((a : Attempt) → other a → one a) → AreTried s one old new c → AreTried s other old new c
tried_as s one other old new c into back h = record {
  kept = h.kept;
  reached = λ o i. ⊎_elim (λ b. inl b) (λ b. inr (b.0, (into b.0 b.1.0, b.1.1))) (h.reached o i);
  settled = λ a i. h.settled a (back a i);
  doubtful = λ t. let b = h.doubtful t in (b.0, (into b.0 b.1.0, b.1.1));
}

-- ---- one attempt
pub tried_failing : (s : Setting) (cs : List Term) (next : Option (List Term)) (os : List State) → ComeOut s cs fail → AreTried s (λ a. a ≡ combination cs next) os os false
tried_failing s cs next os h = record {
  kept = λ o i. i;
  reached = λ o i. inl i;
  settled = λ a e. subst (IsSettled s os false) (sym e) (it_fails h);
  doubtful = λ d. absurd (no_doubt d);
}

pub tried_open : (s : Setting) (t : Attempt) (os : List State) → LeavesDoubt s t → AreTried s (λ a. a ≡ t) os os true
tried_open s t os h = record {
  kept = λ o i. i;
  reached = λ o i. inl i;
  settled = λ a e. subst (IsSettled s os true) (sym e) (it_is_doubtful h refl);
  doubtful = λ d. (t, (refl, h));
}

pub tried_whole : (s : Setting) (x : Bound) (os : List State) → IsWhole s x → AreTried s (λ a. a ≡ a_sum x) os os false
tried_whole s x os h = record {
  kept = λ o i. i;
  reached = λ o i. inl i;
  settled = λ a e. subst (IsSettled s os false) (sym e) (it_is_whole h);
  doubtful = λ d. absurd (no_doubt d);
}

-- a state is added
pub tried_leading : (s : Setting) (t : Attempt) (g : Sig) (us : List Tree) (old : List State) (from to : List (Option (List TermId))) (next : Option (List TermId)) → old ≡ map (meant_state g us) from
    → ((o : Option (List TermId)) → Contains to o ↔ (Contains from o ⊎ (o ≡ next))) → MakesState s t (meant_state g us next) → AreTried s (λ a. a ≡ t) old (map (meant_state g us) to) false
tried_leading s t g us old from to next is added makes =
    let there : Contains (map (meant_state g us) to) (meant_state g us next) = map_contains (meant_state g us) to next ((added next).1 (inr refl)) in
    record {
      kept = λ o i.
          let p = contains_map (meant_state g us) from o (subst (λ z. Contains z o) is i) in subst (Contains (map (meant_state g us) to)) (sym p.1.1) (map_contains (meant_state g us) to p.0 ((added p.0).1 (inl p.1.0)));
      reached = λ o i.
          let p = contains_map (meant_state g us) to o i in
          ⊎_elim
          (λ j. inl (subst (λ z. Contains z o) (sym is) (subst (Contains (map (meant_state g us) from)) (sym p.1.1) (map_contains (meant_state g us) from p.0 j))))
          (λ e. inr (t, (refl, subst (MakesState s t) (sym (p.1.1 ∙ ap (meant_state g us) e)) makes)))
          ((added p.0).0 p.1.0);
      settled = λ a e. subst (IsSettled s (map (meant_state g us) to) false) (sym e) (it_leads makes there);
      doubtful = λ d. absurd (no_doubt d);
    }
