-- Ways in code, one after the other.
use Rattle.std.specs.Prelude.{◌≡◌, ◌<◌, ◌≤◌, ◌+◌, ◌++◌, ◌⊎◌, ℕ, zero, suc, List, [], ◌∷◌, map, length, take, drop, get_or}
use Rattle.std.proofs.Common.{refl, sym, subst, ap, ap₂, ◌∙◌, arith, inl, inr, ⊎_elim}
use Rattle.std.specs.List.{All, Contains}
use Rattle.std.proofs.lemmas.List.{map-append, take_more, take_all}
use Rattle.std.proofs.lemmas.List.Elements.{Contains-append_cases, Contains-append_left, Contains-append_right, Contains-push_cases, Contains-push}
use Rattle.bisim_laws.proofs.Firing.{contains_none}
use Rattle.data_theory.specs.declared.ids.ActId.{ActId}
use Rattle.data_theory.specs.declared.ids.TermId.{TermId}
use Rattle.data_theory.specs.IdTrees.{Tree}
use Rattle.data_theory.specs.Signature.{Sig}
use Rattle.data_theory.specs.Terms.{Term}
use Rattle.term_pool.specs.Pools.{Extends}
use Rattle.data_rewriter.specs.Standing.{IsTerm, term_at}
use Rattle.process_terms.specs.Communication.{equalities}
use Rattle.process_terms.specs.Labels.{Action, Label}
use Rattle.process_terms.specs.PlainProcesses.{PlainAction}
use Rattle.bisim_laws.specs.LinearProcesses.{Summand, Linear}
use Rattle.lps_simulator.proofs.Bindings.{terms_stay}
use Rattle.trace_replay.specs.Pairings.{Pairing}
use Rattle.trace_replay.specs.Ways.{PlainWay, action_at, without, open_conditions, summand_at, HasPairing, AreWaysOf, AreWays, IsNextWay, AddsNext, AreNext}
use Rattle.trace_replay.proofs.StateLemmas.{terms_kept}

-- ---- the next ways, as the pool grows
module _ (g : Sig) (ts us vs : List Tree) (later : Extends us vs) (act : ActId) (a : Action) (xs : List PlainAction) (m : Label) where
  next_on : (b : PlainWay) (at : ℕ) (w : PlainWay) → IsNextWay g ts us act a xs m b at w → IsNextWay g ts vs act a xs m b at w
  next_on b at w h = record { within = h.within; same = h.same; number = h.number; over = terms_stay g us vs w.conditions later h.over; conditions = terms_kept g us vs later w.conditions h.over ∙ h.conditions; left = h.left }

  -- one way more
  pub added_more : (b : PlainWay) (i : ℕ) (old now : List PlainWay) (w : PlainWay) → AddsNext g ts us act a xs m b i old now → IsNextWay g ts vs act a xs m b i w → AddsNext g ts vs act a xs m b (i + 1) old (now ++ w ∷ [])
  added_more b i old now w h k = record {
    kept = λ z c. Contains-append_left now (w ∷ []) z (h.kept z c);
    sound = λ z c. ⊎_elim
        (λ j. ⊎_elim (λ o. inl o) (λ o. inr (o.0, next_on b o.0 z o.1)) (h.sound z j))
        (λ e. inr (i, subst (IsNextWay g ts vs act a xs m b i) e k))
        (Contains-push_cases now w z c);
    complete = λ at l inside same. ⊎_elim
        (λ before. let r = h.complete at before inside same in (r.0, (Contains-append_left now (w ∷ []) r.0 r.1.0, next_on b at r.0 r.1.1)))
        (λ e. (w, (Contains-push now w, subst (λ (n : ℕ). IsNextWay g ts vs act a xs m b n w) (sym e) k)))
        (less_or_same at i l);
  }
    where
      less_or_same : (n k : ℕ) → n < k + 1 → (n < k) ⊎ (n ≡ k)
      less_or_same n k l = grind (arith, l)

  -- an action with another number is passed
  pub added_none : (b : PlainWay) (i : ℕ) (old now : List PlainWay) → AddsNext g ts us act a xs m b i old now → ((get_or xs (get_or b.left i 0) (record { act = act; args = [] })).act ≡ act → ⊥) → AddsNext g ts us act a xs m b (i + 1) old now
  added_none b i old now h other = record {
    kept = h.kept;
    sound = h.sound;
    complete = λ at l inside same. ⊎_elim
        (λ before. h.complete at before inside same)
        (λ e. absurd (other (subst (λ (n : ℕ). (get_or xs (get_or b.left n 0) (record { act = act; args = [] })).act ≡ act) e same)))
        (less_or_same at i l);
  }
    where
      less_or_same : (n k : ℕ) → n < k + 1 → (n < k) ⊎ (n ≡ k)
      less_or_same n k l = grind (arith, l)

  -- the ways of one more way that was begun
  pub next_more : (bs : List PlainWay) (b : PlainWay) (old now : List PlainWay) → AreNext g ts us act a xs m bs old → AddsNext g ts vs act a xs m b (length b.left) old now → AreNext g ts vs act a xs m (bs ++ b ∷ []) now
  next_more bs b old now h k = record {
    sound = λ w c. ⊎_elim
        (λ j. let r = h.sound w j in (r.0, (Contains-append_left bs (b ∷ []) r.0 r.1.0, (r.1.1.0, next_on r.0 r.1.1.0 w r.1.1.1))))
        (λ r. (b, (Contains-push bs b, r)))
        (k.sound w c);
    complete = λ o c at l same. ⊎_elim
        (λ j. let r = h.complete o j at l same in (r.0, (k.kept r.0 r.1.0, next_on o at r.0 r.1.1)))
        (λ e. subst (λ (z : PlainWay). (w : PlainWay) × (Contains now w × IsNextWay g ts vs act a xs m z at w)) e
        (k.complete at (subst (λ (z : PlainWay). at < length z.left) (sym e) l) (subst (λ (z : PlainWay). at < length z.left) (sym e) l) (subst (λ (z : PlainWay). (get_or xs (get_or z.left at 0) (record { act = act; args = [] })).act ≡ act) (sym e) same)))
        (Contains-push_cases bs b o c);
  }

pub added_first : (g : Sig) (ts : List Tree) (act : ActId) (a : Action) (xs : List PlainAction) (m : Label) (b : PlainWay) (old : List PlainWay) → AddsNext g ts ts act a xs m b 0 old old
added_first g ts act a xs m b old = record { kept = λ w c. c; sound = λ w c. inl c; complete = λ at l inside same. absurd (omega (arith, l)) }

pub next_first : (g : Sig) (ts : List Tree) (act : ActId) (a : Action) (xs : List PlainAction) (m : Label) → AreNext g ts ts act a xs m [] []
next_first g ts act a xs m = record { sound = λ w c. absurd (contains_none w c); complete = λ b c at l same. absurd (contains_none b c) }

-- the conditions that there were, as they are over the first pool
pub next_before : (g : Sig) (ts us vs : List Tree) → Extends ts us → (act : ActId) (a : Action) (xs : List PlainAction) (m : Label) (b : PlainWay) (n : ℕ) (old now : List PlainWay) → All (IsTerm g ts) b.conditions → AddsNext g us vs act a xs m b n old now → AddsNext g ts vs act a xs m b n old now
next_before g ts us vs grows act a xs m b n old now over h = record {
  kept = h.kept;
  sound = λ w c. ⊎_elim (λ o. inl o) (λ o. inr (o.0, from o.0 w o.1)) (h.sound w c);
  complete = λ at l inside same. let r = h.complete at l inside same in (r.0, (r.1.0, from at r.0 r.1.1));
}
  where
    from : (at : ℕ) (w : PlainWay) → IsNextWay g us vs act a xs m b at w → IsNextWay g ts vs act a xs m b at w
    from at w k = record {
      within = k.within;
      same = k.same;
      number = k.number;
      over = k.over;
      conditions = k.conditions ∙ ap (λ (z : List Term). z ++ equalities a.sorts a.args (action_at m (get_or b.left at 0)).args) (terms_kept g ts us grows b.conditions over);
      left = k.left;
    }

-- ---- the ways of one summand more
module _ (g : Sig) (us vs : List Tree) (later : Extends us vs) (l : Linear) (m : Label) where
  same_conditions : (w : PlainWay) → All (IsTerm g us) w.conditions → map (term_at g vs) w.conditions ≡ map (term_at g us) w.conditions
  same_conditions w over = terms_kept g us vs later w.conditions over

  pub ways_more : (i : ℕ) (old added : List PlainWay) (a : Summand) → a ≡ summand_at l i → AreWays g us l m i old → AreWaysOf g vs a m i added → AreWays g vs l m (i + 1) (old ++ added)
  ways_more i old added a is h k = record {
    number = λ w c. ⊎_elim (λ j. let n = h.number w j in omega (arith, n)) (λ j. let n = k.number w j in omega (arith, n)) (Contains-append_cases old added w c);
    over = λ w c. ⊎_elim (λ j. terms_stay g us vs w.conditions later (h.over w j)) (λ j. k.over w j) (Contains-append_cases old added w c);
    sound = λ w c. ⊎_elim
        (λ j. let r = h.sound w j in (r.0, same_conditions w (h.over w j) ∙ r.1))
        (λ j. subst (λ (z : Summand). HasPairing g vs z m w) (is ∙ ap (summand_at l) (sym (k.number w j))) (k.sound w j))
        (Contains-append_cases old added w c);
    complete = λ n b. ⊎_elim
        (λ before. λ p. let r = h.complete n before p in (r.0, (Contains-append_left old added r.0 r.1.0, (r.1.1.0, same_conditions r.0 (h.over r.0 r.1.0) ∙ r.1.1.1))))
        (λ e. subst (λ (j : ℕ). (p : Pairing (summand_at l j).label m) → (w : PlainWay) × (Contains (old ++ added) w × ((w.summand ≡ j) × (map (term_at g vs) w.conditions ≡ open_conditions (summand_at l j) p.paired)))) (sym e)
        (subst (λ (z : Summand). (p : Pairing z.label m) → (w : PlainWay) × (Contains (old ++ added) w × ((w.summand ≡ i) × (map (term_at g vs) w.conditions ≡ open_conditions z p.paired)))) is
        (λ p. let r = k.complete p in (r.0, (Contains-append_right old added r.0 r.1.0, (k.number r.0 r.1.0, r.1.1))))))
        (less_or_same n i b);
  }
    where
      less_or_same : (n k : ℕ) → n < k + 1 → (n < k) ⊎ (n ≡ k)
      less_or_same n k l = grind (arith, l)

pub ways_first : (g : Sig) (ts : List Tree) (l : Linear) (m : Label) → AreWays g ts l m 0 []
ways_first g ts l m = record {
  number = λ w c. absurd (contains_none w c);
  over = λ w c. absurd (contains_none w c);
  sound = λ w c. absurd (contains_none w c);
  complete = λ i l. absurd (omega (arith, l));
}
