-- How the terms of a place are decided, one after another.
use Rattle.std.proofs.Common.{◌≡◌, ◌<◌, ◌≤◌, ◌+◌, ◌++◌, ◌⊎◌, inl, inr, ⊎_elim, ℕ, zero, suc, List, [], ◌∷◌, take, length, get_or, refl, sym, ap, ap₂, ◌∙◌, subst, arith, add-one, Bool, true, false, Some}
use Rattle.std.specs.Prelude.{◌≢◌, ◌↔◌, Contains, IsTrue, slice_get}
use Rattle.std.specs.List.{All, AllZip}
use Rattle.std.proofs.lemmas.List.{map-append, take_more}
use Rattle.std.proofs.lemmas.List.Elements.{All-head, All-tail, All-contains, All-weaker, Contains-get_or}
use Rattle.std.proofs.lemmas.Option.{slice_get_within}
use Rattle.data_theory.specs.declared.ids.TermId.{TermId}
use Rattle.data_theory.specs.Terms.{Term}
use Rattle.data_theory.specs.Equations.{trueᵗ, falseᵗ}
use Rattle.data_theory.specs.Provable.{Equation}
use Rattle.data_theory.specs.Rewriting.{GoesTo, IsDecided, no_decided}
use Rattle.data_theory.specs.Signature.{Sig}
use Rattle.data_theory.specs.IdData.{data_meant}
use Rattle.data_theory.specs.IdTrees.{Tree}
use Rattle.data_theory.specs.WholeSignatures.{IsSignature}
use Rattle.term_pool.specs.Pools.{Extends, AreDistinct}
use Rattle.data_rewriter.specs.declared.rewriter.Truth.{Truth}
use Rattle.data_rewriter.specs.declared.rewriter.Truth.TheVariants.{Yes, No, Stuck, Spent}
use Rattle.data_rewriter.specs.Rewriters.{IsDecision}
use Rattle.data_rewriter.specs.Standing.{IsTerm, listed_at, term_at}
use Rattle.data_rewriter.proofs.Standings.{term_kept, term_stays, same_terms}
use Rattle.bisim_laws.proofs.Firing.{contains_none, contains_cases}
use Rattle.lps_core.proofs.Members.{contains_map, map_contains}
use Rattle.lps_invariant.specs.declared.places.Place as code
use Rattle.lps_invariant.specs.Places.{Place}
use Rattle.lps_invariant.specs.PlacesInCode.{place_at, PlaceStands}
use Rattle.lps_invariant.specs.Decisions.{IsProved, IsProvedWhole, IsRefuted}
use Rattle.lps_invariant.specs.Judging.{IsTruthFor, AreAnswered, IsShownWith, IsFirstOpen, IsOpenAt}

-- ---- tests
differ : true ≡ false → ⊥
differ e = cc

pub not_so : {P : Type 0} (b : Bool) → IsTrue b ↔ P → b ≡ false → P → ⊥
not_so b h e p = differ (sym (h.1 p) ∙ e)

-- ---- pools that grow
listed_stay : (g : Sig) (ts us : List Tree) → Extends ts us → (ids : List TermId) → All (IsTerm g ts) ids → listed_at g us ids ≡ listed_at g ts ids
listed_stay g ts us x [] h = refl
listed_stay g ts us x (id ∷ ids) h = ap₂ (λ t zs. t ∷ zs) (term_kept g ts us id x (All-head (IsTerm g ts) id ids h).inside) (listed_stay g ts us x ids (All-tail (IsTerm g ts) id ids h))

pub place_stays : (g : Sig) (ts us : List Tree) → Extends ts us → (p : code.Place) → PlaceStands g ts p → place_at g us p ≡ place_at g ts p
place_stays g ts us x p h = ap₂ (λ hs gs. record { hypotheses = hs; goals = gs }) (listed_stay g ts us x p.hypotheses.items h.hypotheses) (listed_stay g ts us x p.goals.items h.goals)

pub place_still_stands : (g : Sig) (ts us : List Tree) → Extends ts us → (p : code.Place) → PlaceStands g ts p → PlaceStands g us p
place_still_stands g ts us x p h = record {
  hypotheses = All-weaker (IsTerm g ts) (IsTerm g us) (λ id k. term_stays g ts us x id k) p.hypotheses.items h.hypotheses;
  goals = All-weaker (IsTerm g ts) (IsTerm g us) (λ id k. term_stays g ts us x id k) p.goals.items h.goals;
}

-- ---- one decision
pub decided_as : (g : Sig) (own : List Equation) (ts us : List Tree) (t : TermId) (fuel left : ℕ) (a : Truth) → Extends ts us → IsTerm g ts t → IsDecision g own ts us t fuel left a → IsTruthFor g own fuel us (term_at g ts t) a
decided_as g own ts us t fuel left Yes x w d = (d.0, d.2)
decided_as g own ts us t fuel left No x w d = (d.0, d.2)
decided_as g own ts us t fuel left (Stuck u) x w d = (d.0, (d.1.0, d.1.2), d.2, d.3)
decided_as g own ts us t fuel left (Spent u) x w d =
    (subst (λ z. IsTerm g us z) (sym d.0) (term_stays g ts us x t w), ap (term_at g us) d.0 ∙ term_kept g ts us t x w.inside, d.2)

pub truth_stays : (g : Sig) (own : List Equation) (fuel : ℕ) (us vs : List Tree) → Extends us vs → (t : Term) (a : Truth) → IsTruthFor g own fuel us t a → IsTruthFor g own fuel vs t a
truth_stays g own fuel us vs x t Yes h = h
truth_stays g own fuel us vs x t No h = h
truth_stays g own fuel us vs x t (Stuck u) h =
    let k = sym (term_kept g us vs u x h.0.inside) in (
      term_stays g us vs x u h.0,
      (h.1.0, subst (λ z. GoesTo (data_meant g) own t z h.1.0) k h.1.1),
      subst (λ z. z ≢ trueᵗ) k h.2,
      subst (λ z. z ≢ falseᵗ) k h.3,
    )
truth_stays g own fuel us vs x t (Spent u) h = (term_stays g us vs x u h.0, term_kept g us vs u x h.0.inside ∙ h.1, h.2)

-- ---- the hypotheses
module _ {A B : Type 0} (R : A → B → Type 0) where
  zipped_more : (xs : List A) (ys : List B) (x : A) (y : B) → AllZip R xs ys → R x y → AllZip R (xs ++ x ∷ []) (ys ++ y ∷ [])
  zipped_more [] [] x y h k = (k, tt)
  zipped_more [] (b ∷ ys) x y h k = absurd h
  zipped_more (a ∷ xs) [] x y h k = absurd h
  zipped_more (a ∷ xs) (b ∷ ys) x y h k = (h.0, zipped_more xs ys x y h.1 k)

zipped_weaker : {A B : Type 0} (R S : A → B → Type 0) → ((x : A) (y : B) → R x y → S x y) → (xs : List A) (ys : List B) → AllZip R xs ys → AllZip S xs ys
zipped_weaker R S f [] [] h = tt
zipped_weaker R S f [] (b ∷ ys) h = absurd h
zipped_weaker R S f (a ∷ xs) [] h = absurd h
zipped_weaker R S f (a ∷ xs) (b ∷ ys) h = (f a b h.0, zipped_weaker R S f xs ys h.1)

pub answers_stay : (g : Sig) (own : List Equation) (fuel : ℕ) (us vs : List Tree) → Extends us vs → (ts : List Term) (answers : List Truth) → AreAnswered g own fuel us ts answers → AreAnswered g own fuel vs ts answers
answers_stay g own fuel us vs x ts answers h =
    zipped_weaker (λ t a. IsTruthFor g own fuel us t a × (a ≢ No)) (λ t a. IsTruthFor g own fuel vs t a × (a ≢ No)) (λ t a k. (truth_stays g own fuel us vs x t a k.0, k.1)) ts answers h

-- a term of a list, in a grown pool
pub term_there : (g : Sig) (ts us : List Tree) → Extends ts us → (ids : List TermId) (i : ℕ) (d : TermId) → i < length ids → All (IsTerm g ts) ids → IsTerm g us (get_or ids i d)
term_there g ts us x ids i d l h = term_stays g ts us x (get_or ids i d) (h i d l)

pub answers_more : (g : Sig) (own : List Equation) (fuel : ℕ) (ts us vs : List Tree) → Extends ts us → Extends us vs → (ids : List TermId) (i : ℕ) (d : TermId) (answers new : List Truth) (a : Truth) → i < length ids → All (IsTerm g ts) ids
    → AreAnswered g own fuel us (listed_at g ts (take i ids)) answers → IsTruthFor g own fuel vs (term_at g us (get_or ids i d)) a → (a ≡ No → ⊥) → new ≡ answers ++ a ∷ [] → AreAnswered g own fuel vs (listed_at g ts (take (i + 1) ids)) new
answers_more g own fuel ts us vs x y ids i d answers new a l h before now n e =
    let R : Term → Truth → Type 0 = λ t b. IsTruthFor g own fuel vs t b × (b ≢ No) in
    subst (λ z. AllZip R (listed_at g ts (take (i + 1) ids)) z) (sym e)
    (subst (λ z. AllZip R z (answers ++ a ∷ [])) (sym (ap (listed_at g ts) (take_more ids i d l) ∙ map-append (term_at g ts) (take i ids) (get_or ids i d ∷ [])))
    (zipped_more R (listed_at g ts (take i ids)) answers (term_at g ts (get_or ids i d)) a (answers_stay g own fuel us vs y (listed_at g ts (take i ids)) answers before)
    (subst (λ z. IsTruthFor g own fuel vs z a) (term_kept g ts us (get_or ids i d) x (h i d l).inside) now, n)))

-- a hypothesis that is decided No
pub refuted_there : (g : Sig) (own : List Equation) (fuel : ℕ) (ts us vs : List Tree) → Extends ts us → (ids : List TermId) (goals : List Term) (i : ℕ) (d : TermId) (a : Truth) → i < length ids → All (IsTerm g ts) ids
    → IsTruthFor g own fuel vs (term_at g us (get_or ids i d)) a → a ≡ No → IsRefuted (data_meant g) own fuel (record { hypotheses = listed_at g ts ids; goals = goals })
refuted_there g own fuel ts us vs x ids goals i d a l h now e = record {
  hypothesis = term_at g ts (get_or ids i d);
  among = map_contains (term_at g ts) ids (get_or ids i d) (Contains-get_or ids i d l);
  no = subst (λ z. IsDecided (data_meant g) own fuel z no_decided) (term_kept g ts us (get_or ids i d) x (h i d l).inside) (subst (λ b. IsTruthFor g own fuel vs (term_at g us (get_or ids i d)) b) e now);
}

-- ---- the goals
-- the first goals are proved
abbrev pub FirstAreProved : Sig → List Equation → ℕ → Place → ℕ → Type 0
FirstAreProved g own fuel p n = (i : ℕ) (t : Term) → i < n → slice_get p.goals i ≡ Some t → IsProved (data_meant g) own fuel p t

pub none_proved : (g : Sig) (own : List Equation) (fuel : ℕ) (p : Place) → FirstAreProved g own fuel p 0
none_proved g own fuel p i t l e = absurd (omega (arith, l))

pub one_more_proved : (g : Sig) (own : List Equation) (fuel : ℕ) (p : Place) (n : ℕ) (u : Term) → FirstAreProved g own fuel p n → slice_get p.goals n ≡ Some u → IsProved (data_meant g) own fuel p u → FirstAreProved g own fuel p (n + 1)
one_more_proved g own fuel p n u before there now i t l e = ⊎_elim
    (λ (k : i < n). before i t k e)
    (λ (k : i ≡ n). subst (IsProved (data_meant g) own fuel p) (some_same (sym there ∙ sym (ap (slice_get p.goals) k) ∙ e)) now)
    (less_or_same i n l)
  where
    some_same : {a b : Term} → Some a ≡ Some b → a ≡ b
    some_same q = cc

    less_or_same : (a b : ℕ) → a < b + 1 → (a < b) ⊎ (a ≡ b)
    less_or_same zero zero k = inr refl
    less_or_same zero (suc b) k = inl (omega arith)
    less_or_same (suc a) zero k = absurd (omega (arith, k))
    less_or_same (suc a) (suc b) k = ⊎_elim (λ h. inl (omega (arith, h))) (λ e. inr (ap suc e)) (less_or_same a b (omega (arith, k)))

pub all_proved : (g : Sig) (own : List Equation) (fuel : ℕ) (p : Place) (n : ℕ) → length p.goals ≤ n → FirstAreProved g own fuel p n → IsProvedWhole (data_meant g) own fuel p
all_proved g own fuel p n l h t i =
    let r = contains_at p.goals t i in
    let w = slice_get_within p.goals r.0 t r.1 in
    h r.0 t (omega (arith, l, w)) r.1
  where
    contains_at : (xs : List Term) (x : Term) → Contains xs x → (k : ℕ) × (slice_get xs k ≡ Some x)
    contains_at [] x j = absurd (contains_none x j)
    contains_at (y ∷ xs) x j = ⊎_elim (λ q. (0, ap Some q)) (λ m. let r = contains_at xs x m in (suc r.0, r.1)) (contains_cases y x xs j)

goal_at : (g : Sig) (ts : List Tree) (ids : List TermId) (i : ℕ) (d : TermId) → i < length ids → slice_get (listed_at g ts ids) i ≡ Some (term_at g ts (get_or ids i d))
goal_at g ts [] i d l = absurd (omega (arith, l))
goal_at g ts (x ∷ ids) zero d l = refl
goal_at g ts (x ∷ ids) (suc i) d l = goal_at g ts ids i d (omega (arith, l))

module _ (g : Sig) (own : List Equation) (fuel : ℕ) (ts : List Tree) (hypotheses goals : List TermId) (stand : All (IsTerm g ts) hypotheses) (all : All (IsTerm g ts) goals) where
  abbrev P : Place
  P = record { hypotheses = listed_at g ts hypotheses; goals = listed_at g ts goals }

  -- a goal that is one of the hypotheses
  pub proved_by_hypothesis : (i : ℕ) (d : TermId) → i < length goals → Contains hypotheses (get_or goals i d) → FirstAreProved g own fuel P i → FirstAreProved g own fuel P (i + 1)
  proved_by_hypothesis i d l there before =
      one_more_proved g own fuel P i (term_at g ts (get_or goals i d)) before (goal_at g ts goals i d l) (inl (map_contains (term_at g ts) hypotheses (get_or goals i d) there))

  module _ (us vs : List Tree) (x : Extends ts us) (i : ℕ) (d : TermId) (l : i < length goals) (a : Truth) (now : IsTruthFor g own fuel vs (term_at g us (get_or goals i d)) a) (before : FirstAreProved g own fuel P i) where
    answered : IsTruthFor g own fuel vs (term_at g ts (get_or goals i d)) a
    answered = subst (λ z. IsTruthFor g own fuel vs z a) (term_kept g ts us (get_or goals i d) x (all i d l).inside) now

    -- a goal that is decided Yes
    pub proved_by_answer : a ≡ Yes → FirstAreProved g own fuel P (i + 1)
    proved_by_answer e = one_more_proved g own fuel P i (term_at g ts (get_or goals i d)) before (goal_at g ts goals i d l) (inr (subst (IsTruthFor g own fuel vs (term_at g ts (get_or goals i d))) e answered))

    -- a goal that isn't proved
    pub is_open : IsSignature g → AreDistinct ts → (Contains hypotheses (get_or goals i d) → ⊥) → (a ≡ Yes → ⊥) → IsFirstOpen g own fuel vs (i + 1) a P
    is_open ok distinct none other = record {
      number = i;
      from_one = add-one i;
      goal = term_at g ts (get_or goals i d);
      there = goal_at g ts goals i d l;
      before = before;
      no_hypothesis = λ c. let r = contains_map (term_at g ts) hypotheses (term_at g ts (get_or goals i d)) c in none (subst (Contains hypotheses) (same r.0 r.1.0 (sym r.1.1)) r.1.0);
      answered = answered;
      not_yes = other;
    }
      where
        same : (h : TermId) → Contains hypotheses h → term_at g ts h ≡ term_at g ts (get_or goals i d) → h ≡ get_or goals i d
        same h c e =
            (same_terms g ts ok.table distinct h (get_or goals i d) (term_at g ts h) (term_at g ts (get_or goals i d)) (record { term = All-contains (IsTerm g ts) hypotheses h stand c; is = refl }) (record { term = all i d l; is = refl })).1 e

-- ---- a place
pub shown_with : (g : Sig) (own : List Equation) (fuel : ℕ) (us vs : List Tree) → Extends us vs → (p : Place) (truths : List Truth) → AreAnswered g own fuel us p.hypotheses truths → IsProvedWhole (data_meant g) own fuel p → IsShownWith g own fuel vs truths p
shown_with g own fuel us vs x p truths h k = record { hypotheses = answers_stay g own fuel us vs x p.hypotheses truths h; goals = k }

pub open_with : (g : Sig) (own : List Equation) (fuel : ℕ) (us vs : List Tree) → Extends us vs → (p : Place) (truths new : List Truth) (part : ℕ) (a : Truth) → AreAnswered g own fuel us p.hypotheses truths → IsFirstOpen g own fuel vs part a p → new ≡ truths ++ a ∷ [] → IsOpenAt g own fuel vs part new p
open_with g own fuel us vs x p truths new part a h k e = record { for_hypotheses = truths; for_goal = a; are = e; hypotheses = answers_stay g own fuel us vs x p.hypotheses truths h; goal = k }
