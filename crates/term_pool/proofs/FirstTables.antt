-- The table of first values, while it is made.
use Rattle.std.proofs.Common.{◌≡◌, ◌≢◌, ◌⊎◌, inl, inr, ⊎_elim, ℕ, zero, suc, ◌+◌, ◌<◌, ◌≤◌, List, [], ◌∷◌, length, set, Option, Some, None, refl, sym, ap, ◌∙◌, subst, arith}
use Rattle.std.specs.Prelude.{slice_get}
use Rattle.std.specs.List.{All}
use Rattle.std.proofs.lemmas.List.{length-set}
use Rattle.std.proofs.lemmas.List.Elements.{All-head, All-tail, All-cons, All-nil}
use Rattle.std.proofs.lemmas.Option.{slice_get_within, slice_get-get_or}
use Rattle.data_theory.specs.declared.ids.SortId.{SortId}
use Rattle.data_theory.specs.declared.ids.FunId.{FunId}
use Rattle.data_theory.specs.Functions.{Function, arguments_of}
use Rattle.data_theory.specs.Signature.{Sig}
use Rattle.term_pool.specs.declared.first_values.First.{First}
use Rattle.term_pool.specs.ConstructorValues.{ConstructorValue, ConstructorValues, a_number, built, a_constant, no_value, value_then, IsValueOf, AreValuesOf, weight, weights, ComesBefore, lighter}
use Rattle.term_pool.specs.FirstValues.{IsFirstOf, IsEntryOf, AreFirstValues, AreFirstSoFar, IsSettled, AreSettled, IsOverSettled, IsCandidate, IsCandidateOf, IsOpen, IsNext, IsNextOf, OpenWeighAtLeast, open_count}
use Rattle.term_pool.proofs.FirstValueLemmas.{one_function}

-- ---- entries
module _ {A : Type 0} where
  read_set : (xs : List A) (i : ℕ) (a x : A) → slice_get xs i ≡ Some x → slice_get (set xs i a) i ≡ Some a
  read_set [] i a x e = cc
  read_set (y ∷ xs) zero a x e = refl
  read_set (y ∷ xs) (suc i) a x e = read_set xs i a x e

  read_set_other : (xs : List A) (i j : ℕ) (a : A) → j ≢ i → slice_get (set xs i a) j ≡ slice_get xs j
  read_set_other [] i j a n = refl
  read_set_other (y ∷ xs) zero zero a n = absurd (n refl)
  read_set_other (y ∷ xs) zero (suc j) a n = refl
  read_set_other (y ∷ xs) (suc i) zero a n = refl
  read_set_other (y ∷ xs) (suc i) (suc j) a n = read_set_other xs i j a (λ e. n (ap suc e))

same_or_not : (a b : ℕ) → (a ≡ b) ⊎ (a ≢ b)
same_or_not a b = grind arith

settled_or_open : (es : List (Option First)) (s : SortId) → s.0 < length es → IsSettled es s ⊎ IsOpen es s
settled_or_open es s l = by_entry (slice_get es s.0) refl
  where
    by_entry : (o : Option (Option First)) → slice_get es s.0 ≡ o → IsSettled es s ⊎ IsOpen es s
    by_entry None e = absurd (let there = slice_get-get_or es s.0 None l in let same : None ≡ Some _ = sym e ∙ there in cc)
    by_entry (Some None) e = inr e
    by_entry (Some (Some f)) e = inl (f, e)

-- ---- the values of sorts without an entry
-- the sorts of the arguments of functions have a place in the table
abbrev pub ArgumentsWithin : Sig → List (Option First) → Type 0
ArgumentsWithin g es = (f : FunId) (e : Function) → slice_get g.functions f.0 ≡ Some e → All (λ (t : SortId). t.0 < length es) (arguments_of e)

-- What the weights of the candidates of open sorts are, and all greater numbers, the weights of all values of open sorts are.
module _ (g : Sig) (es : List (Option First)) (P : ℕ → Type 0) (up : (a b : ℕ) → P a → a ≤ b → P b) (within : ArgumentsWithin g es)
    (candidates : (t : SortId) (w : ConstructorValue) → IsOpen es t → IsValueOf g w t → IsOverSettled g es w → P (weight w)) where
  mutual
    pub open_value : (w : ConstructorValue) (t : SortId) → IsValueOf g w t → IsOpen es t → P (weight w)
    open_value (a_number a z) t is o = candidates t (a_number a z) o is tt
    open_value (a_constant d) t is o = candidates t (a_constant d) o is tt
    open_value (built f ws) t is o =
        ⊎_elim
        (λ settled. candidates t (built f ws) o is (λ d at. subst (λ (e : Function). AreSettled es (arguments_of e)) (one_function g f is.2.0 d is.2.1 at) settled))
        (λ p. up (weights ws) (1 + weights ws) p (omega arith))
        (open_values ws (arguments_of is.2.0) (within f is.2.0 is.2.1) is.2.2)

    pub open_values : (ws : ConstructorValues) (ss : List SortId) → All (λ (t : SortId). t.0 < length es) ss → AreValuesOf g ws ss → AreSettled es ss ⊎ P (weights ws)
    open_values no_value [] l are = inl (All-nil (IsSettled es))
    open_values no_value (s ∷ ss) l are = absurd are
    open_values (value_then w ws) [] l are = absurd are
    open_values (value_then w ws) (s ∷ ss) l are =
        ⊎_elim
        (λ settled. ⊎_elim (λ rest. inl (All-cons (IsSettled es) s ss settled rest)) (λ p. inr (up (weights ws) (weight w + weights ws) p (omega arith))) (open_values ws ss (All-tail (λ (t : SortId). t.0 < length es) s ss l) are.1))
        (λ o. inr (up (weight w) (weight w + weights ws) (open_value w s are.0 o) (omega arith)))
        (settled_or_open es s (All-head (λ (t : SortId). t.0 < length es) s ss l))

-- ---- one more entry
-- where no value of an open sort is lighter than a candidate, the candidate is the first value of its sort
pub candidate_is_first : (g : Sig) (es : List (Option First)) → ArgumentsWithin g es → (s : SortId) (c : First) → IsCandidate g es s c
    → ((t : SortId) (w : ConstructorValue) → IsOpen es t → IsValueOf g w t → IsOverSettled g es w → c.weight ≤ weight w) → IsFirstOf g s c
candidate_is_first g es within s c k least = (k.value, record { of_sort = k.of_sort; first = first }, k.weighs, k.has_root)
  where
    first : (w : ConstructorValue) → IsValueOf g w s → (k.value ≡ w) ⊎ ComesBefore g s k.value w
    first (a_number a z) is = k.first (a_number a z) is tt
    first (a_constant d) is = k.first (a_constant d) is tt
    first (built f ws) is =
        ⊎_elim
        (λ settled. k.first (built f ws) is (λ d at. subst (λ (e : Function). AreSettled es (arguments_of e)) (one_function g f is.2.0 d is.2.1 at) settled))
        (λ p. inr (lighter (let w = k.weighs in omega (arith, p, w))))
        (open_values g es (λ n. c.weight ≤ n) (λ a b l m. omega (arith, l, m)) within least ws (arguments_of is.2.0) (within f is.2.0 is.2.1) is.2.2)

pub set_entry : (g : Sig) (es : List (Option First)) → AreFirstSoFar g es → (s : SortId) (c : First) → IsOpen es s → IsFirstOf g s c → AreFirstSoFar g (set es s.0 (Some c))
set_entry g es sofar s c unsettled is_first = record { count = length-set es s.0 (Some c) ∙ sofar.count; first = first }
  where
    named : (t : SortId) → t.0 ≡ s.0 → s ≡ t
    named t e = ap (λ (n : ℕ). record { 0 = n }) (sym e)

    first : (t : SortId) (f : First) → slice_get (set es s.0 (Some c)) t.0 ≡ Some (Some f) → IsFirstOf g t f
    first t f at =
        ⊎_elim
        (λ same. let there = read_set es s.0 (Some c) None unsettled in
        let equal : Some (Some c) ≡ Some (Some f) = sym there ∙ ap (slice_get (set es s.0 (Some c))) (sym same) ∙ at in
        let e : c ≡ f = cc in
        subst (λ (d : First). IsFirstOf g t d) e (subst (λ (r : SortId). IsFirstOf g r c) (named t same) is_first))
        (λ differ. sofar.first t f (sym (read_set_other es s.0 t.0 (Some c) differ) ∙ at))
        (same_or_not t.0 s.0)

pub one_more_entry : (g : Sig) (es : List (Option First)) → ArgumentsWithin g es → AreFirstSoFar g es → (s : SortId) (c : First) → IsNext g es (length es) s c → AreFirstSoFar g (set es s.0 (Some c))
one_more_entry g es within sofar s c next = set_entry g es sofar s c next.unsettled (candidate_is_first g es within s c next.candidate (λ t w o is over. next.least t w (slice_get_within es t.0 None o) o is over))

-- a sort that is open once another one is settled was open before
open_before : (es : List (Option First)) (i : ℕ) (c : First) (t : SortId) → slice_get es i ≡ Some None → IsOpen (set es i (Some c)) t → IsOpen es t
open_before es i c t unsettled o =
    ⊎_elim
    (λ same. absurd (let there = read_set es i (Some c) None unsettled in let equal : Some (Some c) ≡ Some None = sym there ∙ ap (slice_get (set es i (Some c))) (sym same) ∙ o in cc))
    (λ differ. sym (read_set_other es i t.0 (Some c) differ) ∙ o)
    (same_or_not t.0 i)

pub fewer_open : (g : Sig) (es : List (Option First)) (n i : ℕ) (c : First) → slice_get es i ≡ Some None → OpenWeighAtLeast g es n → OpenWeighAtLeast g (set es i (Some c)) n
fewer_open g es n i c unsettled least = λ t w o is. least t w (open_before es i c t unsettled o) is

-- after the next entry, the values of open sorts weigh as much as it at least
pub open_weigh_as_next : (g : Sig) (es : List (Option First)) → ArgumentsWithin g es → (s : SortId) (c : First) → IsNext g es (length es) s c → OpenWeighAtLeast g es c.weight
open_weigh_as_next g es within s c next = λ t w o is. open_value g es (λ n. c.weight ≤ n) (λ a b l m. omega (arith, l, m)) within (λ r v p q over. next.least r v (slice_get_within es r.0 None p) p q over) w t is o

-- a candidate that is no heavier is a first value
pub as_light_is_first : (g : Sig) (es : List (Option First)) → ArgumentsWithin g es → (n : ℕ) → OpenWeighAtLeast g es n → (s : SortId) (c : First) → IsCandidate g es s c → c.weight ≤ n → IsFirstOf g s c
as_light_is_first g es within n least s c k l = candidate_is_first g es within s c k (λ t w o is over. (let more = least t w o is in omega (arith, l, more)))

-- where no open sort has a candidate, the table is whole
pub whole_table : (g : Sig) (es : List (Option First)) → ArgumentsWithin g es → AreFirstSoFar g es → IsNextOf g es (length es) None → AreFirstValues g es
whole_table g es within sofar none = record { count = sofar.count; first = first }
  where
    first : (s : SortId) (e : Option First) → slice_get es s.0 ≡ Some e → IsEntryOf g s e
    first s (Some f) at = sofar.first s f at
    first s None at = λ has. open_value g es (λ n. ⊥) (λ a b l m. l) within (λ t w o is over. none t w (slice_get_within es t.0 None o) o is over) has.0 s has.1 at

-- ---- the number of open sorts
pub open_count-set : (es : List (Option First)) (i : ℕ) (c : First) → slice_get es i ≡ Some None → suc (open_count (set es i (Some c))) ≡ open_count es
open_count-set [] i c e = cc
open_count-set (None ∷ es) zero c e = refl
open_count-set (Some f ∷ es) zero c e = cc
open_count-set (None ∷ es) (suc i) c e = ap suc (open_count-set es i c e)
open_count-set (Some f ∷ es) (suc i) c e = open_count-set es i c e

-- ---- the sorts of one weight
-- what a turn keeps
pub record IsTurn (g : Sig) (es : List (Option First)) (n k : ℕ) : Type 0 where
  pub entries : AreFirstSoFar g es
  pub least : OpenWeighAtLeast g es n
  pub fewer : open_count es ≤ k

pub as_light_settled : (g : Sig) (es read new : List (Option First)) (n k i : ℕ) (c : First) (o : Option First) → ArgumentsWithin g es → AreFirstSoFar g es → OpenWeighAtLeast g es n → open_count es ≤ k → slice_get es i ≡ Some None → read ≡ es
    → IsCandidateOf g read (record { 0 = i }) o → o ≡ Some c → c.weight ≤ n → new ≡ set es i (Some c) → IsTurn g new n k
as_light_settled g es read new n k i c o within sofar least fewer unsettled same candidate is l made = subst (λ (xs : List (Option First)). IsTurn g xs n k) (sym made) turn
  where
    its : IsCandidate g es (record { 0 = i }) c
    its = subst (λ (xs : List (Option First)). IsCandidate g xs (record { 0 = i }) c) same (subst (IsCandidateOf g read (record { 0 = i })) is candidate)

    turn : IsTurn g (set es i (Some c)) n k
    turn = record {
      entries = set_entry g es sofar (record { 0 = i }) c unsettled (as_light_is_first g es within n least (record { 0 = i }) c its l);
      least = fewer_open g es n i c unsettled least;
      fewer = (let falls = open_count-set es i c unsettled in omega (arith, falls, fewer));
    }
