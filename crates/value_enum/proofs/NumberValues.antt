-- The numbers by their weights.
use Rattle.std.proofs.Common.{◌≡◌, ◌==◌, inl, inr, ◌<◌, ◌+◌, ◌-◌, ◌*◌, ◌/◌, ◌%◌, ◌^◌, ◌||◌, ℕ, zero, suc, Bool, true, false, cond, Some, ℤ, pos, negsuc, ◌≤ℤ◌, refl, sym, ap, ◌∙◌, subst, arith}
use Rattle.std.proofs.lemmas.Bool.Decides.{Decides-eqb}
use lib.IntN.{neg_ℤ}
use lib.Dec.{le→leb}
use Rattle.data_theory.specs.declared.ids.SortId.{SortId}
use Rattle.data_theory.specs.Table.{pos_sort, nat_sort, int_sort}
use Rattle.data_theory.specs.IdTreeSorts.{HasNumber}
use Rattle.data_theory.specs.declared.ids.FunId.{FunId}
use Rattle.data_theory.specs.Sorts.{Kind, SortInfo, positives, naturals, integers}
use Rattle.data_theory.specs.IdSorts.{HasKind}
use Rattle.data_theory.specs.Signature.{Sig}
use Rattle.data_theory.specs.WholeSignatures.{IsSignature}
use Rattle.term_pool.specs.ConstructorValues.{number_weight, IsConstructorOf, IsConstructorAt}
use Rattle.value_enum.specs.Levels.{is_number_sort, number_weighing}

sort_named : (s : SortId) (n : ℕ) → s.0 ≡ n → s ≡ record { 0 = n }
sort_named s n e = ap (λ (k : ℕ). record { 0 = k }) e

-- ---- the number that has a weight
halves : (w k : ℕ) → w ≡ 2 * k → ((w % 2) ≡ 0) × ((w / 2) ≡ k)
halves w k e = (omega (arith, e), omega (arith, e))

odd_halves : (w k : ℕ) → w ≡ 2 * k + 1 → ((w % 2) ≡ 1) × ((w / 2) ≡ k)
odd_halves w k e = (omega (arith, e), omega (arith, e))

abbrev integer_by : ℕ → ℕ → ℤ
integer_by rest half = cond (rest == 0) (pos half) (neg_ℤ (pos half))

positive_its : (z : ℤ) (w : ℕ) → pos 1 ≤ℤ z → number_weight pos_sort z ≡ w → z ≡ number_weighing pos_sort w
positive_its (pos zero) w l e = absurd l.le
positive_its (pos (suc n)) w l e = ap pos e
positive_its (negsuc n) w l e = absurd l.le

natural_its : (z : ℤ) (w : ℕ) → pos 0 ≤ℤ z → number_weight nat_sort z ≡ w → z ≡ number_weighing nat_sort w
natural_its (pos zero) w l e = let same : 0 ≡ w - 1 = omega (arith, e) in ap pos same
natural_its (pos (suc n)) w l e = let same : suc n ≡ w - 1 = omega (arith, e) in ap pos same
natural_its (negsuc n) w l e = absurd l.le

integer_its : (z : ℤ) (w : ℕ) → number_weight int_sort z ≡ w → z ≡ number_weighing int_sort w
integer_its (pos zero) w e = subst (λ (x : ℕ). pos 0 ≡ integer_by (x % 2) (x / 2)) e refl
integer_its (pos (suc n)) w e = let h = halves w (suc n) (sym e) in λ i. integer_by (sym h.0 i) (sym h.1 i)
integer_its (negsuc n) w e = let h = odd_halves w (suc n) (sym e) in λ i. integer_by (sym h.0 i) (sym h.1 i)

-- a number of Pos, Nat or Int is the one of its weight
pub is_its_number : (s : SortId) (z : ℤ) (w : ℕ) → HasNumber s z → number_weight s z ≡ w → z ≡ number_weighing s w
is_its_number s z w (inl h, m) e =
    subst (λ (t : SortId). number_weight t z ≡ w → z ≡ number_weighing t w) (sym h.0) (positive_its z w h.1) e
is_its_number s z w (inr (inl h), m) e =
    subst (λ (t : SortId). number_weight t z ≡ w → z ≡ number_weighing t w) (sym h.0) (natural_its z w h.1) e
is_its_number s z w (inr (inr h), m) e =
    subst (λ (t : SortId). number_weight t z ≡ w → z ≡ number_weighing t w) (sym h) (integer_its z w) e

-- ---- each weight has its number
abbrev pub IsNumberOf : SortId → ℕ → ℤ → Type 0
IsNumberOf s w z = HasNumber s z × (number_weight s z ≡ w)

positive_has : (w : ℕ) → 0 < w → w < 2 ^ 64 → IsNumberOf pos_sort w (number_weighing pos_sort w)
positive_has zero p l = absurd (omega (arith, p))
positive_has (suc n) p l = ((inl (refl, record { le = le→leb 1 (suc n) (omega arith) }), omega (arith, l)), refl)

natural_has : (w : ℕ) → 0 < w → w < 2 ^ 64 → IsNumberOf nat_sort w (number_weighing nat_sort w)
natural_has w p l = by_rest (w - 1) (omega (arith, p))
  where
    by_rest : (n : ℕ) → w ≡ n + 1 → IsNumberOf nat_sort w (pos n)
    by_rest zero e = ((inr (inl (refl, record { le = le→leb 0 0 (omega arith) })), omega arith), sym e)
    by_rest (suc n) e = ((inr (inl (refl, record { le = le→leb 0 (suc n) (omega arith) })), omega (arith, e, l)), sym e)

integer_has : (w : ℕ) → 0 < w → w < 2 ^ 64 → IsNumberOf int_sort w (number_weighing int_sort w)
integer_has w p l = by_parts (w % 2) (w / 2) (omega arith) (omega arith)
  where
    by_parts : (r h : ℕ) → w ≡ 2 * h + r → r < 2 → IsNumberOf int_sort w (integer_by r h)
    by_parts zero zero e b = absurd (omega (arith, e, p))
    by_parts zero (suc n) e b = ((inr (inr refl), omega (arith, e, l)), omega (arith, e))
    by_parts (suc zero) zero e b = ((inr (inr refl), omega arith), omega (arith, e))
    by_parts (suc zero) (suc n) e b = ((inr (inr refl), omega (arith, e, l)), omega (arith, e))
    by_parts (suc (suc r)) h e b = absurd (omega (arith, b))

pub has_its_number : (s : SortId) (w : ℕ) → is_number_sort s ≡ true → 0 < w → w < 2 ^ 64 → IsNumberOf s w (number_weighing s w)
has_its_number s w is p l = by_first (s.0 == 1) refl
  where
    of_sort : (n : ℕ) → (s.0 == n) ≡ true → s ≡ record { 0 = n }
    of_sort n e = sort_named s n ((Decides-eqb s.0 n).0 e)

    by_third : (b : Bool) → (s.0 == 3) ≡ b → (s.0 == 1) ≡ false → (s.0 == 2) ≡ false → IsNumberOf s w (number_weighing s w)
    by_third true e one two = subst (λ (t : SortId). IsNumberOf t w (number_weighing t w)) (sym (of_sort 3 e)) (integer_has w p l)
    by_third false e one two = absurd (let none : false ≡ true = (λ i. sym one i || (sym two i || sym e i)) ∙ is in cc)

    by_second : (b : Bool) → (s.0 == 2) ≡ b → (s.0 == 1) ≡ false → IsNumberOf s w (number_weighing s w)
    by_second true e one = subst (λ (t : SortId). IsNumberOf t w (number_weighing t w)) (sym (of_sort 2 e)) (natural_has w p l)
    by_second false e one = by_third (s.0 == 3) refl one e

    by_first : (b : Bool) → (s.0 == 1) ≡ b → IsNumberOf s w (number_weighing s w)
    by_first true e = subst (λ (t : SortId). IsNumberOf t w (number_weighing t w)) (sym (of_sort 1 e)) (positive_has w p l)
    by_first false e = by_second (s.0 == 2) refl e

-- these sorts have no constructors
no_constructor : (g : Sig) (s : SortId) (k : ℕ) (f : FunId) (d : Kind) → HasKind g.sorts s.0 d → (IsConstructorOf g s d k f → ⊥) → IsConstructorAt g s k f → ⊥
no_constructor g s k f d kind none at =
    let both : Some at.0 ≡ Some kind.0 = sym at.1 ∙ kind.1 in
    let same : at.0 ≡ kind.0 = cc in
    none (subst (λ (x : Kind). IsConstructorOf g s x k f) (ap (λ (i : SortInfo). i.kind) same ∙ kind.2) at.2)

pub number_sorts_have_none : (g : Sig) → IsSignature g → (s : SortId) (k : ℕ) (f : FunId) → is_number_sort s ≡ true → IsConstructorAt g s k f → ⊥
number_sorts_have_none g stands s k f is at = by_first (s.0 == 1) refl
  where
    by_third : (b : Bool) → (s.0 == 3) ≡ b → (s.0 == 1) ≡ false → (s.0 == 2) ≡ false → ⊥
    by_third true e one two = no_constructor g s k f integers ((stands.table.sorts.integer_fourth s.0).1 ((Decides-eqb s.0 3).0 e)) (λ c. c) at
    by_third false e one two = let none : false ≡ true = (λ i. sym one i || (sym two i || sym e i)) ∙ is in cc

    by_second : (b : Bool) → (s.0 == 2) ≡ b → (s.0 == 1) ≡ false → ⊥
    by_second true e one = no_constructor g s k f naturals ((stands.table.sorts.natural_third s.0).1 ((Decides-eqb s.0 2).0 e)) (λ c. c) at
    by_second false e one = by_third (s.0 == 3) refl one e

    by_first : (b : Bool) → (s.0 == 1) ≡ b → ⊥
    by_first true e = no_constructor g s k f positives ((stands.table.sorts.positive_second s.0).1 ((Decides-eqb s.0 1).0 e)) (λ c. c) at
    by_first false e = by_second (s.0 == 2) refl e

-- only Pos, Nat and Int have numbers
pub number_has_sort : (s : SortId) (z : ℤ) → HasNumber s z → is_number_sort s ≡ true
number_has_sort s z (inl h, m) = subst (λ (t : SortId). is_number_sort t ≡ true) (sym h.0) refl
number_has_sort s z (inr (inl h), m) = subst (λ (t : SortId). is_number_sort t ≡ true) (sym h.0) refl
number_has_sort s z (inr (inr h), m) = subst (λ (t : SortId). is_number_sort t ≡ true) (sym h) refl
