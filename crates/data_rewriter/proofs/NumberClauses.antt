-- The equations on numbers.
use Rattle.std.proofs.Common.{◌≡◌, ℕ, zero, suc, ◌<◌, List, [], ◌∷◌, refl, sym, ap, ◌∙◌, subst, arith, inl}
use Rattle.std.specs.Prelude.{Option, Some, None, ◌^◌, ◌≤◌, ℤ, pos, Bool, true, false, cond}
use lib.IntN.{neg_ℤ}
use Rattle.data_theory.specs.declared.num.Num.{Num}
use Rattle.data_theory.specs.Terms.{Sort, integer, Comparison, comparison, Operation, arithmetic, minus, Term, numeral}
use Rattle.data_theory.specs.Arithmetic.{magnitude, compares}
use Rattle.data_theory.specs.Arithmetic as theory
use Rattle.data_theory.specs.Whole.{whole_of}
use Rattle.data_theory.specs.Equations.{BuiltIn, one, two, trueᵗ, truth_of, operation_of_one, operation_of_two, minus_of, compared}
use Rattle.data_theory.specs.Rewriting.{place_of}
use Rattle.data_theory.specs.Declarations.{Data}
use Rattle.data_theory.specs.Signature.{Sig}
use Rattle.data_theory.specs.IdData.{data_meant}
use Rattle.data_theory.specs.IdTrees.{Tree}
use Rattle.number_rules.specs.declared.num_op.NumOp.{NumOp}
use Rattle.number_rules.specs.NumberValues.{IsAnswer, value_of}
use Rattle.data_rewriter.specs.declared.rights.Line.{Line}
use Rattle.data_rewriter.specs.Signs.{ComputesBy, by_add, by_sub, by_mul, by_div, by_mod, by_exp, by_min, by_max, by_abs, by_succ, by_pred, by_to_pos, by_to_nat}
use Rattle.data_rewriter.specs.FirstLines.{LineAt, IsFirstLine}
use Rattle.data_rewriter.proofs.Deciding.{Clauses, no_more, clause, First, Holds, number_is, decided}

-- ---- values
pub computes : {o : Operation} {op : NumOp} → ComputesBy o op → (x y : ℤ) → value_of op x y ≡ theory.value_of o x y
computes by_add x y = refl
computes by_sub x y = refl
computes by_mul x y = refl
computes by_div x y = refl
computes by_mod x y = refl
computes by_exp x y = refl
computes by_min x y = refl
computes by_max x y = refl
computes by_abs x y = refl
computes by_succ x y = refl
computes by_pred x y = refl
computes by_to_pos x y = refl
computes by_to_nat x y = refl

pub answered : (v : Option ℤ) (n : Num) → IsAnswer v (Some n) → v ≡ Some (whole_of n)
answered None n h = absurd cc
answered (Some v) n h = ap (λ (z : ℤ). Some z) (sym h)

pub unanswered : (v : Option ℤ) (z : ℤ) → IsAnswer v None → v ≡ Some z → magnitude z < 2 ^ 128 → ⊥
unanswered None z h e l = cc
unanswered (Some v) z h e l =
    let same : v ≡ z = cc in
    let big : 2 ^ 128 ≤ magnitude z = subst (λ x. 2 ^ 128 ≤ magnitude x) same h in
    omega (arith, big, l)

abbrev pub whole_in : Term → ℤ
whole_in (numeral a z) = z
whole_in _ = pos 0

abbrev whole_or_none : Option ℤ → ℤ
whole_or_none None = pos 0
whole_or_none (Some z) = z

-- ---- operations on one number
abbrev pub OneValue : Operation → Sort → Term → Type 0
OneValue o a t = (m z : ℤ) × (t ≡ numeral a m) × (theory.value_of o m (pos 0) ≡ Some z) × (magnitude z < 2 ^ 128)

abbrev pub one_result : Operation → Sort → Term → Term
one_result o b t = numeral b (whole_or_none (theory.value_of o (whole_in t) (pos 0)))

abbrev pub one_clauses : Operation → Sort → Sort → Term → Clauses
one_clauses o a b t = clause 25 (OneValue o a t) (one_result o b t) no_more

one_holds : {g : Data} {o : Operation} {a d : Sort} {t c r : Term} (i : ℕ) (b : BuiltIn g c (one (arithmetic o (a ∷ []) d) t) r) → place_of b ≡ Some i → Holds (one_clauses o a d t) i
one_holds i (operation_of_one {x = x} {z = z} p f) e = inl (number_is e, (x, z, refl, p, f))

pub one_decided : (sig : Sig) (ts : List Tree) (o : Operation) (a b : Sort) (t : Term) (l : Option Line) → First sig ts (one_clauses o a b t) l → IsFirstLine sig ts (one (arithmetic o (a ∷ []) b) t) l
one_decided sig ts o a b t = decided sig ts (one (arithmetic o (a ∷ []) b) t) (one_clauses o a b t) (
  omega arith,
  (λ h.
      let line : LineAt (data_meant sig) 25 (one (arithmetic o (a ∷ []) b) (numeral a h.0)) trueᵗ (numeral b h.1) = (operation_of_one h.3 h.4, refl) in
      let right : numeral b h.1 ≡ one_result o b (numeral a h.0) = ap (λ w. numeral b (whole_or_none w)) (sym h.3) in
      subst (λ x. LineAt (data_meant sig) 25 (one (arithmetic o (a ∷ []) b) x) trueᵗ (one_result o b x)) (sym h.2) (subst (λ r. LineAt (data_meant sig) 25 (one (arithmetic o (a ∷ []) b) (numeral a h.0)) trueᵗ r) right line)),
  tt,
)
    (λ i c r l. one_holds i l.0 l.1)

pub one_right : (o : Operation) (b a : Sort) (t : Term) (m z : ℤ) → t ≡ numeral a m → theory.value_of o m (pos 0) ≡ Some z → numeral b z ≡ one_result o b t
one_right o b a t m z e v = ap (λ w. numeral b (whole_or_none w)) (sym v) ∙ ap (one_result o b) (sym e)

-- ---- operations on two numbers
abbrev pub TwoValue : Operation → Sort → Sort → Term → Term → Type 0
TwoValue o a b t u = (m n z : ℤ) × (t ≡ numeral a m) × (u ≡ numeral b n) × (theory.value_of o m n ≡ Some z) × (magnitude z < 2 ^ 128)

abbrev pub two_result : Operation → Sort → Term → Term → Term
two_result o d t u = numeral d (whole_or_none (theory.value_of o (whole_in t) (whole_in u)))

abbrev pub two_clauses : Operation → Sort → Sort → Sort → Term → Term → Clauses
two_clauses o a b d t u = clause 26 (TwoValue o a b t u) (two_result o d t u) no_more

two_holds : {g : Data} {o : Operation} {p q d : Sort} {t u c r : Term} (i : ℕ) (b : BuiltIn g c (two (arithmetic o (p ∷ q ∷ []) d) t u) r) → place_of b ≡ Some i → Holds (two_clauses o p q d t u) i
two_holds i (operation_of_two {x = x} {y = y} {z = z} p f) e = inl (number_is e, (x, y, z, refl, refl, p, f))

pub two_right : (o : Operation) (d a b : Sort) (t u : Term) (m n z : ℤ) → t ≡ numeral a m → u ≡ numeral b n → theory.value_of o m n ≡ Some z → numeral d z ≡ two_result o d t u
two_right o d a b t u m n z e k v = ap (λ w. numeral d (whole_or_none w)) (sym v) ∙ (λ i. two_result o d (sym e i) (sym k i))

pub two_decided : (sig : Sig) (ts : List Tree) (o : Operation) (a b d : Sort) (t u : Term) (l : Option Line) → First sig ts (two_clauses o a b d t u) l → IsFirstLine sig ts (two (arithmetic o (a ∷ b ∷ []) d) t u) l
two_decided sig ts o a b d t u = decided sig ts (two (arithmetic o (a ∷ b ∷ []) d) t u) (two_clauses o a b d t u) (
  omega arith,
  (λ h.
      let line : LineAt (data_meant sig) 26 (two (arithmetic o (a ∷ b ∷ []) d) (numeral a h.0) (numeral b h.1)) trueᵗ (numeral d h.2) = (operation_of_two h.5 h.6, refl) in
      let at_left = subst (λ x. LineAt (data_meant sig) 26 (two (arithmetic o (a ∷ b ∷ []) d) x (numeral b h.1)) trueᵗ (numeral d h.2)) (sym h.3) line in
      let at_both = subst (λ x. LineAt (data_meant sig) 26 (two (arithmetic o (a ∷ b ∷ []) d) t x) trueᵗ (numeral d h.2)) (sym h.4) at_left in
      subst (λ r. LineAt (data_meant sig) 26 (two (arithmetic o (a ∷ b ∷ []) d) t u) trueᵗ r) (two_right o d a b t u h.0 h.1 h.2 h.3 h.4 h.5) at_both),
  tt,
)
    (λ i c r l. two_holds i l.0 l.1)

-- ---- the prefix -
abbrev pub minus_clauses : Sort → Term → Clauses
minus_clauses a t = clause 27 ((m : ℤ) × (t ≡ numeral a m) × (magnitude m < 2 ^ 128)) (numeral integer (neg_ℤ (whole_in t))) no_more

minus_holds : {g : Data} {a : Sort} {t c r : Term} (i : ℕ) (b : BuiltIn g c (one (minus a) t) r) → place_of b ≡ Some i → Holds (minus_clauses a t) i
minus_holds i (minus_of {x = x} f) e = inl (number_is e, (x, refl, f))

pub minus_decided : (sig : Sig) (ts : List Tree) (a : Sort) (t : Term) (l : Option Line) → First sig ts (minus_clauses a t) l → IsFirstLine sig ts (one (minus a) t) l
minus_decided sig ts a t = decided sig ts (one (minus a) t) (minus_clauses a t)
    (omega arith, (λ h. subst (λ x. LineAt (data_meant sig) 27 (one (minus a) x) trueᵗ (numeral integer (neg_ℤ (whole_in x)))) (sym h.1) (minus_of h.2, refl)), tt)
    (λ i c r l. minus_holds i l.0 l.1)

pub minus_right : (a : Sort) (t : Term) (m : ℤ) → t ≡ numeral a m → numeral integer (neg_ℤ m) ≡ numeral integer (neg_ℤ (whole_in t))
minus_right a t m e = ap (λ x. numeral integer (neg_ℤ (whole_in x))) (sym e)

-- ---- comparisons
abbrev pub compare_clauses : Comparison → Sort → Term → Term → Clauses
compare_clauses s a t u = clause 28 ((m n : ℤ) × (t ≡ numeral a m) × (u ≡ numeral a n)) (truth_of (compares s (whole_in t) (whole_in u))) no_more

compare_holds : {g : Data} {s : Comparison} {a : Sort} {t u c r : Term} (i : ℕ) (b : BuiltIn g c (two (comparison s a) t u) r) → place_of b ≡ Some i → Holds (compare_clauses s a t u) i
compare_holds i (compared {x = x} {y = y}) e = inl (number_is e, (x, y, refl, refl))

pub compare_decided : (sig : Sig) (ts : List Tree) (s : Comparison) (a : Sort) (t u : Term) (l : Option Line) → First sig ts (compare_clauses s a t u) l → IsFirstLine sig ts (two (comparison s a) t u) l
compare_decided sig ts s a t u = decided sig ts (two (comparison s a) t u) (compare_clauses s a t u)
    (omega arith, (λ h. subst (λ x. LineAt (data_meant sig) 28 (two (comparison s a) x u) trueᵗ (truth_of (compares s (whole_in x) (whole_in u)))) (sym h.2) (subst (λ x. LineAt (data_meant sig) 28 (two (comparison s a) (numeral a h.0) x) trueᵗ (truth_of (compares s h.0 (whole_in x)))) (sym h.3) (compared, refl))), tt)
    (λ i c r l. compare_holds i l.0 l.1)

pub compare_right : (s : Comparison) (a : Sort) (t u : Term) (m n : ℤ) (b : Bool) → t ≡ numeral a m → u ≡ numeral a n → b ≡ compares s m n → truth_of (compares s (whole_in t) (whole_in u)) ≡ truth_of b
compare_right s a t u m n b e k h = (λ i. truth_of (compares s (whole_in (e i)) (whole_in (k i)))) ∙ ap truth_of (sym h)

-- ---- numbers of the code
pub number_in : {a : Sort} {t : Term} {m n : ℤ} → t ≡ numeral a m → t ≡ numeral a n → m ≡ n
number_in e k = ap whole_in (sym e ∙ k)

pub within : (n : Num) → n.magnitude < 2 ^ 128 → magnitude (whole_of n) < 2 ^ 128
within n l = by_sign n.negative n.magnitude l
  where
    by_sign : (b : Bool) (m : ℕ) → m < 2 ^ 128 → magnitude (cond b (neg_ℤ (pos m)) (pos m)) < 2 ^ 128
    by_sign false m l = l
    by_sign true zero l = l
    by_sign true (suc m) l = l
