-- The equations on equality, projections and recognisers.
use Rattle.std.proofs.Common.{◌≡◌, ◌≢◌, ℕ, zero, suc, ◌<◌, List, [], ◌∷◌, length, refl, sym, ap, ◌∙◌, subst, arith, inl, inr}
use Rattle.std.specs.Prelude.{Option, Some, None, ℤ, pos, Bool, true, false, cond, ◌==◌, ◌&&◌, get_or}
use mathlib.Core.Bool.{beq}
use lib.IntN.{neg_ℤ}
use Rattle.data_theory.specs.declared.ids.FunId.{FunId}
use Rattle.data_theory.specs.declared.num.Num.{Num}
use Rattle.data_theory.specs.Whole.{whole_of}
use Rattle.data_theory.specs.Arithmetic.{equal_numbers}
use Rattle.data_theory.specs.Terms.{Sort, boolean, list, named, Symbol, truth, function, Term, Terms, numeral, application}
use Rattle.data_theory.specs.Declarations.{Data, function_at, sort_at, Role, constructor, projection, recogniser, mapping, structured, IsData, FitsRole, DeclaredFunction}
use Rattle.data_theory.specs.Equations.{BuiltIn, one, trueᵗ, falseᵗ, !ᵗ◌, ◌∧ᵗ◌, equals, emptyᵗ, consᵗ, truth_of, all_equal, term_at, equal_itself, equal_commutes, equal_true, true_equal, equal_false, false_equal, equal_numerals, empty_equal_cons, cons_equal_empty, cons_equal_cons, different_constructors, same_constructor, projected, recognised, not_recognised}
use Rattle.data_theory.specs.Rewriting.{place_of}
use Rattle.data_theory.specs.Signature.{Sig}
use Rattle.data_theory.specs.IdTables.{IsTable}
use Rattle.data_theory.specs.IdData.{data_meant}
use Rattle.data_theory.specs.IdTrees.{Tree}
use Rattle.data_theory.specs.IdTerms.{symbol_under}
use Rattle.data_theory.proofs.IdSymbolLemmas.{different_functions_mean_different_symbols}
use Rattle.data_rewriter.specs.declared.rights.Right.TheVariants.{Truth}
use Rattle.data_rewriter.specs.declared.rights.Line.{Line}
use Rattle.data_rewriter.specs.declared.signs.Equals.TheVariants.{Other}
use Rattle.data_rewriter.specs.Standing.{IsSymbolOf}
use Rattle.data_rewriter.specs.Signs.{LooksAt}
use Rattle.data_rewriter.specs.FirstLines.{LineAt, IsFirstLine}
use Rattle.data_rewriter.specs.Views.{IsCons}
use Rattle.data_rewriter.proofs.Deciding.{Clauses, no_more, clause, First, Holds, number_is, no_number, decided}
use Rattle.data_rewriter.proofs.NumberClauses.{whole_in}
use Rattle.data_rewriter.proofs.ListClauses.{arguments, part}

-- ---- numerals
abbrev pub Numerals : Sort → Term → Term → Type 0
Numerals a t u = (m n : ℤ) × (t ≡ numeral a m) × (u ≡ numeral a n)

abbrev pub same_numbers : Term → Term → Term
same_numbers t u = truth_of (equal_numbers (whole_in t) (whole_in u))

pub numbers_right : (a : Sort) (t u : Term) (m n : ℤ) (b : Bool) → t ≡ numeral a m → u ≡ numeral a n → b ≡ equal_numbers m n → same_numbers t u ≡ truth_of b
numbers_right a t u m n b e k h = (λ i. truth_of (equal_numbers (whole_in (e i)) (whole_in (k i)))) ∙ ap truth_of (sym h)

same_suc : (m n : ℕ) → (suc m == suc n) ≡ (m == n)
same_suc m n = grind arith

pub equal_nums : (m n : Num) → (beq m.negative n.negative && (m.magnitude == n.magnitude)) ≡ equal_numbers (whole_of m) (whole_of n)
equal_nums m n = by_signs m.negative n.negative m.magnitude n.magnitude m.zero_is_not_negative n.zero_is_not_negative
  where
    by_signs : (a b : Bool) (m n : ℕ) → (m ≡ 0 → a ≡ false) → (n ≡ 0 → b ≡ false) → (beq a b && (m == n)) ≡ equal_numbers (cond a (neg_ℤ (pos m)) (pos m)) (cond b (neg_ℤ (pos n)) (pos n))
    by_signs false false m n h k = refl
    by_signs true true zero n h k = absurd (let e : true ≡ false = h refl in cc)
    by_signs true true (suc m) zero h k = absurd (let e : true ≡ false = k refl in cc)
    by_signs true true (suc m) (suc n) h k = same_suc m n
    by_signs true false zero n h k = absurd (let e : true ≡ false = h refl in cc)
    by_signs true false (suc m) n h k = refl
    by_signs false true m zero h k = absurd (let e : true ≡ false = k refl in cc)
    by_signs false true m (suc n) h k = refl

numerals_there : (g : Data) (a : Sort) (t u : Term) → Numerals a t u → LineAt g 29 (equals a t u) trueᵗ (same_numbers t u)
numerals_there g a t u h =
    let line : LineAt g 29 (equals a (numeral a h.0) (numeral a h.1)) trueᵗ (same_numbers (numeral a h.0) (numeral a h.1)) = (equal_numerals, refl) in
    subst (λ x. LineAt g 29 (equals a x u) trueᵗ (same_numbers x u)) (sym h.2) (subst (λ x. LineAt g 29 (equals a (numeral a h.0) x) trueᵗ (same_numbers (numeral a h.0) x)) (sym h.3) line)

same_there : (g : Data) (a : Sort) (t u : Term) → t ≡ u → LineAt g 16 (equals a t u) trueᵗ trueᵗ
same_there g a t u e = subst (λ x. LineAt g 16 (equals a t x) trueᵗ trueᵗ) e (equal_itself, refl)

-- ---- a sort without equations of its own
abbrev pub other_clauses : Sort → Term → Term → Clauses
other_clauses a x y = clause 16 (x ≡ y) trueᵗ (clause 29 (Numerals a x y) (same_numbers x y) no_more)

other_holds : (sig : Sig) {a : Sort} {x y c r : Term} (i : ℕ) → LooksAt sig Other a → (b : BuiltIn (data_meant sig) c (equals a x y) r) → place_of b ≡ Some i → Holds (other_clauses a x y) i
other_holds sig i n equal_itself e = inl (number_is e, refl)
other_holds sig i n equal_commutes e = absurd (no_number e)
other_holds sig i n equal_true e = absurd (n.0 refl)
other_holds sig i n true_equal e = absurd (n.0 refl)
other_holds sig i n equal_false e = absurd (n.0 refl)
other_holds sig i n false_equal e = absurd (n.0 refl)
other_holds sig i n (equal_numerals {x = x} {y = y}) e = inr (inl (number_is e, (x, y, refl, refl)))
other_holds sig i n (empty_equal_cons {s = s}) e = absurd (n.1 s refl)
other_holds sig i n (cons_equal_empty {s = s}) e = absurd (n.1 s refl)
other_holds sig i n (cons_equal_cons {s = s}) e = absurd (n.1 s refl)
other_holds sig i n (different_constructors {d = d} k p q m) e = absurd (n.2 d refl k)
other_holds sig i n (same_constructor {d = d} k p) e = absurd (n.2 d refl k)

pub other_decided : (sig : Sig) (ts : List Tree) (a : Sort) (x y : Term) → LooksAt sig Other a → (o : Option Line) → First sig ts (other_clauses a x y) o → IsFirstLine sig ts (equals a x y) o
other_decided sig ts a x y n = decided sig ts (equals a x y) (other_clauses a x y) (
  omega arith,
  (λ e. same_there (data_meant sig) a x y e),
  (
    omega arith,
    (λ h. numerals_there (data_meant sig) a x y h),
    tt,
  ),
)
    (λ i c r b. other_holds sig i n b.0 b.1)

-- ---- truth values
abbrev pub bool_clauses : Term → Term → Clauses
bool_clauses x y = clause 16 (x ≡ y) trueᵗ (clause 21 (y ≡ trueᵗ) x (clause 22 (x ≡ trueᵗ) y (clause 23 (y ≡ falseᵗ) (!ᵗ x) (clause 24 (x ≡ falseᵗ) (!ᵗ y) (clause 29 (Numerals boolean x y) (same_numbers x y) no_more)))))

bool_holds : {g : Data} {x y c r : Term} (i : ℕ) (b : BuiltIn g c (equals boolean x y) r) → place_of b ≡ Some i → Holds (bool_clauses x y) i
bool_holds i equal_itself e = inl (number_is e, refl)
bool_holds i equal_commutes e = absurd (no_number e)
bool_holds i equal_true e = inr (inl (number_is e, refl))
bool_holds i true_equal e = inr (inr (inl (number_is e, refl)))
bool_holds i equal_false e = inr (inr (inr (inl (number_is e, refl))))
bool_holds i false_equal e = inr (inr (inr (inr (inl (number_is e, refl)))))
bool_holds i (equal_numerals {x = x} {y = y}) e = inr (inr (inr (inr (inr (inl (number_is e, (x, y, refl, refl)))))))

pub bool_decided : (sig : Sig) (ts : List Tree) (x y : Term) (o : Option Line) → First sig ts (bool_clauses x y) o → IsFirstLine sig ts (equals boolean x y) o
bool_decided sig ts x y = decided sig ts (equals boolean x y) (bool_clauses x y) (
  omega arith,
  (λ e. same_there (data_meant sig) boolean x y e),
  (
    omega arith,
    (λ e. subst (λ v. LineAt (data_meant sig) 21 (equals boolean x v) trueᵗ x) (sym e) (equal_true, refl)),
    (
      omega arith,
      (λ e. subst (λ v. LineAt (data_meant sig) 22 (equals boolean v y) trueᵗ y) (sym e) (true_equal, refl)),
      (
        omega arith,
        (λ e. subst (λ v. LineAt (data_meant sig) 23 (equals boolean x v) trueᵗ (!ᵗ x)) (sym e) (equal_false, refl)),
        (
          omega arith,
          (λ e. subst (λ v. LineAt (data_meant sig) 24 (equals boolean v y) trueᵗ (!ᵗ y)) (sym e) (false_equal, refl)),
          (
            omega arith,
            (λ h. numerals_there (data_meant sig) boolean x y h),
            tt,
          ),
        ),
      ),
    ),
  ),
)
    (λ i c r b. bool_holds i b.0 b.1)

-- ---- lists
abbrev pub list_clauses : Sort → Term → Term → Clauses
list_clauses a x y =
    clause 16 (x ≡ y) trueᵗ (clause 29 (Numerals (list a) x y) (same_numbers x y)
    (clause 30 ((x ≡ emptyᵗ a) × IsCons a y) falseᵗ (clause 31 (IsCons a x × (y ≡ emptyᵗ a)) falseᵗ
    (clause 32 (IsCons a x × IsCons a y) (equals a (part x 0) (part y 0) ∧ᵗ equals (list a) (part x 1) (part y 1)) no_more))))

list_holds : {g : Data} {a : Sort} {x y c r : Term} (i : ℕ) (b : BuiltIn g c (equals (list a) x y) r) → place_of b ≡ Some i → Holds (list_clauses a x y) i
list_holds i equal_itself e = inl (number_is e, refl)
list_holds i equal_commutes e = absurd (no_number e)
list_holds i (equal_numerals {x = x} {y = y}) e = inr (inl (number_is e, (x, y, refl, refl)))
list_holds i (empty_equal_cons {x = x} {l = l}) e = inr (inr (inl (number_is e, (refl, (x, l, refl)))))
list_holds i (cons_equal_empty {x = x} {l = l}) e = inr (inr (inr (inl (number_is e, ((x, l, refl), refl)))))
list_holds i (cons_equal_cons {x = x} {l = l} {y = y} {m = m}) e = inr (inr (inr (inr (inl (number_is e, ((x, l, refl), (y, m, refl)))))))

pub list_decided : (sig : Sig) (ts : List Tree) (a : Sort) (x y : Term) (o : Option Line) → First sig ts (list_clauses a x y) o → IsFirstLine sig ts (equals (list a) x y) o
list_decided sig ts a x y = decided sig ts (equals (list a) x y) (list_clauses a x y) (
  omega arith,
  (λ e. same_there (data_meant sig) (list a) x y e),
  (
    omega arith,
    (λ h. numerals_there (data_meant sig) (list a) x y h),
    (
      omega arith,
      (λ h. subst (λ v. LineAt (data_meant sig) 30 (equals (list a) v y) trueᵗ falseᵗ) (sym h.0) (subst (λ v. LineAt (data_meant sig) 30 (equals (list a) (emptyᵗ a) v) trueᵗ falseᵗ) (sym h.1.2) (empty_equal_cons, refl))),
      (
        omega arith,
        (λ h. subst (λ v. LineAt (data_meant sig) 31 (equals (list a) v y) trueᵗ falseᵗ) (sym h.0.2) (subst (λ v. LineAt (data_meant sig) 31 (equals (list a) (consᵗ a h.0.0 h.0.1) v) trueᵗ falseᵗ) (sym h.1) (cons_equal_empty, refl))),
        (
          omega arith,
          (λ h.
              let line : LineAt (data_meant sig) 32 (equals (list a) (consᵗ a h.0.0 h.0.1) (consᵗ a h.1.0 h.1.1)) trueᵗ (equals a h.0.0 h.1.0 ∧ᵗ equals (list a) h.0.1 h.1.1) = (cons_equal_cons, refl) in
              subst (λ v. LineAt (data_meant sig) 32 (equals (list a) v y) trueᵗ (equals a (part v 0) (part y 0) ∧ᵗ equals (list a) (part v 1) (part y 1))) (sym h.0.2)
              (subst (λ v. LineAt (data_meant sig) 32 (equals (list a) (consᵗ a h.0.0 h.0.1) v) trueᵗ (equals a h.0.0 (part v 0) ∧ᵗ equals (list a) h.0.1 (part v 1))) (sym h.1.2) line)),
          tt,
        ),
      ),
    ),
  ),
)
    (λ i c r b. list_holds i b.0 b.1)

-- ---- values of a struct
abbrev pub Unlike : Data → Term → Term → Type 0
Unlike g x y = (b c : ℕ) × (us vs : Terms) × (x ≡ application (function b) us) × (y ≡ application (function c) vs) × ((function_at g b).role ≡ constructor) × ((function_at g c).role ≡ constructor) × (b ≢ c)

abbrev pub Alike : Data → Term → Term → Type 0
Alike g x y = (c : ℕ) × (us vs : Terms) × (x ≡ application (function c) us) × (y ≡ application (function c) vs) × ((function_at g c).role ≡ constructor)

abbrev number_of : Symbol → ℕ
number_of (function k) = k
number_of _ = 0

abbrev symbol_of : Term → Symbol
symbol_of (application f ts) = f
symbol_of _ = truth

abbrev pub places_equal : Data → Term → Term → Term
places_equal g x y = all_equal (function_at g (number_of (symbol_of x))).arguments (arguments x) (arguments y)

abbrev pub struct_clauses : Data → ℕ → Term → Term → Clauses
struct_clauses g d x y =
    clause 16 (x ≡ y) trueᵗ (clause 29 (Numerals (named d) x y) (same_numbers x y)
    (clause 50 (Unlike g x y) falseᵗ (clause 51 (Alike g x y) (places_equal g x y) no_more)))

struct_holds : {g : Data} {d : ℕ} {x y c r : Term} (i : ℕ) (b : BuiltIn g c (equals (named d) x y) r) → place_of b ≡ Some i → Holds (struct_clauses g d x y) i
struct_holds i equal_itself e = inl (number_is e, refl)
struct_holds i equal_commutes e = absurd (no_number e)
struct_holds i (equal_numerals {x = x} {y = y}) e = inr (inl (number_is e, (x, y, refl, refl)))
struct_holds i (different_constructors {b = b} {c = c} {xs = xs} {ys = ys} k p q n) e = inr (inr (inl (number_is e, (b, c, xs, ys, refl, refl, p, q, n))))
struct_holds i (same_constructor {c = c} {xs = xs} {ys = ys} k p) e = inr (inr (inr (inl (number_is e, (c, xs, ys, refl, refl, p)))))

pub struct_decided : (sig : Sig) (ts : List Tree) (d : ℕ) (x y : Term) → sort_at (data_meant sig) d ≡ structured → (o : Option Line) → First sig ts (struct_clauses (data_meant sig) d x y) o → IsFirstLine sig ts (equals (named d) x y) o
struct_decided sig ts d x y s = let g = data_meant sig in decided sig ts (equals (named d) x y) (struct_clauses (data_meant sig) d x y) (
  omega arith,
  (λ e. same_there (data_meant sig) (named d) x y e),
  (
    omega arith,
    (λ h. numerals_there (data_meant sig) (named d) x y h),
    (
      omega arith,
      (λ h. subst (λ v. LineAt (data_meant sig) 50 (equals (named d) v y) trueᵗ falseᵗ) (sym h.4) (subst (λ v. LineAt (data_meant sig) 50 (equals (named d) (application (function h.0) h.2) v) trueᵗ falseᵗ) (sym h.5) (different_constructors s h.6 h.7 h.8, refl))),
      (
        omega arith,
        (λ h. subst (λ v. LineAt (data_meant sig) 51 (equals (named d) v y) trueᵗ (places_equal (data_meant sig) v y)) (sym h.3) (subst (λ v. LineAt (data_meant sig) 51 (equals (named d) (application (function h.0) h.1) v) trueᵗ (places_equal (data_meant sig) (application (function h.0) h.1) v)) (sym h.4) (same_constructor s h.5, refl))),
        tt,
      ),
    ),
  ),
)
    (λ i c r b. struct_holds i b.0 b.1)

pub same_function : (sig : Sig) → IsTable sig → (f h : FunId) (y : Symbol) → IsSymbolOf sig f y → IsSymbolOf sig h y → f ≡ h
same_function sig table f h y a b = different_functions_mean_different_symbols sig table f h a.inside b.inside (a.is ∙ sym b.is)

-- ---- projections and recognisers
abbrev constructor_in : Role → ℕ
constructor_in (projection c i) = c
constructor_in (recogniser c) = c
constructor_in _ = 0

abbrev pub projection_clauses : ℕ → ℕ → Term → Clauses
projection_clauses c i t = clause 52 ((us : Terms) × (t ≡ application (function c) us)) (term_at (arguments t) i) no_more

projection_holds : {g : Data} {p k j : ℕ} {t c r : Term} (i : ℕ) → (function_at g p).role ≡ projection k j → (b : BuiltIn g c (one (function p) t) r) → place_of b ≡ Some i → Holds (projection_clauses k j t) i
projection_holds i h (projected {c = c} {xs = xs} q) e = inl (number_is e, (xs, ap (λ m. application (function m) xs) (ap constructor_in (sym q ∙ h))))
projection_holds i h (recognised q) e = absurd (let a = sym q ∙ h in cc)
projection_holds i h (not_recognised q m n) e = absurd (let a = sym q ∙ h in cc)

pub projection_decided : (sig : Sig) (ts : List Tree) (p k j : ℕ) (t : Term) → (function_at (data_meant sig) p).role ≡ projection k j → (o : Option Line) → First sig ts (projection_clauses k j t) o → IsFirstLine sig ts (one (function p) t) o
projection_decided sig ts p k j t h = decided sig ts (one (function p) t) (projection_clauses k j t)
    (omega arith, (λ e. subst (λ v. LineAt (data_meant sig) 52 (one (function p) v) trueᵗ (term_at (arguments v) j)) (sym e.1) (projected h, refl)), tt)
    (λ i c r b. projection_holds i h b.0 b.1)

abbrev pub recogniser_clauses : Data → ℕ → Term → Clauses
recogniser_clauses g c t = clause 53 ((us : Terms) × (t ≡ application (function c) us)) trueᵗ (clause 54 ((b : ℕ) × (us : Terms) × (t ≡ application (function b) us) × ((function_at g b).role ≡ constructor) × (b ≢ c)) falseᵗ no_more)

recogniser_holds : {g : Data} {p k : ℕ} {t c r : Term} (i : ℕ) → (function_at g p).role ≡ recogniser k → (b : BuiltIn g c (one (function p) t) r) → place_of b ≡ Some i → Holds (recogniser_clauses g k t) i
recogniser_holds i h (projected q) e = absurd (let a = sym q ∙ h in cc)
recogniser_holds i h (recognised {xs = xs} q) e = inl (number_is e, (xs, ap (λ m. application (function m) xs) (ap constructor_in (sym q ∙ h))))
recogniser_holds i h (not_recognised {b = b} {xs = xs} q m n) e = inr (inl (number_is e, (b, xs, refl, m, (λ s. n (s ∙ ap constructor_in (sym h ∙ q))))))

pub recogniser_decided : (sig : Sig) (ts : List Tree) (p k : ℕ) (t : Term) → (function_at (data_meant sig) p).role ≡ recogniser k → (o : Option Line) → First sig ts (recogniser_clauses (data_meant sig) k t) o → IsFirstLine sig ts (one (function p) t) o
recogniser_decided sig ts p k t h = decided sig ts (one (function p) t) (recogniser_clauses (data_meant sig) k t) (
  omega arith,
  (λ e. subst (λ v. LineAt (data_meant sig) 53 (one (function p) v) trueᵗ trueᵗ) (sym e.1) (recognised h, refl)),
  (
    omega arith,
    (λ e. subst (λ v. LineAt (data_meant sig) 54 (one (function p) v) trueᵗ falseᵗ) (sym e.2) (not_recognised h e.3 e.4, refl)),
    tt,
  ),
)
    (λ i c r b. recogniser_holds i h b.0 b.1)

-- a function with a role is one of the data
pub role_inside : (g : Data) (p : ℕ) (r : Role) → (function_at g p).role ≡ r → (mapping ≡ r → ⊥) → p < length g.functions
role_inside g p r e n = inside g.functions p e
  where
    inside : (fs : List DeclaredFunction) (k : ℕ) → (get_or fs k (record { arguments = []; result = boolean; role = mapping })).role ≡ r → k < length fs
    inside [] k h = absurd (n h)
    inside (f ∷ fs) zero h = omega arith
    inside (f ∷ fs) (suc k) h = let l = inside fs k h in omega (arith, l)

pub projects_a_constructor : (g : Data) → IsData g → (p c i : ℕ) → (function_at g p).role ≡ projection c i → (function_at g c).role ≡ constructor
projects_a_constructor g ok p c i h = let fits = subst (FitsRole g (function_at g p)) h (ok.roles p (role_inside g p (projection c i) h (λ e. cc))) in fits.2

pub recognises_a_constructor : (g : Data) → IsData g → (p c : ℕ) → (function_at g p).role ≡ recogniser c → (function_at g c).role ≡ constructor
recognises_a_constructor g ok p c h = let fits = subst (FitsRole g (function_at g p)) h (ok.roles p (role_inside g p (recogniser c) h (λ e. cc))) in fits.2

-- ---- numerals, lists and applications of constructors differ
pub numeral_no_empty : {a b : Sort} {t : Term} {z : ℤ} → t ≡ numeral a z → t ≡ emptyᵗ b → ⊥
numeral_no_empty e k = let a = sym e ∙ k in cc

pub numeral_no_cons : {a b : Sort} {t : Term} {z : ℤ} → t ≡ numeral a z → IsCons b t → ⊥
numeral_no_cons e k = let a = sym e ∙ k.2 in cc

pub empty_no_cons : {a b : Sort} {t : Term} → t ≡ emptyᵗ a → IsCons b t → ⊥
empty_no_cons e k = let a = sym e ∙ k.2 in cc

pub numeral_not_made : {a : Sort} {t : Term} {z : ℤ} {k : ℕ} {us : Terms} → t ≡ numeral a z → t ≡ application (function k) us → ⊥
numeral_not_made e k = let a = sym e ∙ k in cc

-- the constructor of an application
pub made_symbol : (t : Term) (m k : ℕ) (us vs : Terms) → application (function m) us ≡ application (function k) vs → function m ≡ function k
made_symbol t m k us vs e = ap symbol_of e

pub made_number : {m k : ℕ} {us vs : Terms} → application (function m) us ≡ application (function k) vs → m ≡ k
made_number e = ap number_of (ap symbol_of e)

pub made_by : (sig : Sig) (f h : FunId) (m k : ℕ) → IsSymbolOf sig f (function m) → IsSymbolOf sig h (function k) → f ≡ h → m ≡ k
made_by sig f h m k a b e = ap number_of (sym a.is ∙ (ap (symbol_under sig) e ∙ b.is))

pub same_decided : (sig : Sig) (ts : List Tree) (a : Sort) (t u : Term) → t ≡ u → (o : Option Line) → o ≡ Some (record { number = 16; above_zero = None; right = Truth true }) → IsFirstLine sig ts (equals a t u) o
same_decided sig ts a t u e o is = subst (IsFirstLine sig ts (equals a t u)) (sym is) (record {
  condition = trueᵗ;
  right = trueᵗ;
  matches_there = same_there (data_meant sig) a t u e;
  condition_is = refl;
  right_is = refl;
  none_before = λ i c r l b. not_before i b.0 b.1 l;
})
  where
    not_before : {g : Data} {a : Sort} {x y c r : Term} (i : ℕ) (b : BuiltIn g c (equals a x y) r) → place_of b ≡ Some i → i < 16 → ⊥
    not_before i equal_itself e l = let n = number_is e in omega (arith, n, l)
    not_before i equal_commutes e l = no_number e
    not_before i equal_true e l = let n = number_is e in omega (arith, n, l)
    not_before i true_equal e l = let n = number_is e in omega (arith, n, l)
    not_before i equal_false e l = let n = number_is e in omega (arith, n, l)
    not_before i false_equal e l = let n = number_is e in omega (arith, n, l)
    not_before i equal_numerals e l = let n = number_is e in omega (arith, n, l)
    not_before i empty_equal_cons e l = let n = number_is e in omega (arith, n, l)
    not_before i cons_equal_empty e l = let n = number_is e in omega (arith, n, l)
    not_before i cons_equal_cons e l = let n = number_is e in omega (arith, n, l)
    not_before i (different_constructors k p q m) e l = let n = number_is e in omega (arith, n, l)
    not_before i (same_constructor k p) e l = let n = number_is e in omega (arith, n, l)
