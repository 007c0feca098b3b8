-- The equations on lists.
use Rattle.std.proofs.Common.{◌≡◌, ◌⊎◌, ℕ, zero, suc, List, [], ◌∷◌, refl, sym, ap, ◌∙◌, subst, arith, inl, inr, ⊎_elim}
use Rattle.std.specs.Prelude.{Option, Some, None, pos, Bool, true, false, cond}
use lib.IntN.{neg_ℤ}
use Rattle.data_theory.specs.declared.ids.FunId.{FunId}
use Rattle.data_theory.specs.declared.ids.TermId.{TermId}
use Rattle.data_theory.specs.declared.num.Num.{Num}
use Rattle.data_theory.specs.Whole.{whole_of}
use Rattle.data_theory.specs.Terms.{Sort, natural, positive, integer, comparison, less, arithmetic, subtract, successor, to_natural, upcast, snoc, concatenation, size, head, rhead, tail, rtail, element_at, membership, Term, Terms, application, numeral, none}
use Rattle.data_theory.specs.Declarations.{Data}
use Rattle.data_theory.specs.Equations.{BuiltIn, one, two, trueᵗ, falseᵗ, ◌∨ᵗ◌, equals, emptyᵗ, consᵗ, number, term_at, empty_concat, concat_empty, cons_concat, empty_snoc, cons_snoc, size_empty, size_cons, head_cons, tail_cons, rhead_one, rhead_more, rtail_one, rtail_more, at_zero, at_later, in_empty, in_cons}
use Rattle.data_theory.specs.Rewriting.{place_of}
use Rattle.data_theory.specs.Signature.{Sig}
use Rattle.data_theory.specs.IdData.{data_meant}
use Rattle.data_theory.specs.IdTrees.{Tree}
use Rattle.data_rewriter.specs.declared.rights.Right.TheVariants.{Is, Later}
use Rattle.data_rewriter.specs.declared.rights.Line.{Line}
use Rattle.data_rewriter.specs.Standing.{StandsFor, IsSymbolOf}
use Rattle.data_rewriter.specs.FirstLines.{LineAt, IsFirstLine}
use Rattle.data_rewriter.specs.Views.{IsCons}
use Rattle.data_rewriter.proofs.Deciding.{Clauses, no_more, clause, First, Holds, number_is, decided}
use Rattle.data_rewriter.proofs.NumberClauses.{whole_in}

-- an argument of an application
abbrev pub arguments : Term → Terms
arguments (application f ts) = ts
arguments _ = none

abbrev pub part : Term → ℕ → Term
part t i = term_at (arguments t) i

-- ---- x ++ y
abbrev pub concat_clauses : Sort → Term → Term → Clauses
concat_clauses a x y = clause 33 (x ≡ emptyᵗ a) y (clause 34 (y ≡ emptyᵗ a) x (clause 35 (IsCons a x) (consᵗ a (part x 0) (two (concatenation a) (part x 1) y)) no_more))

concat_holds : {g : Data} {a : Sort} {x y c r : Term} (i : ℕ) (b : BuiltIn g c (two (concatenation a) x y) r) → place_of b ≡ Some i → Holds (concat_clauses a x y) i
concat_holds i empty_concat e = inl (number_is e, refl)
concat_holds i concat_empty e = inr (inl (number_is e, refl))
concat_holds i (cons_concat {x = x} {l = l}) e = inr (inr (inl (number_is e, (x, l, refl))))

pub concat_decided : (sig : Sig) (ts : List Tree) (a : Sort) (x y : Term) (o : Option Line) → First sig ts (concat_clauses a x y) o → IsFirstLine sig ts (two (concatenation a) x y) o
concat_decided sig ts a x y = decided sig ts (two (concatenation a) x y) (concat_clauses a x y) (
  omega arith,
  (λ e. subst (λ v. LineAt (data_meant sig) 33 (two (concatenation a) v y) trueᵗ y) (sym e) (empty_concat, refl)),
  (
    omega arith,
    (λ e. subst (λ v. LineAt (data_meant sig) 34 (two (concatenation a) x v) trueᵗ x) (sym e) (concat_empty, refl)),
    (
      omega arith,
      (λ e. subst (λ v. LineAt (data_meant sig) 35 (two (concatenation a) v y) trueᵗ (consᵗ a (part v 0) (two (concatenation a) (part v 1) y))) (sym e.2) (cons_concat, refl)),
      tt,
    ),
  ),
)
    (λ i c r b. concat_holds i b.0 b.1)

-- ---- x <| y
abbrev pub snoc_clauses : Sort → Term → Term → Clauses
snoc_clauses a x y = clause 36 (x ≡ emptyᵗ a) (consᵗ a y (emptyᵗ a)) (clause 37 (IsCons a x) (consᵗ a (part x 0) (two (snoc a) (part x 1) y)) no_more)

snoc_holds : {g : Data} {a : Sort} {x y c r : Term} (i : ℕ) (b : BuiltIn g c (two (snoc a) x y) r) → place_of b ≡ Some i → Holds (snoc_clauses a x y) i
snoc_holds i empty_snoc e = inl (number_is e, refl)
snoc_holds i (cons_snoc {y = y} {l = l}) e = inr (inl (number_is e, (y, l, refl)))

pub snoc_decided : (sig : Sig) (ts : List Tree) (a : Sort) (x y : Term) (o : Option Line) → First sig ts (snoc_clauses a x y) o → IsFirstLine sig ts (two (snoc a) x y) o
snoc_decided sig ts a x y = decided sig ts (two (snoc a) x y) (snoc_clauses a x y) (
  omega arith,
  (λ e. subst (λ v. LineAt (data_meant sig) 36 (two (snoc a) v y) trueᵗ (consᵗ a y (emptyᵗ a))) (sym e) (empty_snoc, refl)),
  (
    omega arith,
    (λ e. subst (λ v. LineAt (data_meant sig) 37 (two (snoc a) v y) trueᵗ (consᵗ a (part v 0) (two (snoc a) (part v 1) y))) (sym e.2) (cons_snoc, refl)),
    tt,
  ),
)
    (λ i c r b. snoc_holds i b.0 b.1)

-- ---- #x
abbrev pub size_clauses : Sort → Term → Clauses
size_clauses a x = clause 38 (x ≡ emptyᵗ a) (number 0) (clause 39 (IsCons a x) (one (upcast positive natural) (one (arithmetic successor (natural ∷ []) positive) (one (size a) (part x 1)))) no_more)

size_holds : {g : Data} {a : Sort} {x c r : Term} (i : ℕ) (b : BuiltIn g c (one (size a) x) r) → place_of b ≡ Some i → Holds (size_clauses a x) i
size_holds i size_empty e = inl (number_is e, refl)
size_holds i (size_cons {x = x} {l = l}) e = inr (inl (number_is e, (x, l, refl)))

pub size_decided : (sig : Sig) (ts : List Tree) (a : Sort) (x : Term) (o : Option Line) → First sig ts (size_clauses a x) o → IsFirstLine sig ts (one (size a) x) o
size_decided sig ts a x = decided sig ts (one (size a) x) (size_clauses a x) (
  omega arith,
  (λ e. subst (λ v. LineAt (data_meant sig) 38 (one (size a) v) trueᵗ (number 0)) (sym e) (size_empty, refl)),
  (
    omega arith,
    (λ e. subst (λ v. LineAt (data_meant sig) 39 (one (size a) v) trueᵗ (one (upcast positive natural) (one (arithmetic successor (natural ∷ []) positive) (one (size a) (part v 1))))) (sym e.2) (size_cons, refl)),
    tt,
  ),
)
    (λ i c r b. size_holds i b.0 b.1)

-- ---- head(x) and tail(x)
abbrev pub head_clauses : Sort → Term → Clauses
head_clauses a x = clause 40 (IsCons a x) (part x 0) no_more

head_holds : {g : Data} {a : Sort} {x c r : Term} (i : ℕ) (b : BuiltIn g c (one (head a) x) r) → place_of b ≡ Some i → Holds (head_clauses a x) i
head_holds i (head_cons {x = x} {l = l}) e = inl (number_is e, (x, l, refl))

pub head_decided : (sig : Sig) (ts : List Tree) (a : Sort) (x : Term) (o : Option Line) → First sig ts (head_clauses a x) o → IsFirstLine sig ts (one (head a) x) o
head_decided sig ts a x = decided sig ts (one (head a) x) (head_clauses a x)
    (omega arith, (λ e. subst (λ v. LineAt (data_meant sig) 40 (one (head a) v) trueᵗ (part v 0)) (sym e.2) (head_cons, refl)), tt)
    (λ i c r b. head_holds i b.0 b.1)

abbrev pub tail_clauses : Sort → Term → Clauses
tail_clauses a x = clause 41 (IsCons a x) (part x 1) no_more

tail_holds : {g : Data} {a : Sort} {x c r : Term} (i : ℕ) (b : BuiltIn g c (one (tail a) x) r) → place_of b ≡ Some i → Holds (tail_clauses a x) i
tail_holds i (tail_cons {x = x} {l = l}) e = inl (number_is e, (x, l, refl))

pub tail_decided : (sig : Sig) (ts : List Tree) (a : Sort) (x : Term) (o : Option Line) → First sig ts (tail_clauses a x) o → IsFirstLine sig ts (one (tail a) x) o
tail_decided sig ts a x = decided sig ts (one (tail a) x) (tail_clauses a x)
    (omega arith, (λ e. subst (λ v. LineAt (data_meant sig) 41 (one (tail a) v) trueᵗ (part v 1)) (sym e.2) (tail_cons, refl)), tt)
    (λ i c r b. tail_holds i b.0 b.1)

-- ---- rhead(x) and rtail(x)
abbrev pub IsOne : Sort → Term → Type 0
IsOne a t = (x : Term) × (t ≡ consᵗ a x (emptyᵗ a))

abbrev pub IsMore : Sort → Term → Type 0
IsMore a t = (x y l : Term) × (t ≡ consᵗ a x (consᵗ a y l))

abbrev pub rhead_clauses : Sort → Term → Clauses
rhead_clauses a x = clause 42 (IsOne a x) (part x 0) (clause 43 (IsMore a x) (one (rhead a) (part x 1)) no_more)

rhead_holds : {g : Data} {a : Sort} {x c r : Term} (i : ℕ) (b : BuiltIn g c (one (rhead a) x) r) → place_of b ≡ Some i → Holds (rhead_clauses a x) i
rhead_holds i (rhead_one {x = x}) e = inl (number_is e, (x, refl))
rhead_holds i (rhead_more {x = x} {y = y} {l = l}) e = inr (inl (number_is e, (x, y, l, refl)))

pub rhead_decided : (sig : Sig) (ts : List Tree) (a : Sort) (x : Term) (o : Option Line) → First sig ts (rhead_clauses a x) o → IsFirstLine sig ts (one (rhead a) x) o
rhead_decided sig ts a x = decided sig ts (one (rhead a) x) (rhead_clauses a x) (
  omega arith,
  (λ e. subst (λ v. LineAt (data_meant sig) 42 (one (rhead a) v) trueᵗ (part v 0)) (sym e.1) (rhead_one, refl)),
  (
    omega arith,
    (λ e. subst (λ v. LineAt (data_meant sig) 43 (one (rhead a) v) trueᵗ (one (rhead a) (part v 1))) (sym e.3) (rhead_more, refl)),
    tt,
  ),
)
    (λ i c r b. rhead_holds i b.0 b.1)

abbrev pub rtail_clauses : Sort → Term → Clauses
rtail_clauses a x = clause 44 (IsOne a x) (emptyᵗ a) (clause 45 (IsMore a x) (consᵗ a (part x 0) (one (rtail a) (part x 1))) no_more)

rtail_holds : {g : Data} {a : Sort} {x c r : Term} (i : ℕ) (b : BuiltIn g c (one (rtail a) x) r) → place_of b ≡ Some i → Holds (rtail_clauses a x) i
rtail_holds i (rtail_one {x = x}) e = inl (number_is e, (x, refl))
rtail_holds i (rtail_more {x = x} {y = y} {l = l}) e = inr (inl (number_is e, (x, y, l, refl)))

pub rtail_decided : (sig : Sig) (ts : List Tree) (a : Sort) (x : Term) (o : Option Line) → First sig ts (rtail_clauses a x) o → IsFirstLine sig ts (one (rtail a) x) o
rtail_decided sig ts a x = decided sig ts (one (rtail a) x) (rtail_clauses a x) (
  omega arith,
  (λ e. subst (λ v. LineAt (data_meant sig) 44 (one (rtail a) v) trueᵗ (emptyᵗ a)) (sym e.1) (rtail_one, refl)),
  (
    omega arith,
    (λ e. subst (λ v. LineAt (data_meant sig) 45 (one (rtail a) v) trueᵗ (consᵗ a (part v 0) (one (rtail a) (part v 1)))) (sym e.3) (rtail_more, refl)),
    tt,
  ),
)
    (λ i c r b. rtail_holds i b.0 b.1)

-- ---- x in y
abbrev pub in_clauses : Sort → Term → Term → Clauses
in_clauses a x y = clause 48 (y ≡ emptyᵗ a) falseᵗ (clause 49 (IsCons a y) (equals a x (part y 0) ∨ᵗ two (membership a) x (part y 1)) no_more)

in_holds : {g : Data} {a : Sort} {x y c r : Term} (i : ℕ) (b : BuiltIn g c (two (membership a) x y) r) → place_of b ≡ Some i → Holds (in_clauses a x y) i
in_holds i in_empty e = inl (number_is e, refl)
in_holds i (in_cons {y = y} {l = l}) e = inr (inl (number_is e, (y, l, refl)))

pub in_decided : (sig : Sig) (ts : List Tree) (a : Sort) (x y : Term) (o : Option Line) → First sig ts (in_clauses a x y) o → IsFirstLine sig ts (two (membership a) x y) o
in_decided sig ts a x y = decided sig ts (two (membership a) x y) (in_clauses a x y) (
  omega arith,
  (λ e. subst (λ v. LineAt (data_meant sig) 48 (two (membership a) x v) trueᵗ falseᵗ) (sym e) (in_empty, refl)),
  (
    omega arith,
    (λ e. subst (λ v. LineAt (data_meant sig) 49 (two (membership a) x v) trueᵗ (equals a x (part v 0) ∨ᵗ two (membership a) x (part v 1))) (sym e.2) (in_cons, refl)),
    tt,
  ),
)
    (λ i c r b. in_holds i b.0 b.1)

-- ---- x . y
abbrev pub AtLine : Sort → Term → Term → ℕ → Type 0
AtLine a t u i = ((i ≡ 46) × IsCons a t × (u ≡ number 0)) ⊎ ((i ≡ 47) × IsCons a t)

pub at_lines : {g : Data} {a : Sort} {t u c r : Term} (i : ℕ) (b : BuiltIn g c (two (element_at a) t u) r) → place_of b ≡ Some i → AtLine a t u i
at_lines i (at_zero {x = x} {l = l}) e = inl (sym (number_is e), (x, l, refl), refl)
at_lines i (at_later {x = x} {l = l}) e = inr (sym (number_is e), (x, l, refl))

pub not_one_is : (a : Sort) (t x l : Term) → t ≡ consᵗ a x l → (l ≡ emptyᵗ a → ⊥) → IsOne a t → ⊥
not_one_is a t x l e n h = n (ap (λ v. part v 1) (sym e ∙ h.1))

pub not_more_is : (a : Sort) (t x l : Term) → t ≡ consᵗ a x l → (IsCons a l → ⊥) → IsMore a t → ⊥
not_more_is a t x l e n h = n (h.1, h.2, ap (λ v. part v 1) (sym e ∙ h.3))

-- ---- 0
pub zero_is : (n : Num) → n.magnitude ≡ 0 → numeral natural (whole_of n) ≡ number 0
zero_is n e = ap (numeral natural) (by_sign n.negative n.magnitude e)
  where
    by_sign : (b : Bool) (m : ℕ) → m ≡ 0 → cond b (neg_ℤ (pos m)) (pos m) ≡ pos 0
    by_sign false m e = ap pos e
    by_sign true m e = ap (λ k. neg_ℤ (pos k)) e

pub not_zero : (n : Num) (t : Term) → t ≡ numeral natural (whole_of n) → t ≡ number 0 → n.magnitude ≡ 0
not_zero n t e k = by_sign n.negative n.magnitude (ap whole_in (sym e ∙ k))
  where
    by_sign : (b : Bool) (m : ℕ) → cond b (neg_ℤ (pos m)) (pos m) ≡ pos 0 → m ≡ 0
    by_sign false m e = cc
    by_sign true zero e = refl
    by_sign true (suc m) e = absurd cc

-- ---- what stands at x . y
module _ (sig : Sig) (a : Sort) (t u : Term) where
  pub at_decided_none : (IsCons a t → ⊥) → (i : ℕ) (c r : Term) → LineAt (data_meant sig) i (two (element_at a) t u) c r → ⊥
  at_decided_none n i c r b = ⊎_elim (λ h. n h.1) (λ h. n h.1) (at_lines i b.0 b.1)

module _ (sig : Sig) (ts : List Tree) (a : Sort) (t u : Term) where
  pub at_decided_zero : (o : Option Line) (x l : Term) → t ≡ consᵗ a x l → u ≡ number 0 → (first : TermId) → StandsFor sig ts first x → o ≡ Some (record { number = 46; above_zero = None; right = Is first }) → IsFirstLine sig ts (two (element_at a) t u) o
  at_decided_zero o x l e z first h is = subst (IsFirstLine sig ts (two (element_at a) t u)) (sym is) (record {
    condition = trueᵗ;
    right = x;
    matches_there = subst (λ v. LineAt (data_meant sig) 46 (two (element_at a) v u) trueᵗ x) (sym e) (subst (λ v. LineAt (data_meant sig) 46 (two (element_at a) (consᵗ a x l) v) trueᵗ x) (sym z) (at_zero, refl));
    condition_is = refl;
    right_is = h;
    none_before = λ i c r less b. ⊎_elim (λ k. let n = k.0 in omega (arith, n, less)) (λ k. let n = k.0 in omega (arith, n, less)) (at_lines i b.0 b.1);
  })

  pub at_decided_later : (x l : Term) → t ≡ consᵗ a x l → (u ≡ number 0 → ⊥) → (fun : FunId) (rest y : TermId) → IsSymbolOf sig fun (element_at a) → StandsFor sig ts rest l → StandsFor sig ts y u → IsFirstLine sig ts (two (element_at a) t u) (Some (record { number = 47; above_zero = Some y; right = Later fun rest y }))
  at_decided_later x l e n fun rest y f h k =
      let r : Term = two (element_at a) l (one (arithmetic to_natural (integer ∷ []) natural) (two (arithmetic subtract (natural ∷ natural ∷ []) integer) u (number 1))) in
      let c : Term = two (comparison less natural) (number 0) u in
      record {
        condition = c;
        right = r;
        matches_there = subst (λ v. LineAt (data_meant sig) 47 (two (element_at a) v u) c r) (sym e) (at_later, refl);
        condition_is = (u, k, refl);
        right_is = (element_at a, l, u, f, h, k, refl);
        none_before = λ i d s less b. ⊎_elim (λ m. n m.2) (λ m. let j = m.0 in omega (arith, j, less)) (at_lines i b.0 b.1);
      }
