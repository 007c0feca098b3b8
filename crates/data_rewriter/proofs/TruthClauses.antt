-- The equations on truth values, and those of every sort but for equality.
use Rattle.std.proofs.Common.{◌≡◌, ℕ, List, refl, sym, subst, arith, inl, inr}
use Rattle.std.specs.Prelude.{Option, Some}
use Rattle.data_theory.specs.Terms.{Sort, negation, Term, application, none, more, inequality}
use Rattle.data_theory.specs.Declarations.{Data}
use Rattle.data_theory.specs.Equations.{BuiltIn, two, trueᵗ, falseᵗ, !ᵗ◌, ◌∧ᵗ◌, ◌∨ᵗ◌, ◌⇒ᵗ◌, equals, chooses, not_true, not_false, not_not, true_and, and_true, false_and, and_false, and_same, true_or, or_true, false_or, or_false, or_same, true_implies, false_implies, implies, and_commutes, or_commutes, and_associates, or_associates, and_distributes, or_distributes, and_absorbs, or_absorbs, not_and, not_or, and_not, or_not, not_equal, if_true, if_false, if_same}
use Rattle.data_theory.specs.Rewriting.{place_of}
use Rattle.data_theory.specs.Signature.{Sig}
use Rattle.data_theory.specs.IdData.{data_meant}
use Rattle.data_theory.specs.IdTrees.{Tree}
use Rattle.data_rewriter.specs.declared.rights.Line.{Line}
use Rattle.data_rewriter.specs.FirstLines.{LineAt, IsFirstLine}
use Rattle.data_rewriter.proofs.Deciding.{Clauses, no_more, clause, First, Holds, number_is, no_number, decided}

-- ---- !x
abbrev IsNot : Term → Type 0
IsNot (application negation (more x none)) = Unit {0}
IsNot _ = ⊥

abbrev pub under_not : Term → Term
under_not (application negation (more x none)) = x
under_not _ = trueᵗ

abbrev pub not_clauses : Term → Clauses
not_clauses x = clause 0 (x ≡ trueᵗ) falseᵗ (clause 1 (x ≡ falseᵗ) trueᵗ (clause 2 ((y : Term) × (x ≡ !ᵗ y)) (under_not x) no_more))

not_holds : {g : Data} {x c r : Term} (i : ℕ) (b : BuiltIn g c (!ᵗ x) r) → place_of b ≡ Some i → Holds (not_clauses x) i
not_holds i not_true e = inl (number_is e, refl)
not_holds i not_false e = inr (inl (number_is e, refl))
not_holds i (not_not {x}) e = inr (inr (inl (number_is e, (x, refl))))
not_holds i not_and e = absurd (no_number e)
not_holds i not_or e = absurd (no_number e)

pub not_decided : (sig : Sig) (ts : List Tree) (x : Term) (o : Option Line) → First sig ts (not_clauses x) o → IsFirstLine sig ts (!ᵗ x) o
not_decided sig ts x = decided sig ts (!ᵗ x) (not_clauses x) (
  omega arith,
  λ e. subst (λ v. LineAt (data_meant sig) 0 (!ᵗ v) trueᵗ falseᵗ) (sym e) (not_true, refl),
  (
    omega arith,
    λ e. subst (λ v. LineAt (data_meant sig) 1 (!ᵗ v) trueᵗ trueᵗ) (sym e) (not_false, refl),
    (
      omega arith,
      λ e. subst (λ v. LineAt (data_meant sig) 2 (!ᵗ v) trueᵗ (under_not v)) (sym e.1) (not_not, refl),
      tt,
    ),
  ),
)
    (λ i c r b. not_holds i b.0 b.1)

-- ---- x && y
abbrev pub and_clauses : Term → Term → Clauses
and_clauses x y = clause 3 (x ≡ trueᵗ) y (clause 4 (y ≡ trueᵗ) x (clause 5 (x ≡ falseᵗ) falseᵗ (clause 6 (y ≡ falseᵗ) falseᵗ (clause 7 (x ≡ y) x no_more))))

and_holds : {g : Data} {x y c r : Term} (i : ℕ) (b : BuiltIn g c (x ∧ᵗ y) r) → place_of b ≡ Some i → Holds (and_clauses x y) i
and_holds i true_and e = inl (number_is e, refl)
and_holds i and_true e = inr (inl (number_is e, refl))
and_holds i false_and e = inr (inr (inl (number_is e, refl)))
and_holds i and_false e = inr (inr (inr (inl (number_is e, refl))))
and_holds i and_same e = inr (inr (inr (inr (inl (number_is e, refl)))))
and_holds i and_commutes e = absurd (no_number e)
and_holds i and_associates e = absurd (no_number e)
and_holds i and_distributes e = absurd (no_number e)
and_holds i and_absorbs e = absurd (no_number e)
and_holds i and_not e = absurd (no_number e)

pub and_decided : (sig : Sig) (ts : List Tree) (x y : Term) (o : Option Line) → First sig ts (and_clauses x y) o → IsFirstLine sig ts (x ∧ᵗ y) o
and_decided sig ts x y = decided sig ts (x ∧ᵗ y) (and_clauses x y) (
  omega arith,
  λ e. subst (λ v. LineAt (data_meant sig) 3 (v ∧ᵗ y) trueᵗ y) (sym e) (true_and, refl),
  (
    omega arith,
    λ e. subst (λ v. LineAt (data_meant sig) 4 (x ∧ᵗ v) trueᵗ x) (sym e) (and_true, refl),
    (
      omega arith,
      λ e. subst (λ v. LineAt (data_meant sig) 5 (v ∧ᵗ y) trueᵗ falseᵗ) (sym e) (false_and, refl),
      (
        omega arith,
        λ e. subst (λ v. LineAt (data_meant sig) 6 (x ∧ᵗ v) trueᵗ falseᵗ) (sym e) (and_false, refl),
        (
          omega arith,
          λ e. subst (λ v. LineAt (data_meant sig) 7 (x ∧ᵗ v) trueᵗ x) e (and_same, refl),
          tt,
        ),
      ),
    ),
  ),
)
    (λ i c r b. and_holds i b.0 b.1)

-- ---- x || y
abbrev pub or_clauses : Term → Term → Clauses
or_clauses x y = clause 8 (x ≡ trueᵗ) trueᵗ (clause 9 (y ≡ trueᵗ) trueᵗ (clause 10 (x ≡ falseᵗ) y (clause 11 (y ≡ falseᵗ) x (clause 12 (x ≡ y) x no_more))))

or_holds : {g : Data} {x y c r : Term} (i : ℕ) (b : BuiltIn g c (x ∨ᵗ y) r) → place_of b ≡ Some i → Holds (or_clauses x y) i
or_holds i true_or e = inl (number_is e, refl)
or_holds i or_true e = inr (inl (number_is e, refl))
or_holds i false_or e = inr (inr (inl (number_is e, refl)))
or_holds i or_false e = inr (inr (inr (inl (number_is e, refl))))
or_holds i or_same e = inr (inr (inr (inr (inl (number_is e, refl)))))
or_holds i or_commutes e = absurd (no_number e)
or_holds i or_associates e = absurd (no_number e)
or_holds i or_distributes e = absurd (no_number e)
or_holds i or_absorbs e = absurd (no_number e)
or_holds i or_not e = absurd (no_number e)

pub or_decided : (sig : Sig) (ts : List Tree) (x y : Term) (o : Option Line) → First sig ts (or_clauses x y) o → IsFirstLine sig ts (x ∨ᵗ y) o
or_decided sig ts x y = decided sig ts (x ∨ᵗ y) (or_clauses x y) (
  omega arith,
  λ e. subst (λ v. LineAt (data_meant sig) 8 (v ∨ᵗ y) trueᵗ trueᵗ) (sym e) (true_or, refl),
  (
    omega arith,
    λ e. subst (λ v. LineAt (data_meant sig) 9 (x ∨ᵗ v) trueᵗ trueᵗ) (sym e) (or_true, refl),
    (
      omega arith,
      λ e. subst (λ v. LineAt (data_meant sig) 10 (v ∨ᵗ y) trueᵗ y) (sym e) (false_or, refl),
      (
        omega arith,
        λ e. subst (λ v. LineAt (data_meant sig) 11 (x ∨ᵗ v) trueᵗ x) (sym e) (or_false, refl),
        (
          omega arith,
          λ e. subst (λ v. LineAt (data_meant sig) 12 (x ∨ᵗ v) trueᵗ x) e (or_same, refl),
          tt,
        ),
      ),
    ),
  ),
)
    (λ i c r b. or_holds i b.0 b.1)

-- ---- x => y
abbrev pub implies_clauses : Term → Term → Clauses
implies_clauses x y = clause 13 (x ≡ trueᵗ) y (clause 14 (x ≡ falseᵗ) trueᵗ (clause 15 (Unit {0}) (!ᵗ x ∨ᵗ y) no_more))

implies_holds : {g : Data} {x y c r : Term} (i : ℕ) (b : BuiltIn g c (x ⇒ᵗ y) r) → place_of b ≡ Some i → Holds (implies_clauses x y) i
implies_holds i true_implies e = inl (number_is e, refl)
implies_holds i false_implies e = inr (inl (number_is e, refl))
implies_holds i implies e = inr (inr (inl (number_is e, tt)))

pub implies_decided : (sig : Sig) (ts : List Tree) (x y : Term) (o : Option Line) → First sig ts (implies_clauses x y) o → IsFirstLine sig ts (x ⇒ᵗ y) o
implies_decided sig ts x y = decided sig ts (x ⇒ᵗ y) (implies_clauses x y) (
  omega arith,
  λ e. subst (λ v. LineAt (data_meant sig) 13 (v ⇒ᵗ y) trueᵗ y) (sym e) (true_implies, refl),
  (
    omega arith,
    λ e. subst (λ v. LineAt (data_meant sig) 14 (v ⇒ᵗ y) trueᵗ trueᵗ) (sym e) (false_implies, refl),
    (
      omega arith,
      λ e. (implies, refl),
      tt,
    ),
  ),
)
    (λ i c r b. implies_holds i b.0 b.1)

-- ---- x != y
abbrev pub different_clauses : Sort → Term → Term → Clauses
different_clauses a x y = clause 17 (Unit {0}) (!ᵗ (equals a x y)) no_more

different_holds : {g : Data} {a : Sort} {x y c r : Term} (i : ℕ) (b : BuiltIn g c (two (inequality a) x y) r) → place_of b ≡ Some i → Holds (different_clauses a x y) i
different_holds i not_equal e = inl (number_is e, tt)

pub different_decided : (sig : Sig) (ts : List Tree) (a : Sort) (x y : Term) (o : Option Line) → First sig ts (different_clauses a x y) o → IsFirstLine sig ts (two (inequality a) x y) o
different_decided sig ts a x y = decided sig ts (two (inequality a) x y) (different_clauses a x y)
    (omega arith, λ e. (not_equal, refl), tt)
    (λ i c r b. different_holds i b.0 b.1)

-- ---- if(b, x, y)
abbrev pub if_clauses : Term → Term → Term → Clauses
if_clauses b x y = clause 18 (b ≡ trueᵗ) x (clause 19 (b ≡ falseᵗ) y (clause 20 (x ≡ y) x no_more))

if_holds : {g : Data} {a : Sort} {d x y c r : Term} (i : ℕ) (b : BuiltIn g c (chooses a d x y) r) → place_of b ≡ Some i → Holds (if_clauses d x y) i
if_holds i if_true e = inl (number_is e, refl)
if_holds i if_false e = inr (inl (number_is e, refl))
if_holds i if_same e = inr (inr (inl (number_is e, refl)))

pub if_decided : (sig : Sig) (ts : List Tree) (a : Sort) (d x y : Term) (o : Option Line) → First sig ts (if_clauses d x y) o → IsFirstLine sig ts (chooses a d x y) o
if_decided sig ts a d x y = decided sig ts (chooses a d x y) (if_clauses d x y) (
  omega arith,
  λ e. subst (λ v. LineAt (data_meant sig) 18 (chooses a v x y) trueᵗ x) (sym e) (if_true, refl),
  (
    omega arith,
    λ e. subst (λ v. LineAt (data_meant sig) 19 (chooses a v x y) trueᵗ y) (sym e) (if_false, refl),
    (
      omega arith,
      λ e. subst (λ v. LineAt (data_meant sig) 20 (chooses a d x v) trueᵗ x) e (if_same, refl),
      tt,
    ),
  ),
)
    (λ i c r b. if_holds i b.0 b.1)
