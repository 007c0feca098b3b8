-- What views tell.
use Rattle.std.proofs.Common.{◌≡◌, ◌<◌, List, [], ◌∷◌, length, refl, sym, ap, ◌∙◌, subst, arith}
use Rattle.std.specs.Prelude.{◌↔◌}
use Rattle.data_theory.specs.declared.ids.SortId.{SortId}
use Rattle.data_theory.specs.declared.ids.TermId.{TermId}
use Rattle.data_theory.specs.Terms.{Sort, Symbol, truth, falsity, negation, empty, cons, Term, application, none}
use Rattle.data_theory.specs.Equations.{trueᵗ, falseᵗ, !ᵗ◌, emptyᵗ}
use Rattle.data_theory.specs.Signature.{Sig}
use Rattle.data_theory.specs.IdData.{data_meant}
use Rattle.data_theory.specs.IdTables.{IsTable}
use Rattle.data_theory.specs.IdTrees.{Tree}
use Rattle.data_theory.specs.IdTerms.{sort_under}
use Rattle.data_theory.proofs.IdSortLemmas.{different_sorts_mean_different_sorts}
use Rattle.data_rewriter.specs.declared.views.View.{View}
use Rattle.data_rewriter.specs.declared.views.View.TheVariants.{Other, True, False, Not, Number, Empty, Cons, Made}
use Rattle.data_rewriter.specs.Standing.{IsSortOf, listed_at, terms_of}
use Rattle.data_rewriter.specs.Views.{IsView, IsOtherTerm}

module _ (sig : Sig) (ts : List Tree) (t : Term) where
  pub not_true_view : (v : View) → (v ≡ True → ⊥) → IsView sig ts t v → t ≡ trueᵗ → ⊥
  not_true_view Other n h e = subst (IsOtherTerm (data_meant sig)) e h
  not_true_view True n h e = n refl
  not_true_view False n h e = let a = sym e ∙ h in cc
  not_true_view (Not x) n h e = let a = sym e ∙ h.2 in cc
  not_true_view (Number s m) n h e = let a = sym e ∙ h.2 in cc
  not_true_view (Empty s) n h e = let a = sym e ∙ h.2 in cc
  not_true_view (Cons f s x l) n h e = let a = sym e ∙ h.7 in cc
  not_true_view (Made f) n h e = let a = sym e ∙ h.4 in cc

  pub not_false_view : (v : View) → (v ≡ False → ⊥) → IsView sig ts t v → t ≡ falseᵗ → ⊥
  not_false_view Other n h e = subst (IsOtherTerm (data_meant sig)) e h
  not_false_view True n h e = let a = sym e ∙ h in cc
  not_false_view False n h e = n refl
  not_false_view (Not x) n h e = let a = sym e ∙ h.2 in cc
  not_false_view (Number s m) n h e = let a = sym e ∙ h.2 in cc
  not_false_view (Empty s) n h e = let a = sym e ∙ h.2 in cc
  not_false_view (Cons f s x l) n h e = let a = sym e ∙ h.7 in cc
  not_false_view (Made f) n h e = let a = sym e ∙ h.4 in cc

  pub not_not_view : (v : View) (y : Term) → ((x : TermId) → v ≡ Not x → ⊥) → IsView sig ts t v → t ≡ !ᵗ y → ⊥
  not_not_view Other y n h e = subst (IsOtherTerm (data_meant sig)) e h
  not_not_view True y n h e = let a = sym e ∙ h in cc
  not_not_view False y n h e = let a = sym e ∙ h in cc
  not_not_view (Not x) y n h e = n x refl
  not_not_view (Number s m) y n h e = let a = sym e ∙ h.2 in cc
  not_not_view (Empty s) y n h e = let a = sym e ∙ h.2 in cc
  not_not_view (Cons f s x l) y n h e = let a = sym e ∙ h.7 in cc
  not_not_view (Made f) y n h e = let a = sym e ∙ h.4 in cc

module _ (sig : Sig) (ts : List Tree) (y : Symbol) where
  -- too many arguments, or too few
  pub crowded_true : (ids : List TermId) → y ≡ truth → 0 < length ids → IsOtherTerm (data_meant sig) (application y (terms_of (listed_at sig ts ids)))
  crowded_true [] e l = absurd (omega (arith, l))
  crowded_true (a ∷ ids) e l = subst (λ z. IsOtherTerm (data_meant sig) (application z (terms_of (listed_at sig ts (a ∷ ids))))) (sym e) tt

  pub crowded_false : (ids : List TermId) → y ≡ falsity → 0 < length ids → IsOtherTerm (data_meant sig) (application y (terms_of (listed_at sig ts ids)))
  crowded_false [] e l = absurd (omega (arith, l))
  crowded_false (a ∷ ids) e l = subst (λ z. IsOtherTerm (data_meant sig) (application z (terms_of (listed_at sig ts (a ∷ ids))))) (sym e) tt

  pub crowded_empty : (a : Sort) (ids : List TermId) → y ≡ empty a → 0 < length ids → IsOtherTerm (data_meant sig) (application y (terms_of (listed_at sig ts ids)))
  crowded_empty s [] e l = absurd (omega (arith, l))
  crowded_empty s (a ∷ ids) e l = subst (λ z. IsOtherTerm (data_meant sig) (application z (terms_of (listed_at sig ts (a ∷ ids))))) (sym e) tt

  pub not_one : (ids : List TermId) → y ≡ negation → (length ids ≡ 1 → ⊥) → IsOtherTerm (data_meant sig) (application y (terms_of (listed_at sig ts ids)))
  not_one [] e n = subst (λ z. IsOtherTerm (data_meant sig) (application z none)) (sym e) tt
  not_one (a ∷ []) e n = absurd (n refl)
  not_one (a ∷ b ∷ ids) e n = subst (λ z. IsOtherTerm (data_meant sig) (application z (terms_of (listed_at sig ts (a ∷ b ∷ ids))))) (sym e) tt

  pub not_two : (s : Sort) (ids : List TermId) → y ≡ cons s → (length ids ≡ 2 → ⊥) → IsOtherTerm (data_meant sig) (application y (terms_of (listed_at sig ts ids)))
  not_two s [] e n = subst (λ z. IsOtherTerm (data_meant sig) (application z none)) (sym e) tt
  not_two s (a ∷ []) e n = subst (λ z. IsOtherTerm (data_meant sig) (application z (terms_of (listed_at sig ts (a ∷ []))))) (sym e) tt
  not_two s (a ∷ b ∷ []) e n = absurd (n refl)
  not_two s (a ∷ b ∷ d ∷ ids) e n = subst (λ z. IsOtherTerm (data_meant sig) (application z (terms_of (listed_at sig ts (a ∷ b ∷ d ∷ ids))))) (sym e) tt

-- ---- sorts
pub same_sort : (sig : Sig) → IsTable sig → (s r : SortId) (a : Sort) → IsSortOf sig s a → IsSortOf sig r a → s ≡ r
same_sort sig table s r a h k = different_sorts_mean_different_sorts sig table s r h.inside k.inside (h.is ∙ sym k.is)

pub empty_over : (sig : Sig) → IsTable sig → (s r : SortId) (a b : Sort) (t : Term) → IsSortOf sig s a → IsSortOf sig r b → t ≡ emptyᵗ b → (s ≡ r) ↔ (t ≡ emptyᵗ a)
empty_over sig table s r a b t h k e = (
  (λ same. let is : b ≡ a = sym k.is ∙ (ap (sort_under sig) (sym same) ∙ h.is) in e ∙ ap emptyᵗ is),
  (λ e'. let is : b ≡ a = sort_in (sym e ∙ e') in same_sort sig table s r a h (subst (IsSortOf sig r) is k)),
)
  where
    sort_in : emptyᵗ b ≡ emptyᵗ a → b ≡ a
    sort_in e = cc
