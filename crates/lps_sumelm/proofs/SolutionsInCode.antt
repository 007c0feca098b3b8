-- What the sides of a part give, in code.
use Rattle.std.proofs.Common.{◌≡◌, ℕ, Bool, true, false, List, cond, refl, sym, ap, ap₂, ◌∙◌, Option, Some, None, ⊎_elim, ◌⊎◌, inl, inr}
use Rattle.std.specs.Prelude.{◌↔◌}
use Rattle.data_theory.specs.declared.ids.VarId.{VarId}
use Rattle.data_theory.specs.declared.ids.TermId.{TermId}
use Rattle.data_theory.specs.Terms.{Term, variable, variables_of}
use Rattle.data_theory.specs.Environments.{Binding}
use Rattle.data_theory.specs.Signature.{Sig}
use Rattle.data_theory.specs.IdTrees.{Tree}
use Rattle.data_theory.specs.IdTerms.{term_under}
use Rattle.term_pool.specs.declared.terms.Head.{Head}
use Rattle.term_pool.specs.declared.terms.Head.TheVariants.{Var}
use Rattle.term_pool.specs.HeadTrees.{written_tree, tree_at}
use Rattle.data_rewriter.specs.Standing.{term_at}
use Rattle.lps_sumelm.specs.OccurringVariables.{Occurs}
use Rattle.lps_sumelm.specs.Solutions.{is_among, side}
use Rattle.lps_sumelm.specs.SummandsInCode.{meant_solution}
use Rattle.lps_sumelm.proofs.SolvableParts.{among_is, is_there}
use Rattle.lps_sumelm.proofs.SummandVariables.{occurring, occurs_there}

abbrev what_is_given : ℕ → Term → Bool → Bool → Option Binding
what_is_given v t p q = cond p (cond q None (Some (record { var = v; term = t }))) None

decided : (b : Bool) → (b ≡ true) ⊎ (b ≡ false)
decided true = inl refl
decided false = inr refl

module _ (g : Sig) (ts : List Tree) (xs : List ℕ) (left right : TermId) (h : Head) (v : VarId) (args : List Tree) (is : h ≡ Var v) (tree : tree_at ts left ≡ written_tree h args) where
  left_is : term_at g ts left ≡ variable v.0
  left_is = ap (term_under g) (tree ∙ ap (λ x. written_tree x args) is)

  side_is : side xs (term_at g ts left) (term_at g ts right) ≡ what_is_given v.0 (term_at g ts right) (is_among v.0 xs) (is_among v.0 (variables_of (term_at g ts right)))
  side_is = ap (λ t. side xs t (term_at g ts right)) left_is

  pub no_sum : is_among v.0 xs ≡ false → None ≡ side xs (term_at g ts left) (term_at g ts right)
  no_sum e = sym (side_is ∙ ap (λ p. what_is_given v.0 (term_at g ts right) p (is_among v.0 (variables_of (term_at g ts right)))) e)

  pub in_itself : (there : Bool) → (there ≡ true) ↔ Occurs v (tree_at ts right) → there ≡ true → None ≡ side xs (term_at g ts left) (term_at g ts right)
  in_itself there told e =
      let occurs = is_there v.0 (variables_of (term_at g ts right)) (occurring g v (tree_at ts right) (told.0 e)) in
      sym (side_is ∙ ap (what_is_given v.0 (term_at g ts right) (is_among v.0 xs)) occurs ∙ no_matter (is_among v.0 xs))
    where
      no_matter : (p : Bool) → what_is_given v.0 (term_at g ts right) p true ≡ None
      no_matter true = refl
      no_matter false = refl

  pub given : is_among v.0 xs ≡ true → (there : Bool) → (there ≡ true) ↔ Occurs v (tree_at ts right) → there ≡ false → Some (meant_solution g ts (record { var = v; term = right })) ≡ side xs (term_at g ts left) (term_at g ts right)
  given sum there told e =
      let absent : is_among v.0 (variables_of (term_at g ts right)) ≡ false = ⊎_elim
      (λ k. absurd (differ (sym (told.1 (occurs_there g v (tree_at ts right) (among_is v.0 (variables_of (term_at g ts right)) k))) ∙ e)))
      (λ k. k) (decided (is_among v.0 (variables_of (term_at g ts right)))) in
      sym (side_is ∙ ap₂ (λ p q. what_is_given v.0 (term_at g ts right) p q) sum absent)
    where
      differ : true ≡ false → ⊥
      differ q = cc
