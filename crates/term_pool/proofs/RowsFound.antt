-- The functions of the constructors of Bool and of list sorts, and the sort that a constructor gives.
use Rattle.std.proofs.Common.{◌≡◌, ℕ, List, Some, inl, inr, refl, sym, ap, ◌∙◌, subst, arith}
use Rattle.std.specs.Prelude.{slice_get}
use Rattle.std.specs.List.{Contains}
use Rattle.data_theory.specs.declared.ids.SortId.{SortId}
use Rattle.data_theory.specs.declared.ids.FunId.{FunId}
use Rattle.data_theory.specs.declared.rows.Row.{Row}
use Rattle.data_theory.specs.declared.rows.Row.TheVariants as rows
use Rattle.data_theory.specs.declared.words.Word.TheVariants as words
use Rattle.data_theory.specs.declared.words.ListWord.TheVariants as lists
use Rattle.data_theory.specs.Functions.{Function}
use Rattle.data_theory.specs.Rows.{row_text, row_sorts, row_result, built_in}
use Rattle.data_theory.specs.Sorts as sorts
use Rattle.data_theory.specs.Sorts.{Kind, SortInfo, IsListOver}
use Rattle.data_theory.specs.Table.{bool_sort, list_rows}
use Rattle.data_theory.specs.Signature.{Sig, IsFun}
use Rattle.data_theory.specs.SignatureLaws.{RowStands}
use Rattle.data_theory.specs.IdData.{constructors_of}
use Rattle.data_theory.specs.WholeSignatures.{IsSignature}
use Rattle.data_theory.proofs.PlaceLemmas.{contains_read}
use Rattle.data_theory.proofs.StandingLemmas.{functions_over_lists_stand, signatures_have_truth_functions}
use Rattle.term_pool.specs.ConstructorValues.{IsConstructorOf, IsConstructorAt}

abbrev pub true_row : Row
true_row = rows.Constant words.True bool_sort

abbrev pub false_row : Row
false_row = rows.Constant words.False bool_sort

abbrev pub empty_row : SortId → Row
empty_row s = rows.ListConstant (words.List lists.Empty) s

abbrev pub cons_row : SortId → SortId → Row
cons_row e s = rows.Two (words.List lists.Cons) e s s

empty_among : (e s : SortId) → Contains (list_rows e s) (empty_row s)
unfolding list_rows
empty_among e s = (0, omega arith, refl)

cons_among : (e s : SortId) → Contains (list_rows e s) (cons_row e s)
unfolding list_rows
cons_among e s = (1, omega arith, refl)

module _ (g : Sig) (stands : IsSignature g) where
  -- ---- where their functions stand
  pub true_there : RowStands g true_row
  true_there = (6, (signatures_have_truth_functions g stands).true_stands)

  pub false_there : RowStands g false_row
  false_there = (7, (signatures_have_truth_functions g stands).false_stands)

  pub empty_there : (e s : SortId) → IsListOver g.sorts e s → RowStands g (empty_row s)
  empty_there e s over = functions_over_lists_stand g stands e s over (empty_row s) (empty_among e s)

  pub cons_there : (e s : SortId) → IsListOver g.sorts e s → RowStands g (cons_row e s)
  cons_there e s over = functions_over_lists_stand g stands e s over (cons_row e s) (cons_among e s)

  -- what is found by the key of a row is the row's function
  pub found_is_row : (r : Row) → RowStands g r → (k : ℕ) (p : IsFun g (row_text r) (row_sorts r) k) → p.0 ≡ built_in g.texts r
  found_is_row r there k p =
      let both : Some p.0 ≡ Some (built_in g.texts r) = sym p.1 ∙ (ap (slice_get g.functions) (there.1.alone k p) ∙ there.1.stands) in
      cc

  -- ---- the sort of a constructor
  pub constructors_give_their_sorts : (s : SortId) (k : ℕ) (f : FunId) (e : Function) → IsConstructorAt g s k f → slice_get g.functions f.0 ≡ Some e → e.result ≡ s
  constructors_give_their_sorts s k f e c at = by_kind c.0.kind refl c.2
    where
      one : (x : Function) → slice_get g.functions f.0 ≡ Some x → x ≡ e
      one x here = let both : Some x ≡ Some e = sym here ∙ at in cc

      of_row : (r : Row) → RowStands g r → (p : IsFun g (row_text r) (row_sorts r) f.0) → row_result r ≡ s → e.result ≡ s
      of_row r there p to = ap (λ (x : Function). x.result) (sym (one p.0 p.1) ∙ found_is_row r there f.0 p) ∙ to

      of_declared : (fs : List FunId) → constructors_of c.0.kind ≡ fs → slice_get fs k ≡ Some f → e.result ≡ s
      of_declared fs same p =
          let made = stands.roles.constructors s c.0 f c.1 (subst (λ (l : List FunId). Contains l f) (sym same) (contains_read fs k f p)) in
          ap (λ (x : Function). x.result) (sym (one made.0 made.1)) ∙ made.3

      bool_is : c.0.kind ≡ sorts.booleans → bool_sort ≡ s
      bool_is q = ap (λ (n : ℕ). record { 0 = n }) (sym ((stands.table.sorts.boolean_first s.0).0 (c.0, c.1, q)))

      by_kind : (d : Kind) → c.0.kind ≡ d → IsConstructorOf g s d k f → e.result ≡ s
      by_kind sorts.booleans q (inl p) = of_row true_row true_there p.1 (bool_is q)
      by_kind sorts.booleans q (inr p) = of_row false_row false_there p.1 (bool_is q)
      by_kind sorts.positives q p = absurd p
      by_kind sorts.naturals q p = absurd p
      by_kind sorts.integers q p = absurd p
      by_kind (sorts.lists_over x) q (inl p) = of_row (empty_row s) (empty_there x s (c.0, c.1, q)) p.1 refl
      by_kind (sorts.lists_over x) q (inr p) = of_row (cons_row x s) (cons_there x s (c.0, c.1, q)) p.1 refl
      by_kind sorts.without_constructors q p = absurd p
      by_kind (sorts.by_declarations fs) q p = of_declared fs (ap constructors_of q) p
      by_kind (sorts.structured fs) q p = of_declared fs (ap constructors_of q) p
