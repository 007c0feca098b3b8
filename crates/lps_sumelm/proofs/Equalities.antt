-- Which functions are `==`, and which terms are an `==` of two others.
use Rattle.std.proofs.Common.{◌≡◌, ◌<◌, ◌==◌, ℕ, zero, suc, true, false, List, [], ◌∷◌, map, length, refl, sym, ap, ◌∙◌, subst, Some, None, arith}
use Rattle.std.specs.Prelude.{◌↔◌, IsTrue, IfSome, slice_get}
use Rattle.std.proofs.lemmas.Bool.Decides.{Decides-eqb}
use Rattle.std.proofs.lemmas.List.{length-map}
use Rattle.std.proofs.lemmas.Option.{slice_get_within}
use Rattle.bisim_laws.proofs.Firing.{contains_first}
use Rattle.data_theory.specs.declared.ids.FunId.{FunId}
use Rattle.data_theory.specs.declared.ids.SortId.{SortId}
use Rattle.data_theory.specs.declared.ids.TermId.{TermId}
use Rattle.data_theory.specs.declared.words.Word.TheVariants as words
use Rattle.data_theory.specs.declared.rows.Row.TheVariants as rows
use Rattle.data_theory.specs.Table.{bool_sort, sort_rows}
use Rattle.data_theory.specs.Terms.{Sort, equality, Term, application}
use Rattle.data_theory.specs.Functions.{Function, arguments_of}
use Rattle.data_theory.specs.Rows.{row_text}
use Rattle.data_theory.specs.Signature.{Sig, IsFun}
use Rattle.data_theory.specs.SignatureLaws.{RowStands}
use Rattle.data_theory.specs.WholeSignatures.{IsSignature}
use Rattle.data_theory.specs.Declarations.{argument_sorts}
use Rattle.data_theory.specs.IdData.{data_meant}
use Rattle.data_theory.specs.IdTerms.{sort_under, symbol_under}
use Rattle.data_theory.specs.IdTrees.{Tree}
use Rattle.data_theory.proofs.IdSymbolLemmas.{different_functions_mean_different_symbols, symbol_fits}
use Rattle.data_theory.proofs.StandingLemmas.{functions_over_sorts_stand}
use Rattle.term_pool.specs.declared.terms.Head.{Head}
use Rattle.term_pool.specs.declared.terms.Head.TheVariants.{Fun}
use Rattle.term_pool.specs.HeadTrees.{written_tree, tree_at, trees_at}
use Rattle.data_rewriter.specs.Standing.{term_at, listed_at, terms_of}
use Rattle.data_rewriter.proofs.Standings.{application_at}
use Rattle.lps_sumelm.specs.Solutions.{solution}

-- ---- functions
module _ (g : Sig) (stands : IsSignature g) where
  equal_stands : (s : SortId) → s.0 < length g.sorts → RowStands g (rows.Two words.Equal s s bool_sort)
  unfolding sort_rows
  equal_stands s h = functions_over_sorts_stand g stands s h (rows.Two words.Equal s s bool_sort) (contains_first (rows.Two words.Equal s s bool_sort) (rows.Two words.Different s s bool_sort ∷ rows.Three words.If bool_sort s s s ∷ []))

  -- the one that is found for a sort is `==` over it, and no other one is
  pub found_tells : (f k : FunId) (s : SortId) → f.0 < length g.functions → s.0 < length g.sorts → IsFun g (row_text (rows.Two words.Equal s s bool_sort)) (s ∷ s ∷ []) k.0
      → IsTrue (k.0 == f.0) ↔ (symbol_under g f ≡ equality (sort_under g s))
  found_tells f k s l h is =
      let r = equal_stands s h in
      let same : k.0 ≡ r.0 = r.1.alone k.0 is in
      let within : r.0 < length g.functions = slice_get_within g.functions r.0 _ r.1.stands in (
        λ t. ap (λ n. symbol_under g (record { 0 = n })) (sym ((Decides-eqb k.0 f.0).0 t) ∙ same) ∙ r.1.means,
        λ e. (Decides-eqb k.0 f.0).1 (same ∙ sym (ap (λ (z : FunId). z.0) (different_functions_mean_different_symbols g stands.table f (record { 0 = r.0 }) l within (e ∙ sym r.1.means)))),
      )

  pub not_found : (s : SortId) → s.0 < length g.sorts → ((k : ℕ) → IsFun g (row_text (rows.Two words.Equal s s bool_sort)) (s ∷ s ∷ []) k → ⊥) → ⊥
  not_found s h n = let r = equal_stands s h in n r.0 r.1.found

  -- ---- the sorts of its arguments
  stands_there : {A : Type 0} (xs : List A) (i : ℕ) → i < length xs → (x : A) × (slice_get xs i ≡ Some x)
  stands_there [] i l = let never : ⊥ = omega (arith, l) in absurd never
  stands_there (x ∷ xs) zero l = (x, refl)
  stands_there (x ∷ xs) (suc i) l = stands_there xs i (omega (arith, l))

  pub record HasArguments (f : FunId) (ss : List SortId) : Type 0 where
    pub entry : Function
    pub at : slice_get g.functions f.0 ≡ Some entry
    pub sorts : arguments_of entry ≡ ss

  arguments_there : (f : FunId) (ss : List SortId) → f.0 < length g.functions → IfSome (slice_get g.functions f.0) (λ (e : Function). arguments_of e ≡ ss) → HasArguments f ss
  arguments_there f ss l h = let r = stands_there g.functions f.0 l in record { entry = r.0; at = r.1; sorts = subst (λ o. IfSome o (λ (e : Function). arguments_of e ≡ ss)) r.1 h }

  -- an `==` has two arguments of one sort
  its_sorts : (f : FunId) (ss : List SortId) (a : Sort) → HasArguments f ss → symbol_under g f ≡ equality a → map (sort_under g) ss ≡ a ∷ a ∷ []
  its_sorts f ss a h e =
      let fits = symbol_fits g stands.table f h.entry h.at in
      ap (map (sort_under g)) (sym h.sorts) ∙ sym fits.1 ∙ ap (λ y. argument_sorts (data_meant g) y) e

  two_arguments : (f : FunId) (ss : List SortId) (a : Sort) → HasArguments f ss → symbol_under g f ≡ equality a → length ss ≡ 2
  two_arguments f ss a h e = sym (length-map ss (sort_under g)) ∙ ap length (its_sorts f ss a h e)

  -- a function with another number of arguments is none
  pub not_two : (f : FunId) (ss : List SortId) → f.0 < length g.functions → IfSome (slice_get g.functions f.0) (λ (e : Function). arguments_of e ≡ ss) → (length ss ≡ 2 → ⊥) → IsTrue false ↔ ((a : Sort) × (symbol_under g f ≡ equality a))
  not_two f ss l h n = (λ e. absurd (differ e), λ w. absurd (n (two_arguments f ss w.0 (arguments_there f ss l h) w.1)))
    where
      differ : false ≡ true → ⊥
      differ e = cc

-- ---- terms
other_length : (xs : List ℕ) (a : Sort) (us : List Term) → (length us ≡ 2 → ⊥) → solution xs (application (equality a) (terms_of us)) ≡ None
other_length xs a [] n = refl
other_length xs a (t ∷ []) n = refl
other_length xs a (t ∷ u ∷ []) n = absurd (n refl)
other_length xs a (t ∷ u ∷ v ∷ us) n = refl

module _ (g : Sig) (ts : List Tree) (part : TermId) (ids : List TermId) where
  pub no_sides : (h : Head) (f : FunId) (a : Sort) → h ≡ Fun f → tree_at ts part ≡ written_tree h (trees_at ts ids) → symbol_under g f ≡ equality a → (length ids ≡ 2 → ⊥) → (xs : List ℕ) → solution xs (term_at g ts part) ≡ None
  no_sides h f a q e is n xs =
      subst (λ t. solution xs t ≡ None)
      (sym (application_at g ts part f ids (e ∙ ap (λ (x : Head). written_tree x (trees_at ts ids)) q) ∙ ap (λ y. application y (terms_of (listed_at g ts ids))) is))
      (other_length xs a (listed_at g ts ids) (λ l. n (sym (length-map ids (term_at g ts)) ∙ l)))
