-- A tree has the sort of the term that it means.
use Rattle.std.proofs.Common.{◌≡◌, ◌<◌, ◌||◌, ◌&&◌, inl, inr, ℕ, zero, suc, Bool, true, false, cond, List, [], ◌∷◌, map, length, refl, sym, ap, subst, ◌∙◌, Some, arith}
use Rattle.std.specs.Prelude.{slice_get, ℤ, pos}
use Rattle.std.specs.List.{All}
use Rattle.std.proofs.lemmas.List.{length-append}
use Rattle.std.proofs.lemmas.List.Elements.{All-nil, All-head, All-tail}
use Rattle.std.proofs.lemmas.Option.{slice_get_within, get_or_from_slice_get}
use lib.Signed.{lt_z}
use lib.IntN.{neg_ℤ}
use Rattle.data_theory.specs.declared.ids.SortId.{SortId}
use Rattle.data_theory.specs.declared.ids.FunId.{FunId}
use Rattle.data_theory.specs.declared.signature.Variable.{Variable}
use Rattle.data_theory.specs.Terms.{Sort, boolean, positive, natural, integer, list, named}
use Rattle.data_theory.specs.Declarations.{Declares, IsNumberOf, HasSort, HaveSorts}
use Rattle.data_theory.specs.Functions.{Function, arguments_of}
use Rattle.data_theory.specs.Sorts.{first_sorts}
use Rattle.data_theory.specs.Table.{bool_sort, pos_sort, nat_sort, int_sort}
use Rattle.data_theory.specs.Signature.{Sig}
use Rattle.data_theory.specs.Complete.{IsComplete, IsFunctionWithin}
use Rattle.data_theory.specs.WholeSignatures.{IsSignature}
use Rattle.data_theory.specs.IdData.{data_meant}
use Rattle.data_theory.specs.IdTrees.{Tree, Trees, variable, numeral, function, none, more, is_over, is_minus, apply_tree}
use Rattle.data_theory.specs.IdTreeSorts.{IsNumberIn, HasTreeSort, HaveTreeSorts}
use Rattle.data_theory.specs.IdTerms.{sort_under, term_under, terms_under, variable_sorts, IsTreeWithin, AreTreesWithin}
use Rattle.lps_core.proofs.Members.{all_at}
use Rattle.data_theory.proofs.IdSortLemmas.{same_meant_sort}
use Rattle.data_theory.proofs.IdSymbolLemmas.{positive_is, natural_is, integer_is, positive_within, natural_within, integer_within, symbol_fits}
use Rattle.data_theory.proofs.IdTermLemmas.{different_trees_mean_different_terms, merging_trees_merges_terms}

entry_there : {A : Type 0} (xs : List A) (k : ℕ) → k < length xs → (x : A) × (slice_get xs k ≡ Some x)
entry_there [] k l = let never : ⊥ = omega (arith, l) in absurd never
entry_there (x ∷ xs) zero l = (x, refl)
entry_there (x ∷ xs) (suc k) l = entry_there xs k (omega (arith, l))

-- ---- merging stays within the tables
four_sorts : (g : Sig) → IsComplete g → 3 < length g.sorts
four_sorts g c =
    let e = ap length c.first_sorts_stay.1 ∙ length-append first_sorts c.first_sorts_stay.0 in
    let f : length first_sorts ≡ 4 = refl in
    omega (arith, e, f)

within_if : (g : Sig) (b : Bool) (t u : Tree) → IsTreeWithin g t → IsTreeWithin g u → IsTreeWithin g (cond b t u)
within_if g true t u h k = h
within_if g false t u h k = k

apply_within : (g : Sig) → IsComplete g → (f : FunId) (ts : Trees) → f.0 < length g.functions → AreTreesWithin g ts → IsTreeWithin g (apply_tree f ts)
apply_within g c f none l h = (l, h)
apply_within g c f (more (numeral s z) none) l h =
    let w = four_sorts g c in
    let two : 2 < length g.sorts = omega (arith, w) in
    let alone : IsTreeWithin g (function f (more (numeral s z) none)) = (l, h) in
    within_if g (is_over 3 pos_sort f s) (numeral nat_sort z) (cond (is_over 4 nat_sort f s || is_over 5 pos_sort f s) (numeral int_sort z) (cond (is_minus f s && lt_z (pos 0) z) (numeral int_sort (neg_ℤ z)) (function f (more (numeral s z) none)))) two
    (within_if g (is_over 4 nat_sort f s || is_over 5 pos_sort f s) (numeral int_sort z) (cond (is_minus f s && lt_z (pos 0) z) (numeral int_sort (neg_ℤ z)) (function f (more (numeral s z) none))) w
    (within_if g (is_minus f s && lt_z (pos 0) z) (numeral int_sort (neg_ℤ z)) (function f (more (numeral s z) none)) w alone))
apply_within g c f (more (variable v) none) l h = (l, h)
apply_within g c f (more (function k us) none) l h = (l, h)
apply_within g c f (more (numeral s z) (more u us)) l h = (l, h)
apply_within g c f (more (variable v) (more u us)) l h = (l, h)
apply_within g c f (more (function k ws) (more u us)) l h = (l, h)

-- ---- sorts
module _ (g : Sig) (sg : IsSignature g) where
  pub sort_same : (a b : SortId) → a.0 < length g.sorts → b.0 < length g.sorts → sort_under g a ≡ sort_under g b → a ≡ b
  sort_same a b l k e = same_meant_sort g.sorts sg.table.sorts a b l k e

  declared_variable : (vs : List Variable) (v : ℕ) (s : Sort) → Declares (map (λ (y : Variable). sort_under g y.sort) vs) v s → (x : Variable) × (slice_get vs v ≡ Some x) × (sort_under g x.sort ≡ s)
  declared_variable [] v s h = absurd h
  declared_variable (y ∷ vs) zero s h = (y, refl, h)
  declared_variable (y ∷ vs) (suc v) s h = declared_variable vs v s h

  number_in : (a : SortId) (z : ℤ) → a.0 < length g.sorts → (s : Sort) → sort_under g a ≡ s → IsNumberOf s z → IsNumberIn a z
  number_in a z l positive e h = inl (sort_same a pos_sort l (positive_within g sg.table) (e ∙ sym (positive_is g sg.table)), h)
  number_in a z l natural e h = inr (inl (sort_same a nat_sort l (natural_within g sg.table) (e ∙ sym (natural_is g sg.table)), h))
  number_in a z l integer e h = inr (inr (sort_same a int_sort l (integer_within g sg.table) (e ∙ sym (integer_is g sg.table))))
  number_in a z l boolean e h = absurd h
  number_in a z l (list s) e h = absurd h
  number_in a z l (named d) e h = absurd h

  by_test : (b : Bool) (ss : List SortId) → All (λ (s : SortId). s.0 < length g.sorts) ss → All (λ (s : SortId). s.0 < length g.sorts) (cond b [] ss)
  by_test true ss h = All-nil (λ (s : SortId). s.0 < length g.sorts)
  by_test false ss h = h

  function_within : (f : FunId) (x : Function) → slice_get g.functions f.0 ≡ Some x → (x.result.0 < length g.sorts) × All (λ (s : SortId). s.0 < length g.sorts) (arguments_of x)
  function_within f x at =
      let w = all_at (IsFunctionWithin (length g.texts) (length g.sorts) (length g.functions)) g.functions f.0 x sg.complete.within.functions_within at in
      (w.gives, by_test x.is_list_constant x.sorts w.found)

  mutual
    pub tree_sorted : (t : Tree) (s : SortId) → s.0 < length g.sorts → IsTreeWithin g t → HasSort (data_meant g) (variable_sorts g) (term_under g t) (sort_under g s) → HasTreeSort g t s
    tree_sorted (variable v) s l w h =
        let r = declared_variable g.variables v.0 (sort_under g s) h in
        let d : Variable = record { name = record { 0 = 0 }; sort = bool_sort } in
        let here : r.0.sort.0 < length g.sorts = subst (λ (x : Variable). x.sort.0 < length g.sorts) (get_or_from_slice_get g.variables v.0 r.0 d r.1) (sg.complete.within.variables v.0 d (slice_get_within g.variables v.0 r.0 r.1)).1 in
        (r.0, r.1, sort_same r.0.sort s here l r.2)
    tree_sorted (numeral a z) s l w h =
        let e : a ≡ s = sort_same a s w l h.0 in
        (e, (number_in a z w (sort_under g s) h.0 h.1.0, h.1.1))
    tree_sorted (function f ts) s l w h =
        let r = entry_there g.functions f.0 w.0 in
        let fits = symbol_fits g sg.table f r.0 r.1 in
        let own = function_within f r.0 r.1 in (
          r.0,
          r.1,
          sort_same r.0.result s own.0 l (sym fits.2 ∙ h.2),
          trees_sorted ts (arguments_of r.0) own.1 w.1 (subst (λ ss. HaveSorts (data_meant g) (variable_sorts g) (terms_under g ts) ss) fits.1 h.1),
          different_trees_mean_different_terms g sg.table (apply_tree f ts) (function f ts) (apply_within g sg.complete f ts w.0 w.1) w (merging_trees_merges_terms g sg.table f ts ∙ h.3),
        )

    pub trees_sorted : (ts : Trees) (ss : List SortId) → All (λ (s : SortId). s.0 < length g.sorts) ss → AreTreesWithin g ts → HaveSorts (data_meant g) (variable_sorts g) (terms_under g ts) (map (sort_under g) ss) → HaveTreeSorts g ts ss
    trees_sorted none [] a w h = tt
    trees_sorted none (s ∷ ss) a w h = absurd h
    trees_sorted (more t ts) [] a w h = absurd h
    trees_sorted (more t ts) (s ∷ ss) a w h = (
      tree_sorted t s (All-head (λ (s : SortId). s.0 < length g.sorts) s ss a) w.0 h.0,
      trees_sorted ts ss (All-tail (λ (s : SortId). s.0 < length g.sorts) s ss a) w.1 h.1,
    )
