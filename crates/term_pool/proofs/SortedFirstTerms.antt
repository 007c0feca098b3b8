-- The term of a first value has its sort.
use Rattle.std.proofs.Common.{◌≡◌, ◌==◌, ℕ, Bool, true, false, cond, List, [], ◌∷◌, length, take, Option, Some, refl, sym, ◌∙◌, subst}
use Rattle.std.specs.Prelude.{slice_get, unwrap_or, is_some}
use Rattle.std.specs.List.{All, Contains}
use Rattle.std.specs.Map.{lookup}
use Rattle.std.proofs.lemmas.Bool.Decides.{Decides-eqb}
use Rattle.std.proofs.lemmas.List.Elements.{All-head, All-tail, All-contains, All-weaker}
use Rattle.data_theory.specs.declared.ids.SortId.{SortId}
use Rattle.data_theory.specs.declared.ids.FunId.{FunId}
use Rattle.data_theory.specs.Functions.{arguments_of}
use Rattle.data_theory.specs.Signature.{Sig}
use Rattle.data_theory.specs.IdTerms.{IsGrown}
use Rattle.data_theory.specs.IdTrees.{Tree, Trees, function, none, trees_of, apply_tree}
use Rattle.data_theory.specs.IdTreeSorts.{HasTreeSort, HaveTreeSorts}
use Rattle.data_theory.specs.WholeSignatures.{IsSignature}
use Rattle.data_theory.proofs.PlaceLemmas.{read_contained, contains_read, read_taken}
use Rattle.term_pool.specs.declared.first_values.First.{First}
use Rattle.term_pool.specs.declared.first_values.Root.TheVariants.{Constructor, Constant}
use Rattle.term_pool.specs.ConstructorValues.{ConstructorValue, a_number, built, a_constant, IsFirstValue, AreFirstOf}
use Rattle.term_pool.specs.FirstValues.{root_of, AreFirstValues}
use Rattle.term_pool.specs.FirstTerms.{HasRootAt, IsOrdered, IsReady, function_arguments, sorts_under, IsTreeOf, of_number, of_constructor, of_constant, AreTreesOf, no_trees, tree_then}
use Rattle.term_pool.specs.Constants.{is_listed, constant_of, IsConstantOf, AreConstants, trees_with}
use Rattle.term_pool.proofs.RowsFound.{constructors_give_their_sorts}
use Rattle.term_pool.proofs.ConstructorTrees.{constructor_unmerged}
use Rattle.term_pool.proofs.DeclaredConstants.{function_stays}
use Rattle.term_pool.proofs.FirstTermLemmas.{value_of, arguments_are, number_ready, under_root, same_trees}
use Rattle.term_pool.proofs.FirstValueLemmas.{arguments_first}

-- the constant that is listed for a sort is one of the sort
pub listed_constant : (g : Sig) (cs : List (SortId × FunId)) → All (λ (c : SortId × FunId). IsConstantOf g c.0 c.1) cs → (d : SortId) → is_listed cs d ≡ true → IsConstantOf g d (constant_of cs d)
listed_constant g [] each d e = absurd cc
listed_constant g (c ∷ cs) each d e = by_test (d.0 == c.0.0) refl (listed_constant g cs (All-tail (λ (x : SortId × FunId). IsConstantOf g x.0 x.1) c cs each) d) e
  where
    by_test : (b : Bool) → (d.0 == c.0.0) ≡ b → (is_listed cs d ≡ true → IsConstantOf g d (constant_of cs d))
        → is_some (cond b (Some c.1) (lookup (λ (x : SortId). d.0 == x.0) cs)) ≡ true → IsConstantOf g d (unwrap_or (cond b (Some c.1) (lookup (λ (x : SortId). d.0 == x.0) cs)) (record { 0 = 0 }))
    by_test true same rest e =
        let number = (Decides-eqb d.0 c.0.0).0 same in
        subst (λ (x : SortId). IsConstantOf g x c.1) (λ i. record { 0 = sym number i }) (All-head (λ (x : SortId × FunId). IsConstantOf g x.0 x.1) c cs each)
    by_test false other rest e = rest e

contains_taken : {A : Type 0} (n : ℕ) (xs : List A) (x : A) → Contains (take n xs) x → Contains xs x
contains_taken n xs x has = let at = read_contained (take n xs) x has in contains_read xs at.0 x (read_taken n xs at.0 x at.1).1

module _ (g h : Sig) (stands : IsSignature g) (grown : IsGrown g h) (firsts : List (Option First)) (table : AreFirstValues g firsts)
    (cs : List (SortId × FunId)) (constants : AreConstants h cs) (sorts : List SortId) (ready : All (IsReady (length h.functions) firsts cs) sorts) (ordered : IsOrdered h.functions firsts sorts) where
  -- the sorts of the arguments are among these too
  arguments_among : (s : SortId) (f : FunId) → Contains sorts s → HasRootAt firsts s (Constructor f) → All (Contains sorts) (function_arguments h.functions f)
  arguments_among s f has at =
      let place = read_contained sorts s has in
      let under : sorts_under h.functions firsts s ≡ function_arguments h.functions f = under_root h.functions firsts s (Constructor f) at in
      All-weaker (Contains (take place.0 sorts)) (Contains sorts) (λ a. contains_taken place.0 sorts a) (function_arguments h.functions f) (subst (All (Contains (take place.0 sorts))) under (ordered place.0 s place.1))

  built_sorted : (s : SortId) (t : Tree) (f : FunId) (ts : List Tree) → HasRootAt firsts s (Constructor f) → HaveTreeSorts h (trees_of ts) (function_arguments h.functions f) → AreTreesOf h.functions firsts cs (function_arguments h.functions f) ts
      → t ≡ apply_tree f (trees_of ts) → (v : ConstructorValue) → IsFirstValue g s v → root_of v ≡ Constructor f → HasTreeSort h t s
  built_sorted s t f ts at fit args is (built k vs) first root =
      let fun : k ≡ f = cc in
      let part = first.of_sort.2 in
      let there : slice_get h.functions f.0 ≡ Some part.0 = subst (λ (x : FunId). slice_get h.functions x.0 ≡ Some part.0) fun (function_stays g h grown k.0 part.0 part.1) in
      let listed : function_arguments h.functions f ≡ arguments_of part.0 = arguments_are g stands firsts table h.functions f part.0 there in
      let same : trees_of ts ≡ trees_with (constant_of cs) vs = same_trees g stands firsts table h.functions (function_stays g h grown) cs (function_arguments h.functions f) ts args vs (subst (AreFirstOf g vs) (sym listed) (arguments_first g s k vs first part.0 part.1)) in
      let kept : apply_tree f (trees_of ts) ≡ function f (trees_of ts) =
      subst (λ (us : Trees). apply_tree f us ≡ function f us) (sym same) (subst (λ (x : FunId). apply_tree x (trees_with (constant_of cs) vs) ≡ function x (trees_with (constant_of cs) vs)) fun (constructor_unmerged g stands (constant_of cs) s k vs first.of_sort)) in
      let result : part.0.result ≡ s = constructors_give_their_sorts g stands s first.of_sort.0 k part.0 first.of_sort.1 part.1 in
      subst (λ (x : Tree). HasTreeSort h x s) (sym (is ∙ kept)) (part.0, there, result, subst (HaveTreeSorts h (trees_of ts)) listed fit, kept)
  built_sorted s t f ts at fit args is (a_number a z) first root = absurd cc
  built_sorted s t f ts at fit args is (a_constant d) first root = absurd cc

  mutual
    pub tree_sorted : (s : SortId) (t : Tree) → Contains sorts s → IsTreeOf h.functions firsts cs s t → HasTreeSort h t s
    tree_sorted s t has (of_number at is) = subst (λ (x : Tree). HasTreeSort h x s) (sym is) (refl, number_ready g stands firsts table s at)
    tree_sorted s t has (of_constructor f ts at args is) =
        let v = value_of g stands firsts table s (Constructor f) at in
        built_sorted s t f ts at (trees_sorted (function_arguments h.functions f) ts (arguments_among s f has at) args) args is v.0 v.1 v.2
    tree_sorted s t has (of_constant at is) =
        let one = listed_constant h cs constants.each s ((All-contains (IsReady (length h.functions) firsts cs) sorts s ready has).root Constant at) in
        let e = one.1 in
        let none_there : HaveTreeSorts h none (arguments_of e.0) = subst (HaveTreeSorts h none) (sym e.3) tt in
        subst (λ (x : Tree). HasTreeSort h x s) (sym is) (e.0, e.1, e.4, none_there, refl)

    trees_sorted : (ss : List SortId) (ts : List Tree) → All (Contains sorts) ss → AreTreesOf h.functions firsts cs ss ts → HaveTreeSorts h (trees_of ts) ss
    trees_sorted [] [] among no_trees = tt
    trees_sorted (s ∷ ss) (t ∷ ts) among (tree_then one rest) = (tree_sorted s t (All-head (Contains sorts) s ss among) one, trees_sorted ss ts (All-tail (Contains sorts) s ss among) rest)
