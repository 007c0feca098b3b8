-- The sorts of the trees of chains, of numbers and of variables.
use Rattle.std.proofs.Common.{◌≡◌, ◌<◌, ◌≤◌, ◌==◌, ℕ, Bool, true, false, inl, List, [], ◌∷◌, ◌++◌, map, get_or, refl, sym, ap, ◌∙◌, subst, arith, cond, if◌then◌else◌, Some, lit<}
use Rattle.std.specs.Prelude.{slice_get, pos, ◌≤ℤ◌}
use Rattle.std.specs.List.{All, AllByRecursion}
use Rattle.std.proofs.lemmas.Bool.Decides.{Decides-eqb}
use Rattle.std.proofs.lemmas.Int.{ints}
use Rattle.std.proofs.lemmas.List.Elements.{All-head, All-tail}
use Rattle.std.proofs.lemmas.Option.{slice_get-get_or}
use Rattle.data_theory.specs.declared.ids.SortId.{SortId}
use Rattle.data_theory.specs.declared.ids.VarId.{VarId}
use Rattle.data_theory.specs.Functions.{Function, arguments_of}
use Rattle.data_theory.specs.Rows.{built_in, built_ins}
use Rattle.data_theory.specs.Table.{first_rows, truth_rows, sort_rows, first_table, pos_sort, bool_sort}
use Rattle.data_theory.specs.declared.words.Word.TheVariants as words
use Rattle.data_theory.specs.declared.rows.Row.TheVariants as rows
use Rattle.data_theory.specs.Signature.{Sig}
use Rattle.data_theory.specs.Complete.{IsComplete}
use Rattle.data_theory.specs.IdTrees.{Tree, variable, numeral, function, none, more, trees_of}
use Rattle.data_theory.specs.IdTreeSorts.{IsVariableOf, HasTreeSort, HaveTreeSorts}
use Rattle.lps_core.specs.Fitting.{IsVariable, sort_of_variable}
use Rattle.lps_core.specs.NumberTrees.{number_tree, equal_function, equals_number}
use Rattle.lps_core.specs.SealedTrees.{phase_tree}
use Rattle.lps_core.specs.TreeConditions.{and_function, and_tree, tree_parts, is_true_tree, trees_without_true, conjunction_tree}
use Rattle.lps_core.proofs.TreeParts.{two_unmerged}

-- ---- the table
true_at : (texts : List (List ℕ)) (new : List Function) → slice_get (built_ins texts first_table ++ new) 6 ≡ Some (built_in texts (rows.Constant words.True bool_sort))
unfolding first_table first_rows truth_rows sort_rows
true_at texts new = refl

and_at : (texts : List (List ℕ)) (new : List Function) → slice_get (built_ins texts first_table ++ new) 9 ≡ Some (built_in texts (rows.Two words.And bool_sort bool_sort bool_sort))
unfolding first_table first_rows truth_rows sort_rows
and_at texts new = refl

pub equal_at : (texts : List (List ℕ)) (new : List Function) → slice_get (built_ins texts first_table ++ new) 15 ≡ Some (built_in texts (rows.Two words.Equal pos_sort pos_sort bool_sort))
unfolding first_table first_rows truth_rows sort_rows
equal_at texts new = refl

pub read_at : (g : Sig) → IsComplete g → (k : ℕ) (f : Function) → ((new : List Function) → slice_get (built_ins g.texts first_table ++ new) k ≡ Some f) → slice_get g.functions k ≡ Some f
read_at g c k f h = ap (λ fs. slice_get fs k) c.first_functions_stay.1 ∙ h c.first_functions_stay.0

one_function : {e f : Function} → Some e ≡ Some f → e ≡ f
one_function q = cc

-- ---- conditions
abbrev pub IsTruth : Sig → Tree → Type 0
IsTruth g t = HasTreeSort g t bool_sort

module _ (g : Sig) (complete : IsComplete g) where
  sides_sorted : (t u : Tree) → HasTreeSort g (and_tree t u) bool_sort → IsTruth g t × IsTruth g u
  sides_sorted t u h =
      let same : h.0 ≡ built_in g.texts (rows.Two words.And bool_sort bool_sort bool_sort) = one_function (sym h.1 ∙ read_at g complete 9 _ (and_at g.texts)) in
      let k : HaveTreeSorts g (more t (more u none)) (bool_sort ∷ bool_sort ∷ []) = subst (λ (z : Function). HaveTreeSorts g (more t (more u none)) (arguments_of z)) same h.3 in
      (k.0, k.1.0)

  and_sorted : (t u : Tree) → IsTruth g t → IsTruth g u → IsTruth g (and_tree t u)
  and_sorted t u h k = (built_in g.texts (rows.Two words.And bool_sort bool_sort bool_sort), read_at g complete 9 _ (and_at g.texts), refl, (h, (k, tt)), two_unmerged and_function t u)

  pub parts_sorted : (t : Tree) → IsTruth g t → AllByRecursion (IsTruth g) (tree_parts t)
  parts_sorted (variable v) h = (h, tt)
  parts_sorted (numeral s z) h = (h, tt)
  parts_sorted (function f none) h = (h, tt)
  parts_sorted (function f (more t none)) h = (h, tt)
  parts_sorted (function f (more t (more u none))) h = by_test (f.0 == 9) (λ q. subst (λ n. IsTruth g (function (record { 0 = n }) (more t (more u none)))) ((Decides-eqb f.0 9).0 q) h) (λ k. parts_sorted u k)
    where
      by_test : (b : Bool) → (b ≡ true → IsTruth g (and_tree t u)) → (IsTruth g u → AllByRecursion (IsTruth g) (tree_parts u)) → AllByRecursion (IsTruth g) (cond b (t ∷ tree_parts u) (function f (more t (more u none)) ∷ []))
      by_test true s r = let k = sides_sorted t u (s refl) in (k.0, r k.1)
      by_test false s r = (h, tt)
  parts_sorted (function f (more t (more u (more v ts)))) h = (h, tt)

  pub without_sorted : (ts : List Tree) → AllByRecursion (IsTruth g) ts → AllByRecursion (IsTruth g) (trees_without_true ts)
  without_sorted [] h = tt
  without_sorted (t ∷ ts) h = elim (is_true_tree t) as (λ b. AllByRecursion (IsTruth g) (if b then trees_without_true ts else t ∷ trees_without_true ts)) [ true ↦ without_sorted ts h.1 | false ↦ (h.0, without_sorted ts h.1) ]

  pub chain_sorted : (ts : List Tree) → AllByRecursion (IsTruth g) ts → IsTruth g (conjunction_tree ts)
  chain_sorted [] h = (built_in g.texts (rows.Constant words.True bool_sort), read_at g complete 6 _ (true_at g.texts), refl, tt, refl)
  chain_sorted (t ∷ []) h = h.0
  chain_sorted (t ∷ u ∷ ts) h = and_sorted t (conjunction_tree (u ∷ ts)) h.0 (chain_sorted (u ∷ ts) h.1)

  -- ---- numbers
  pub number_sorted : (i : ℕ) → 1 ≤ i → i < 340282366920938463463374607431768211456 → HasTreeSort g (number_tree i) pos_sort
  number_sorted i one few = (refl, (inl (refl, let l : pos 1 ≤ℤ pos i = omega (arith, ints, one) in l), few))

  pub equals_number_sorted : (t : Tree) (i : ℕ) → 1 ≤ i → i < 340282366920938463463374607431768211456 → HasTreeSort g t pos_sort → IsTruth g (equals_number t i)
  equals_number_sorted t i one few k = (built_in g.texts (rows.Two words.Equal pos_sort pos_sort bool_sort), read_at g complete 15 _ (equal_at g.texts), refl, (k, (number_sorted i one few, tt)), two_unmerged equal_function t (number_tree i))

  pub phase_sorted : (v : VarId) (i : ℕ) → 1 ≤ i → i < 340282366920938463463374607431768211456 → IsVariableOf g v pos_sort → IsTruth g (phase_tree v i)
  phase_sorted v i one few k = equals_number_sorted (variable v) i one few k

  pub sealed_condition_sorted : (v : VarId) (t : Tree) → IsVariableOf g v pos_sort → IsTruth g t → IsTruth g (conjunction_tree (phase_tree v 1 ∷ trees_without_true (tree_parts t)))
  sealed_condition_sorted v t k h = chain_sorted (phase_tree v 1 ∷ trees_without_true (tree_parts t)) (phase_sorted v 1 (omega arith) (lit< tt) k, without_sorted (tree_parts t) (parts_sorted t h))

-- ---- variables
pub is_of : (g : Sig) (x : VarId) → IsVariable g x → IsVariableOf g x (sort_of_variable g x)
is_of g x w = (get_or g.variables x.0 (record { name = record { 0 = 0 }; sort = bool_sort }), slice_get-get_or g.variables x.0 (record { name = record { 0 = 0 }; sort = bool_sort }) w, refl)

pub variables_sorted : (g : Sig) (xs : List VarId) → All (IsVariable g) xs → HaveTreeSorts g (trees_of (map variable xs)) (map (sort_of_variable g) xs)
variables_sorted g [] h = tt
variables_sorted g (x ∷ xs) h = (is_of g x (All-head (IsVariable g) x xs h), variables_sorted g xs (All-tail (IsVariable g) x xs h))

pub tree_sorts_append : (g : Sig) (ts us : List Tree) (ss rs : List SortId) → HaveTreeSorts g (trees_of ts) ss → HaveTreeSorts g (trees_of us) rs → HaveTreeSorts g (trees_of (ts ++ us)) (ss ++ rs)
tree_sorts_append g [] us [] rs h k = k
tree_sorts_append g [] us (s ∷ ss) rs h k = absurd h
tree_sorts_append g (t ∷ ts) us [] rs h k = absurd h
tree_sorts_append g (t ∷ ts) us (s ∷ ss) rs h k = (h.0, tree_sorts_append g ts us ss rs h.1 k)
