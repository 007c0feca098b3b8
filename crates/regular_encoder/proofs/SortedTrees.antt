-- The sorts of the trees of an encoding.
use Rattle.std.proofs.Common.{◌≡◌, ◌<◌, ◌≤◌, ℕ, List, [], ◌∷◌, ◌++◌, map, length, refl, sym, ap, ap₂, ◌∙◌, subst, arith, cond, ⊎_elim, Option, Some, None}
use Rattle.std.specs.Prelude.{option_to_list}
use Rattle.std.specs.List.{All, AllZip, AllByRecursion}
use Rattle.std.proofs.lemmas.Bool.Decides.{eqb_tells}
use Rattle.std.proofs.lemmas.List.{length-append}
use Rattle.std.proofs.lemmas.List.Elements.{All-head, All-tail}
use Rattle.data_theory.specs.declared.ids.SortId.{SortId}
use Rattle.data_theory.specs.declared.ids.VarId.{VarId}
use Rattle.data_theory.specs.declared.signature.Variable.{Variable}
use Rattle.data_theory.specs.Table.{pos_sort, bool_sort}
use Rattle.data_theory.specs.Terms.{boolean, positive}
use Rattle.data_theory.specs.Sorts.{first_sorts}
use Rattle.data_theory.specs.Signature.{Sig}
use Rattle.data_theory.specs.Complete.{IsComplete}
use Rattle.data_theory.specs.IdTables.{IsTable}
use Rattle.data_theory.specs.IdTrees.{Tree, variable, trees_of}
use Rattle.data_theory.specs.IdTreeSorts.{IsVariableOf, HasTreeSort, HaveTreeSorts}
use Rattle.data_theory.specs.IdTerms.{sort_under}
use Rattle.data_theory.proofs.IdSortLemmas.{same_meant_sort}
use Rattle.process_terms.specs.Meanings.{bound_at}
use Rattle.process_terms.specs.SignatureEntries.{entries_of}
use Rattle.lps_core.specs.Fitting.{IsVariable, sort_of_variable}
use Rattle.lps_core.specs.NumberTrees.{number_tree}
use Rattle.lps_core.specs.TreeConditions.{tree_parts, trees_without_true, conjunction_tree}
use Rattle.lps_core.specs.TreeSummands.{bound_tree}
use Rattle.lps_core.proofs.MeantParts.{positive_meant}
use Rattle.lps_core.proofs.SortedTrees.{IsTruth, parts_sorted, without_sorted, chain_sorted, number_sorted, equals_number_sorted, is_of}
use Rattle.lps_core.proofs.Staying.{read_mapped, sort_is_within}
use Rattle.regular_encoder.specs.TreeEncoding.{tree_control_parts, tree_control_of}

-- ---- conditions
module _ (g : Sig) (complete : IsComplete g) where
  control_part_sorted : (o : Option VarId) (i : ℕ) (ts : List Tree) → 1 ≤ i → i < 340282366920938463463374607431768211456 → ((x : VarId) → o ≡ Some x → IsVariableOf g x pos_sort) → AllByRecursion (IsTruth g) ts
      → AllByRecursion (IsTruth g) (tree_control_parts o i ++ ts)
  control_part_sorted None i ts one few v h = h
  control_part_sorted (Some x) i ts one few v h =
      (equals_number_sorted g complete (variable x) i one few (v x refl), h)

  pub condition_sorted : (o : Option VarId) (i : ℕ) (t : Tree) → 1 ≤ i → i < 340282366920938463463374607431768211456 → ((x : VarId) → o ≡ Some x → IsVariableOf g x pos_sort) → IsTruth g t
      → IsTruth g (conjunction_tree (tree_control_parts o i ++ trees_without_true (tree_parts t)))
  condition_sorted o i t one few v h = chain_sorted g complete (tree_control_parts o i ++ trees_without_true (tree_parts t)) (control_part_sorted o i (trees_without_true (tree_parts t)) one few v (without_sorted g complete (tree_parts t) (parts_sorted g complete t h)))

  pub control_sorted : (o : Option VarId) (i : ℕ) (ts : List Tree) (xs : List VarId) → 1 ≤ i → i < 340282366920938463463374607431768211456 → ((x : VarId) → o ≡ Some x → sort_of_variable g x ≡ pos_sort)
      → HaveTreeSorts g (trees_of ts) (map (sort_of_variable g) xs) → HaveTreeSorts g (trees_of (tree_control_of o i ++ ts)) (map (sort_of_variable g) (option_to_list o ++ xs))
  control_sorted None i ts xs one few v h = h
  control_sorted (Some x) i ts xs one few v h = (subst (λ s. HasTreeSort g (number_tree i) s) (sym (v x refl)) (number_sorted g complete i one few), h)

-- ---- variables
one_variable : {u w : Variable} → Some u ≡ Some w → u ≡ w
one_variable q = cc

one_sort : (g : Sig) (x : VarId) (a b : SortId) → IsVariableOf g x a → IsVariableOf g x b → a ≡ b
one_sort g x a b p q = sym p.2 ∙ ap (λ (y : Variable). y.sort) (one_variable (sym p.1 ∙ q.1)) ∙ q.2

-- trees of their sorts in place of variables
pub bound_sorted : (g : Sig) (xs : List VarId) (us : List Tree) → All (IsVariable g) xs → HaveTreeSorts g (trees_of us) (map (sort_of_variable g) xs) → (v : VarId) (s : SortId) → IsVariableOf g v s → HasTreeSort g (bound_tree xs us v) s
bound_sorted g [] us w h v s i = i
bound_sorted g (x ∷ xs) [] w h v s i = absurd h
bound_sorted g (x ∷ xs) (u ∷ us) w h v s i = ⊎_elim
    (λ k. subst (λ b. HasTreeSort g (cond b u (bound_tree xs us v)) s) (sym k.0)
    (subst (λ z. HasTreeSort g u z) (one_sort g x (sort_of_variable g x) s (is_of g x (All-head (IsVariable g) x xs w)) (subst (λ n. IsVariableOf g (record { 0 = n }) s) (sym k.1) i)) h.0))
    (λ k. subst (λ b. HasTreeSort g (cond b u (bound_tree xs us v)) s) (sym k.0) (bound_sorted g xs us (All-tail (IsVariable g) x xs w) h.1 v s i))
    (eqb_tells x.0 v.0)

pub columns_sorted : (g : Sig) (xs : List VarId) (us : List Tree) → All (IsVariable g) xs → HaveTreeSorts g (trees_of us) (map (sort_of_variable g) xs) → (cs : List VarId) → All (IsVariable g) cs
    → HaveTreeSorts g (trees_of (map (bound_tree xs us) cs)) (map (sort_of_variable g) cs)
columns_sorted g xs us w h [] k = tt
columns_sorted g xs us w h (c ∷ cs) k = (bound_sorted g xs us w h c (sort_of_variable g c) (is_of g c (All-head (IsVariable g) c cs k)), columns_sorted g xs us w h cs (All-tail (IsVariable g) c cs k))

-- ---- what sorts mean tells them apart
one_sort_at_least : (g : Sig) → IsComplete g → pos_sort.0 < length g.sorts
one_sort_at_least g c =
    let e = ap length c.first_sorts_stay.1 ∙ length-append first_sorts c.first_sorts_stay.0 in
    let f : length first_sorts ≡ 4 = refl in
    omega (arith, e, f)

module _ (g : Sig) (table : IsTable g) (complete : IsComplete g) where
  pub sort_meant : (x : VarId) → IsVariable g x → (bound_at (entries_of g []) x).sort ≡ sort_under g (sort_of_variable g x)
  sort_meant x w = read_mapped (λ (v : Variable). sort_under g v.sort) g.variables x.0 boolean (record { name = record { 0 = 0 }; sort = bool_sort }) w

  pub positive_sort : (x : VarId) → IsVariable g x → (bound_at (entries_of g []) x).sort ≡ positive → sort_of_variable g x ≡ pos_sort
  positive_sort x w e = same_meant_sort g.sorts table.sorts (sort_of_variable g x) pos_sort (sort_is_within g x complete w) (one_sort_at_least g complete) (sym (sort_meant x w) ∙ e ∙ sym (positive_meant g table))

  pub place_sorts : (params place : List VarId) → All (IsVariable g) params → All (IsVariable g) place → AllZip (λ (p c : VarId). (bound_at (entries_of g []) p).sort ≡ (bound_at (entries_of g []) c).sort) params place
      → map (sort_of_variable g) place ≡ map (sort_of_variable g) params
  place_sorts [] [] h k z = refl
  place_sorts [] (c ∷ place) h k z = absurd z
  place_sorts (p ∷ params) [] h k z = absurd z
  place_sorts (p ∷ params) (c ∷ place) h k z =
      let l = All-head (IsVariable g) p params h in
      let m = All-head (IsVariable g) c place k in
      ap₂ (λ s ss. s ∷ ss)
      (same_meant_sort g.sorts table.sorts (sort_of_variable g c) (sort_of_variable g p) (sort_is_within g c complete m) (sort_is_within g p complete l) (sym (sort_meant c m) ∙ sym z.0 ∙ sort_meant p l))
      (place_sorts params place (All-tail (IsVariable g) p params h) (All-tail (IsVariable g) c place k) z.1)
