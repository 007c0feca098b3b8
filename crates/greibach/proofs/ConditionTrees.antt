-- What holds of conditions, holds of their parts and of a chain of them.
use Rattle.std.proofs.Common.{◌≡◌, ◌==◌, ℕ, Bool, true, false, List, [], ◌∷◌, ◌++◌, refl, sym, ap, ◌∙◌, subst, cond, if◌then◌else◌, Some}
use Rattle.std.specs.Prelude.{slice_get}
use Rattle.std.specs.List.{All, AllByRecursion}
use Rattle.std.proofs.lemmas.Bool.Decides.{Decides-eqb}
use Rattle.std.proofs.lemmas.List.Elements.{All-nil, All-cons, All-head, All-tail}
use Rattle.data_theory.specs.declared.ids.FunId.{FunId}
use Rattle.data_theory.specs.declared.ids.VarId.{VarId}
use Rattle.data_theory.specs.declared.ids.TermId.{TermId}
use Rattle.data_theory.specs.declared.words.Word.TheVariants as words
use Rattle.data_theory.specs.declared.rows.Row.TheVariants as rows
use Rattle.data_theory.specs.Functions.{Function, arguments_of}
use Rattle.data_theory.specs.Rows.{built_in, built_ins}
use Rattle.data_theory.specs.Table.{first_rows, truth_rows, sort_rows, first_table, bool_sort}
use Rattle.data_theory.specs.Environments.{IsOver}
use Rattle.data_theory.specs.Signature.{Sig}
use Rattle.data_theory.specs.Complete.{IsComplete}
use Rattle.data_theory.specs.IdTrees.{Tree, variable, numeral, function, none, more, apply_tree}
use Rattle.data_theory.specs.IdTreeSorts.{HasTreeSort, HaveTreeSorts}
use Rattle.data_theory.specs.IdTerms.{term_under}
use Rattle.term_pool.specs.HeadTrees.{tree_at, trees_at, IsIn, AreIn}
use Rattle.lps_core.specs.TreeConditions.{true_tree, and_function, and_tree, tree_parts, is_true_tree, trees_without_true, conjunction_tree}
use Rattle.lps_core.specs.TreeSummands.{numbers_of}
use Rattle.lps_core.proofs.Staying.{term_is}
use Rattle.lps_core.proofs.TreeParts.{two_unmerged}
use Rattle.proc_unfold.specs.FittingModels.{TermFits}

-- ---- the table
true_at : (texts : List (List ℕ)) (new : List Function) → slice_get (built_ins texts first_table ++ new) 6 ≡ Some (built_in texts (rows.Constant words.True bool_sort))
unfolding first_table first_rows truth_rows sort_rows
true_at texts new = refl

not_at : (texts : List (List ℕ)) (new : List Function) → slice_get (built_ins texts first_table ++ new) 8 ≡ Some (built_in texts (rows.One words.Not bool_sort bool_sort))
unfolding first_table first_rows truth_rows sort_rows
not_at texts new = refl

and_at : (texts : List (List ℕ)) (new : List Function) → slice_get (built_ins texts first_table ++ new) 9 ≡ Some (built_in texts (rows.Two words.And bool_sort bool_sort bool_sort))
unfolding first_table first_rows truth_rows sort_rows
and_at texts new = refl

read_at : (g : Sig) → IsComplete g → (k : ℕ) (f : Function) → ((new : List Function) → slice_get (built_ins g.texts first_table ++ new) k ≡ Some f) → slice_get g.functions k ≡ Some f
read_at g c k f h = ap (λ fs. slice_get fs k) c.first_functions_stay.1 ∙ h c.first_functions_stay.0

one_function : {e f : Function} → Some e ≡ Some f → e ≡ f
one_function q = cc

abbrev pub not_function : FunId
not_function = record { 0 = 8 }

pub not_unmerged : (t : Tree) → apply_tree not_function (more t none) ≡ function not_function (more t none)
not_unmerged (variable v) = refl
not_unmerged (numeral s z) = refl
not_unmerged (function f ts) = refl

-- ---- conditions over variables
module _ (g : Sig) (complete : IsComplete g) (xs : List VarId) where
  abbrev pub IsConditionTree : Tree → Type 0
  IsConditionTree t = HasTreeSort g t bool_sort × IsOver (numbers_of xs) (term_under g t)

  true_tree_holds : IsConditionTree true_tree
  true_tree_holds = ((built_in g.texts (rows.Constant words.True bool_sort), read_at g complete 6 _ (true_at g.texts), refl, tt, refl), tt)

  sides_hold : (t u : Tree) → IsConditionTree (and_tree t u) → IsConditionTree t × IsConditionTree u
  sides_hold t u h =
      let s = h.0 in
      let same : s.0 ≡ built_in g.texts (rows.Two words.And bool_sort bool_sort bool_sort) = one_function (sym s.1 ∙ read_at g complete 9 _ (and_at g.texts)) in
      let k : HaveTreeSorts g (more t (more u none)) (bool_sort ∷ bool_sort ∷ []) = subst (λ (z : Function). HaveTreeSorts g (more t (more u none)) (arguments_of z)) same s.3 in
      ((k.0, h.1.0), (k.1.0, h.1.1.0))

  and_holds : (t u : Tree) → IsConditionTree t → IsConditionTree u → IsConditionTree (and_tree t u)
  and_holds t u h k = ((built_in g.texts (rows.Two words.And bool_sort bool_sort bool_sort), read_at g complete 9 _ (and_at g.texts), refl, (h.0, (k.0, tt)), two_unmerged and_function t u), (h.1, (k.1, tt)))

  pub not_holds : (t : Tree) → IsConditionTree t → IsConditionTree (apply_tree not_function (more t none))
  not_holds t h =
      subst IsConditionTree (sym (not_unmerged t))
      ((built_in g.texts (rows.One words.Not bool_sort bool_sort), read_at g complete 8 _ (not_at g.texts), refl, (h.0, tt), not_unmerged t), (h.1, tt))

  parts_hold : (t : Tree) → IsConditionTree t → AllByRecursion IsConditionTree (tree_parts t)
  parts_hold (variable v) h = (h, tt)
  parts_hold (numeral s z) h = (h, tt)
  parts_hold (function f none) h = (h, tt)
  parts_hold (function f (more t none)) h = (h, tt)
  parts_hold (function f (more t (more u none))) h = by_test (f.0 == 9) (λ q. subst (λ n. IsConditionTree (function (record { 0 = n }) (more t (more u none)))) ((Decides-eqb f.0 9).0 q) h) (λ k. parts_hold u k)
    where
      by_test : (b : Bool) → (b ≡ true → IsConditionTree (and_tree t u)) → (IsConditionTree u → AllByRecursion IsConditionTree (tree_parts u)) → AllByRecursion IsConditionTree (cond b (t ∷ tree_parts u) (function f (more t (more u none)) ∷ []))
      by_test true s r = let k = sides_hold t u (s refl) in (k.0, r k.1)
      by_test false s r = (h, tt)
  parts_hold (function f (more t (more u (more v ts)))) h = (h, tt)

  without_true_hold : (ts : List Tree) → AllByRecursion IsConditionTree ts → AllByRecursion IsConditionTree (trees_without_true ts)
  without_true_hold [] h = tt
  without_true_hold (t ∷ ts) h = elim (is_true_tree t) as (λ b. AllByRecursion IsConditionTree (if b then trees_without_true ts else t ∷ trees_without_true ts)) [ true ↦ without_true_hold ts h.1 | false ↦ (h.0, without_true_hold ts h.1) ]

  chain_holds : (ts : List Tree) → AllByRecursion IsConditionTree ts → IsConditionTree (conjunction_tree ts)
  chain_holds [] h = true_tree_holds
  chain_holds (t ∷ []) h = h.0
  chain_holds (t ∷ u ∷ ts) h = and_holds t (conjunction_tree (u ∷ ts)) h.0 (chain_holds (u ∷ ts) h.1)

  -- ---- over the pool
  pub from_fit : (ts : List Tree) (id : TermId) → TermFits g ts xs bool_sort id → IsConditionTree (tree_at ts id)
  from_fit ts id h = (h.term.sorted, subst (IsOver (numbers_of xs)) (term_is g ts id h.term.within) h.over)

  pub to_fit : (ts : List Tree) (id : TermId) → IsIn ts id → IsConditionTree (tree_at ts id) → TermFits g ts xs bool_sort id
  to_fit ts id w h = record { term = record { within = w; sorted = h.0 }; over = subst (IsOver (numbers_of xs)) (sym (term_is g ts id w)) h.1 }

  all_from_fit : (ts : List Tree) (ids : List TermId) → All (TermFits g ts xs bool_sort) ids → AllByRecursion IsConditionTree (trees_at ts ids)
  all_from_fit ts [] h = tt
  all_from_fit ts (id ∷ ids) h = (from_fit ts id (All-head (TermFits g ts xs bool_sort) id ids h), all_from_fit ts ids (All-tail (TermFits g ts xs bool_sort) id ids h))

  all_to_fit : (ts us : List Tree) (ids : List TermId) → trees_at ts ids ≡ us → AreIn ts ids → AllByRecursion IsConditionTree us → All (TermFits g ts xs bool_sort) ids
  all_to_fit ts us [] e w h = All-nil (TermFits g ts xs bool_sort)
  all_to_fit ts [] (id ∷ ids) e w h = cc
  all_to_fit ts (u ∷ us) (id ∷ ids) e w h =
      let first : tree_at ts id ≡ u = cc in
      let rest : trees_at ts ids ≡ us = cc in
      All-cons (TermFits g ts xs bool_sort) id ids (to_fit ts id (All-head (IsIn ts) id ids w) (subst IsConditionTree (sym first) h.0)) (all_to_fit ts us ids rest (All-tail (IsIn ts) id ids w) h.1)

  both_by_recursion : (ts us : List Tree) → AllByRecursion IsConditionTree ts → AllByRecursion IsConditionTree us → AllByRecursion IsConditionTree (ts ++ us)
  both_by_recursion [] us h k = k
  both_by_recursion (t ∷ ts) us h k = (h.0, both_by_recursion ts us h.1 k)

  -- the parts of a further condition behind those that are there
  pub parts_fit : (ts : List Tree) (ids new : List TermId) (id : TermId) → All (TermFits g ts xs bool_sort) ids → TermFits g ts xs bool_sort id → trees_at ts new ≡ trees_at ts ids ++ trees_without_true (tree_parts (tree_at ts id)) → AreIn ts new
      → All (TermFits g ts xs bool_sort) new
  parts_fit ts ids new id h k e w =
      all_to_fit ts (trees_at ts ids ++ trees_without_true (tree_parts (tree_at ts id))) new e w
      (both_by_recursion (trees_at ts ids) (trees_without_true (tree_parts (tree_at ts id))) (all_from_fit ts ids h) (without_true_hold (tree_parts (tree_at ts id)) (parts_hold (tree_at ts id) (from_fit ts id k))))

  pub chain_fits : (ts us : List Tree) (ids : List TermId) (id : TermId) → All (TermFits g ts xs bool_sort) ids → IsIn us id → tree_at us id ≡ conjunction_tree (trees_at ts ids) → TermFits g us xs bool_sort id
  chain_fits ts us ids id h w e = to_fit us id w (subst IsConditionTree (sym e) (chain_holds (trees_at ts ids) (all_from_fit ts ids h)))

  pub not_fits : (ts us : List Tree) (id made : TermId) → TermFits g ts xs bool_sort id → IsIn us made → tree_at us made ≡ apply_tree not_function (more (tree_at ts id) none) → TermFits g us xs bool_sort made
  not_fits ts us id made h w e = to_fit us made w (subst IsConditionTree (sym e) (not_holds (tree_at ts id) (from_fit ts id h)))
