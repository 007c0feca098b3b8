-- The trees of a summand that a step made, one call after another.
use Rattle.std.proofs.Common.{◌≡◌, ◌∷◌, [], List, map, refl, ap, ap₂, ◌∙◌, Option, Some, None}
use Rattle.std.specs.Prelude.{option_map}
use Rattle.std.specs.List.{All}
use Rattle.std.proofs.lemmas.List.Elements.{All-cons, All-nil}
use Rattle.data_theory.specs.declared.ids.VarId.{VarId}
use Rattle.data_theory.specs.declared.ids.TermId.{TermId}
use Rattle.data_theory.specs.IdTrees.{Tree, put_tree}
use Rattle.term_pool.specs.HeadTrees.{tree_at, trees_at, IsIn, AreIn}
use Rattle.term_pool.specs.Pools.{Extends}
use Rattle.term_pool.specs.Bindings.{listed, listed_terms}
use Rattle.lps_core.specs.PlainLinears.{PlainSummand}
use Rattle.lps_core.specs.TreeConditions.{conjunction_tree}
use Rattle.lps_core.specs.TreeSummands.{trees_of_label, trees_of_summand, IsActionIn, IsSummandIn, put_actions}
use Rattle.lps_core.proofs.KeptSummands.{next_trees_kept}
use Rattle.lps_core.proofs.PoolTrees.{extends_on, tree_kept, listed_kept, args_along, actions_kept, actions_along}
use Rattle.lps_sumelm.specs.declared.solutions.Solution.{Solution}
use Rattle.lps_sumelm.specs.SummandsInCode.{sums_but, parts_of_each, given_tree, solved_trees}

abbrev pub by : Solution → List (VarId × TermId)
by f = (f.var, f.term) ∷ []

next_along : (d e : VarId → Tree) → ((v : VarId) → d v ≡ e v) → (o : Option (List Tree)) → option_map (map (put_tree d)) o ≡ option_map (map (put_tree e)) o
next_along d e h None = refl
next_along d e h (Some us) = ap Some (args_along d e h us)

module _ (f : Solution) (s : PlainSummand) (rest : List TermId) (ts t1 t2 t3 t4 : List Tree) (one : Extends ts t1) (two : Extends t1 t2) (three : Extends t2 t3) (four : Extends t3 t4) (over : IsSummandIn ts s) (term : IsIn ts f.term) where
  to_two : Extends ts t2
  to_two = extends_on ts t1 t2 one two

  to_three : Extends ts t3
  to_three = extends_on ts t2 t3 to_two three

  in_pool : AreIn ts (listed_terms (by f))
  in_pool = All-cons (IsIn ts) f.term [] term (All-nil (IsIn ts))

  pub made_trees : (made : PlainSummand) → made.sums ≡ sums_but f.var s.sums
      → (put : List TermId) → trees_at t1 put ≡ map (put_tree (listed ts (by f))) (trees_at ts rest) → IsIn t2 made.condition → tree_at t2 made.condition ≡ conjunction_tree (parts_of_each (trees_at t1 put))
      → All (IsActionIn t3) made.label → trees_of_label t3 made.label ≡ put_actions (listed t2 (by f)) (trees_of_label t2 s.label)
      → option_map (trees_at t4) made.next ≡ option_map (map (put_tree (listed t3 (by f)))) (option_map (trees_at t3) s.next) → trees_of_summand t4 made ≡ solved_trees ts f (trees_at ts rest) (trees_of_summand ts s)
  made_trees made sums put puts cond_in cond label_in label next =
      ap₂ (λ xs c. record { sums = xs; condition = c; label = trees_of_label t4 made.label; next = option_map (trees_at t4) made.next }) sums
      ((tree_kept t2 t4 made.condition (extends_on t2 t3 t4 three four) cond_in).0 ∙ cond ∙ ap (λ us. conjunction_tree (parts_of_each us)) puts)
      ∙ ap₂ (λ m n. record { sums = sums_but f.var s.sums; condition = conjunction_tree (parts_of_each (map (put_tree (given_tree ts f)) (trees_at ts rest))); label = m; next = n })
      (actions_kept t3 t4 made.label four label_in ∙ label ∙ ap (put_actions (listed t2 (by f))) (actions_kept ts t2 s.label to_two over.label) ∙ actions_along (listed t2 (by f)) (listed ts (by f)) (listed_kept ts t2 (by f) to_two in_pool) (trees_of_label ts s.label))
      (next ∙ ap (option_map (map (put_tree (listed t3 (by f))))) (next_trees_kept ts t3 to_three s.next over.next) ∙ next_along (listed t3 (by f)) (listed ts (by f)) (listed_kept ts t3 (by f) to_three in_pool) (option_map (trees_at ts) s.next))
