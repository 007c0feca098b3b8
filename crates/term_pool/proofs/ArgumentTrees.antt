-- The trees directly under a node's tree are those of its arguments.
use Rattle.std.proofs.Common.{◌≡◌, ◌<◌, List, [], ◌∷◌, refl, sym, ap, subst, arith}
use Rattle.std.specs.List.{All, Contains}
use Rattle.std.proofs.lemmas.List.Elements.{All-contains}
use Rattle.data_theory.specs.declared.ids.TermId.{TermId}
use Rattle.data_theory.specs.IdTrees.{Tree, trees_of}
use Rattle.term_pool.specs.declared.terms.Head.{Head}
use Rattle.term_pool.specs.declared.terms.Head.TheVariants.{Var, Num, Fun}
use Rattle.term_pool.specs.HeadTrees.{written_tree, Stands, tree_at, trees_at, IsIn}
use Rattle.term_pool.specs.Pools.{AreDistinct}
use Rattle.term_pool.specs.Subterms.{tree_list, argument_trees, IsArgument}
use Rattle.term_pool.proofs.Lists.{contains_none, contains_map, contained_from_map}

tree_list-trees_of : (ts : List Tree) → tree_list (trees_of ts) ≡ ts
tree_list-trees_of [] = refl
tree_list-trees_of (t ∷ ts) = ap (λ us. t ∷ us) (tree_list-trees_of ts)

module _ (ts : List Tree) (id : TermId) (h : Head) (args : List TermId) (tree : tree_at ts id ≡ written_tree h (trees_at ts args)) (below : All (λ (arg : TermId). arg.0 < id.0) args) where
  under_head : (g : Head) → Stands g args → (arg : TermId) → Contains args arg → Contains (argument_trees (written_tree g (trees_at ts args))) (tree_at ts arg)
  under_head (Var v) stands arg has = absurd (contains_none arg (subst (λ ids. Contains ids arg) stands has))
  under_head (Num s n) stands arg has = absurd (contains_none arg (subst (λ ids. Contains ids arg) stands.0 has))
  under_head (Fun f) stands arg has = subst (λ us. Contains us (tree_at ts arg)) (sym (tree_list-trees_of (trees_at ts args))) (contains_map (tree_at ts) args arg has)

  pub is_argument : Stands h args → (arg : TermId) → Contains args arg → IsArgument ts arg id
  is_argument stands arg has =
      (All-contains (λ (arg : TermId). arg.0 < id.0) args arg below has, subst (λ t. Contains (argument_trees t) (tree_at ts arg)) (sym tree) (under_head h stands arg has))

  among_head : (g : Head) (arg : TermId) → Contains (argument_trees (written_tree g (trees_at ts args))) (tree_at ts arg) → (other : TermId) × Contains args other × (tree_at ts other ≡ tree_at ts arg)
  among_head (Var v) arg has = absurd (contains_none (tree_at ts arg) has)
  among_head (Num s n) arg has = absurd (contains_none (tree_at ts arg) has)
  among_head (Fun f) arg has = contained_from_map (tree_at ts) args (tree_at ts arg) (subst (λ us. Contains us (tree_at ts arg)) (tree_list-trees_of (trees_at ts args)) has)

  pub argument_is_among : AreDistinct ts → IsIn ts id → (arg : TermId) → IsArgument ts arg id → Contains args arg
  argument_is_among distinct within arg is =
      let found = among_head h arg (subst (λ t. Contains (argument_trees t) (tree_at ts arg)) tree is.1) in
      let other_below = All-contains (λ (arg : TermId). arg.0 < id.0) args found.0 below found.1 in
      let same = distinct found.0.0 arg.0 (omega (arith, other_below, within)) (omega (arith, is.0, within)) found.2 in
      subst (Contains args) (λ i. record { 0 = same i }) found.1
