-- A pool with one more node, whose tree no other has.
use Rattle.std.proofs.Common.{◌≡◌, ℕ, zero, suc, ◌<◌, true, false, List, [], ◌∷◌, ◌++◌, length, get_or, Some, refl, sym, ap, ◌∙◌, subst, arith, ⊎_elim, inl, inr, ◌⊎◌}
use Rattle.std.specs.Prelude.{slice_get}
use Rattle.std.specs.List.{All}
use Rattle.std.proofs.lemmas.Bool.{cases_lt}
use Rattle.std.proofs.lemmas.Option.{slice_get_cases}
use Rattle.std.proofs.lemmas.List.{get_or_append_left, get_or_push, length_push}
use Rattle.std.proofs.lemmas.List.Elements.{All-head, All-tail}
use Rattle.data_theory.specs.declared.ids.TermId.{TermId}
use Rattle.data_theory.specs.IdTrees.{Tree}
use Rattle.term_pool.specs.declared.terms.Node.{Node}
use Rattle.term_pool.specs.HeadTrees.{written_tree, head_tree, Stands, no_tree, tree_at, trees_at, IsIn, AreIn}
use Rattle.term_pool.specs.Pools.{node_tree, trees_of_nodes, AreDistinct, IsNode, IsPool}
use Rattle.term_pool.proofs.NodeTrees.{trees_push, same_length, trees_kept, node_at}
use Rattle.term_pool.proofs.SameNodes.{same_node, node_decides, heads_same, arguments_same}

-- ids with the same trees are the same
ids_same : (ts : List Tree) (is js : List TermId) → AreDistinct ts → AreIn ts is → AreIn ts js → trees_at ts is ≡ trees_at ts js → is ≡ js
ids_same ts [] [] d a b e = refl
ids_same ts [] (j ∷ js) d a b e = cc
ids_same ts (i ∷ is) [] d a b e = cc
ids_same ts (i ∷ is) (j ∷ js) d a b e =
    let first : tree_at ts i ≡ tree_at ts j = cc in
    let rest : trees_at ts is ≡ trees_at ts js = cc in
    let same = d i.0 j.0 (All-head (IsIn ts) i is a) (All-head (IsIn ts) j js b) first in
    let others = ids_same ts is js d (All-tail (IsIn ts) i is a) (All-tail (IsIn ts) j js b) rest in
    λ k. record { 0 = same k } ∷ others k

slice_get_push : (ns : List Node) (n m : Node) (k : ℕ) → slice_get (ns ++ n ∷ []) k ≡ Some m → (slice_get ns k ≡ Some m) ⊎ ((k ≡ length ns) × (n ≡ m))
slice_get_push [] n m zero e = inr (refl, cc)
slice_get_push [] n m (suc k) e = cc
slice_get_push (x ∷ ns) n m zero e = inl e
slice_get_push (x ∷ ns) n m (suc k) e = ⊎_elim inl (λ p. inr (ap suc p.0, p.1)) (slice_get_push ns n m k e)

-- no node of the list is the same as this one
abbrev pub IsAbsent : List Node → Node → Type 0
IsAbsent ns n = (k : ℕ) (m : Node) → slice_get ns k ≡ Some m → same_node n m ≡ false

module _ (ns : List Node) (ts : List Tree) (p : IsPool ns) (view : trees_of_nodes ns ≡ ts) (n : Node) (before : AreIn ts n.args.items) (stands : Stands n.head n.args.items) (unmerged : head_tree n.head (trees_at ts n.args.items) ≡ node_tree ts n) where
  distinct : AreDistinct ts
  distinct = subst AreDistinct view p.distinct

  abbrev pub new_trees : List Tree
  new_trees = ts ++ node_tree ts n ∷ []

  pub view_push : trees_of_nodes (ns ++ n ∷ []) ≡ new_trees
  view_push = trees_push [] ns n ∙ ap (λ ts. ts ++ node_tree ts n ∷ []) view

  -- a node with the same tree is the same node
  same_tree : (k : ℕ) (m : Node) → slice_get ns k ≡ Some m → node_tree ts n ≡ get_or ts k no_tree → same_node n m ≡ true
  same_tree k m at e =
      let other = node_at ns ts k m p view at in
      let same : node_tree ts n ≡ node_tree ts m = e ∙ other.tree in
      let heads = heads_same n.head m.head _ _ same in
      let items : n.args.items ≡ m.args.items = ⊎_elim (λ e. e) (λ e. ids_same ts n.args.items m.args.items distinct before other.before e) (arguments_same n.head m.head n.args.items m.args.items _ _ stands other.node.stands same) in
      (node_decides n m).1 (heads, items)

  new_tree : IsAbsent ns n → (k : ℕ) → k < length ts → get_or ts k no_tree ≡ node_tree ts n → ⊥
  new_tree absent k l e =
      let within : k < length ns = omega (arith, l, same_length ns ts view) in
      ⊎_elim
      (λ found. let is = same_tree k found.0 found.2 (sym e) in let isnt = absent k found.0 found.2 in cc)
      (λ beyond. absurd (omega (arith, within, beyond)))
      (slice_get_cases ns k).1

  distinct_push : IsAbsent ns n → AreDistinct new_trees
  distinct_push absent i j li lj e =
      let x = node_tree ts n in
      let count = length_push ts x in
      let old : (k : ℕ) → k < length ts → get_or new_trees k no_tree ≡ get_or ts k no_tree = λ k. get_or_append_left ts (x ∷ []) no_tree k in
      let last : (k : ℕ) → length ts ≡ k → get_or new_trees k no_tree ≡ x = λ k. get_or_push ts x no_tree k in
      ⊎_elim
      (λ a. ⊎_elim (λ b. distinct i j a b (sym (old i a) ∙ (e ∙ old j b))) (λ b. absurd (new_tree absent i a (sym (old i a) ∙ (e ∙ last j (omega arith))))) (cases_lt j (length ts)))
      (λ a. ⊎_elim (λ b. absurd (new_tree absent j b (sym (old j b) ∙ (sym e ∙ last i (omega arith))))) (λ b. omega arith) (cases_lt j (length ts)))
      (cases_lt i (length ts))

  -- what is said of a node stays
  node_kept : (k : ℕ) (m : Node) → AreIn ts m.args.items → IsNode ts k m → IsNode new_trees k m
  node_kept k m within is =
      let kept = trees_kept ts new_trees m.args.items (node_tree ts n ∷ [], refl) within in
      record { below = is.below; stands = is.stands; unmerged = subst (λ us. head_tree m.head us ≡ written_tree m.head us) (sym kept) is.unmerged }

  nodes_push : (k : ℕ) (m : Node) → slice_get (ns ++ n ∷ []) k ≡ Some m → IsNode new_trees k m
  nodes_push k m at =
      ⊎_elim
      (λ old. let is = node_at ns ts k m p view old in node_kept k m is.before is.node)
      (λ last. subst (IsNode new_trees k) last.1 (node_kept k n before (record {
        below = subst (λ k. All (λ (id : TermId). id.0 < k) n.args.items) (same_length ns ts view ∙ sym last.0) before;
        stands = stands;
        unmerged = unmerged;
      })))
      (slice_get_push ns n m k at)

  pub pool_push : IsAbsent ns n → IsPool (ns ++ n ∷ [])
  pool_push absent = record {
    nodes = λ k m at. subst (λ ts. IsNode ts k m) (sym view_push) (nodes_push k m at);
    distinct = subst AreDistinct (sym view_push) (distinct_push absent);
  }
