-- A pool after a node was put into its set.
use Rattle.std.proofs.Common.{◌≡◌, ℕ, zero, suc, ◌<◌, Bool, true, false, cond, List, [], ◌∷◌, ◌++◌, length, get_or, Some, ◌+◌, refl, sym, ap, ◌∙◌, subst, inl, inr, ◌||◌, ⊎_elim, arith, Result, Ok, Err}
use Rattle.std.specs.Prelude.{slice_get}
use Rattle.std.specs.List.{list_any, Contains}
use Rattle.std.specs.Result.{OnOk, OnErr}
use Rattle.std.proofs.lemmas.List.{get_or_append_left, get_or_push, get_or_default, length_push}
use Rattle.std.proofs.lemmas.List.Elements.{Contains-get_or}
use Rattle.indexmap.specs.IndexSet.{insert_key}
use Rattle.data_theory.specs.IdTrees.{Tree}
use Rattle.term_pool.specs.declared.terms.Node.{Node}
use Rattle.term_pool.specs.HeadTrees.{written_tree, head_tree, Stands, no_tree, trees_at, AreIn}
use Rattle.term_pool.specs.Pools.{PoolContents, node_tree, trees_of_nodes, AreDistinct, Extends, Adds, AddsAtMost, IsPool}
use Rattle.term_pool.proofs.NodeTrees.{node_at, trees_kept, extends_itself}
use Rattle.term_pool.proofs.SameNodes.{same_node, node_decides, written_alike}
use Rattle.term_pool.proofs.NewNodes.{IsAbsent, pool_push, view_push}

-- what was added at most keeps the old trees
pub extends_by_one : (old : List Tree) (t : Tree) (new : List Tree) → AddsAtMost old t new → Extends old new
extends_by_one old t new (inl same) = subst (Extends old) (sym same) (extends_itself old)
extends_by_one old t new (inr more) = (t ∷ [], more)

neither : (a b : Bool) → (a || b) ≡ false → (a ≡ false) × (b ≡ false)
neither true b e = cc
neither false b e = (refl, e)

none_passes : (test : Node → Bool) (ns : List Node) → list_any test ns ≡ false → (k : ℕ) (m : Node) → slice_get ns k ≡ Some m → test m ≡ false
none_passes test [] e k m at = cc
none_passes test (x ∷ ns) e zero m at = let same : x ≡ m = cc in ap test (sym same) ∙ (neither (test x) (list_any test ns) e).0
none_passes test (x ∷ ns) e (suc k) m at = none_passes test ns (neither (test x) (list_any test ns) e).1 k m at

pub record IsEntered (old : List Tree) (n : Node) (ns : List Node) : Type 0 where
  pub pool : IsPool ns
  pub added : AddsAtMost old (node_tree old n) (trees_of_nodes ns)

module _ (ns : List Node) (ts : List Tree) (p : IsPool ns) (view : trees_of_nodes ns ≡ ts) (n : Node) (before : AreIn ts n.args.items) (stands : Stands n.head n.args.items) (unmerged : head_tree n.head (trees_at ts n.args.items) ≡ node_tree ts n) where
  entered_by : (b : Bool) → list_any (same_node n) ns ≡ b → IsEntered ts n (cond b ns (ns ++ n ∷ []))
  entered_by true e = record { pool = p; added = inl view }
  entered_by false e =
      let absent : IsAbsent ns n = none_passes (same_node n) ns e in
      record { pool = pool_push ns ts p view n before stands unmerged absent; added = inr (view_push ns ts p view n before stands unmerged) }

  pub entered : IsEntered ts n (insert_key same_node ns n)
  entered = entered_by (list_any (same_node n) ns) refl

-- what stands at the place of a node that is the same has its tree
pub stored_tree : (ts : List Tree) (n : Node) (ns : List Node) → AreIn ts n.args.items → IsEntered ts n ns → (place : ℕ) (m : Node) → slice_get ns place ≡ Some m → same_node n m ≡ true → (get_or (trees_of_nodes ns) place no_tree ≡ node_tree ts n) × (place < length (trees_of_nodes ns))
stored_tree ts n ns before is place m at same =
    let both = (node_decides n m).0 same in
    let here = node_at ns (trees_of_nodes ns) place m is.pool refl at in
    let kept = trees_kept ts (trees_of_nodes ns) n.args.items (extends_by_one ts _ _ is.added) before in
    (here.tree ∙ (ap (λ items. written_tree m.head (trees_at (trees_of_nodes ns) items)) (sym both.1) ∙ (sym (written_alike n.head m.head _ both.0) ∙ ap (written_tree n.head) kept)), here.within)

-- a tree that stands somewhere was put behind the others, or was among them
pub adds_once : (old : List Tree) (t : Tree) (new : List Tree) (place : ℕ) → AreDistinct new → AddsAtMost old t new → get_or new place no_tree ≡ t → place < length new → Adds old t new
adds_once old t new place distinct (inl same) here within =
    inl (subst (λ ts. Contains ts t) same (subst (Contains new) here (Contains-get_or new place no_tree within)), same)
adds_once old t new place distinct (inr more) here within = inr (λ has. fresh has, more)
  where
    count : length new ≡ length old + 1
    count = ap length more ∙ length_push old t

    last : get_or new (length old) no_tree ≡ t
    last = ap (λ ts. get_or ts (length old) no_tree) more ∙ get_or_push old t no_tree (length old) refl

    fresh : Contains old t → ⊥
    fresh has =
        let at : get_or old has.0 no_tree ≡ t = get_or_default old has.0 no_tree t has.1 ∙ has.2 in
        let kept = ap (λ ts. get_or ts has.0 no_tree) more ∙ get_or_append_left old (t ∷ []) no_tree has.0 has.1 in
        let low = has.1 in
        let same = distinct has.0 (length old) (omega (arith, low, count)) (omega (arith, count)) (kept ∙ (at ∙ sym last)) in
        omega (arith, low, same)

-- after either answer
pub at_most : {T E : Type 0} (answer : Result T E) (old new : PoolContents) (t : Tree) → OnOk answer (Adds old.trees t new.trees) → OnErr answer (new ≡ old) → AddsAtMost old.trees t new.trees
at_most (Ok r) old new t ok err = ⊎_elim (λ was. inl was.1) (λ is. inr is.1) ok
at_most (Err e) old new t ok err = inl (ap (λ (p : PoolContents). p.trees) err)
