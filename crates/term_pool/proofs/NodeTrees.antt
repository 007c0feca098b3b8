-- The trees of a pool's nodes.
use Rattle.std.proofs.Common.{◌≡◌, ℕ, zero, suc, ◌+◌, ◌<◌, List, [], ◌∷◌, ◌++◌, length, get_or, Some, refl, sym, ap, ◌∙◌, subst, arith, append_assoc, append-nil, length-append}
use Rattle.std.specs.Prelude.{slice_get}
use Rattle.std.specs.List.{All}
use Rattle.std.proofs.lemmas.Option.{slice_get_within}
use Rattle.std.proofs.lemmas.List.{get_or_append_left, get_or_push, length_push}
use Rattle.std.proofs.lemmas.List.Elements.{All-head, All-tail, All-weaker}
use Rattle.data_theory.specs.declared.ids.TermId.{TermId}
use Rattle.data_theory.specs.IdTrees.{Tree}
use Rattle.term_pool.specs.declared.terms.Node.{Node}
use Rattle.term_pool.specs.HeadTrees.{written_tree, no_tree, tree_at, trees_at, IsIn, AreIn}
use Rattle.term_pool.specs.Pools.{node_tree, trees_after, trees_of_nodes, Extends, IsNode, IsPool}

pub trees_push : (ts : List Tree) (ns : List Node) (n : Node) → trees_after ts (ns ++ n ∷ []) ≡ trees_after ts ns ++ node_tree (trees_after ts ns) n ∷ []
trees_push ts [] n = refl
trees_push ts (m ∷ ns) n = trees_push (ts ++ node_tree ts m ∷ []) ns n

pub trees_length : (ts : List Tree) (ns : List Node) → length (trees_after ts ns) ≡ length ts + length ns
trees_length ts [] = omega arith
trees_length ts (m ∷ ns) = omega (arith, trees_length (ts ++ node_tree ts m ∷ []) ns, length_push ts (node_tree ts m))

pub same_length : (ns : List Node) (ts : List Tree) → trees_of_nodes ns ≡ ts → length ts ≡ length ns
same_length ns ts view = omega (arith, ap length view, trees_length [] ns)

-- ---- pools that grow
pub extends_itself : (ts : List Tree) → Extends ts ts
extends_itself ts = ([], sym (append-nil ts))

pub extends_on : (old mid new : List Tree) → Extends old mid → Extends mid new → Extends old new
extends_on old mid new a b = (a.0 ++ b.0, b.1 ∙ (ap (λ l. l ++ b.0) a.1 ∙ append_assoc old a.0 b.0))

pub stays_in : (old new : List Tree) (id : TermId) → Extends old new → IsIn old id → IsIn new id
stays_in old new id e h = omega (arith, ap length e.1, length-append old e.0)

pub stay_in : (old new : List Tree) (ids : List TermId) → Extends old new → AreIn old ids → AreIn new ids
stay_in old new ids e h = All-weaker (IsIn old) (IsIn new) (λ id. stays_in old new id e) ids h

pub tree_kept : (old new : List Tree) (id : TermId) → Extends old new → IsIn old id → tree_at new id ≡ tree_at old id
tree_kept old new id e h = ap (λ ts. tree_at ts id) e.1 ∙ get_or_append_left old e.0 no_tree id.0 h

pub trees_kept : (old new : List Tree) (ids : List TermId) → Extends old new → AreIn old ids → trees_at new ids ≡ trees_at old ids
trees_kept old new [] e h = refl
trees_kept old new (id ∷ ids) e h =
    let a = tree_kept old new id e (All-head (IsIn old) id ids h) in
    let b = trees_kept old new ids e (All-tail (IsIn old) id ids h) in
    λ i. a i ∷ b i

-- ---- what stands at a node's number
pub trees_front : (ts : List Tree) (ns : List Node) → Extends ts (trees_after ts ns)
trees_front ts [] = extends_itself ts
trees_front ts (m ∷ ns) = extends_on ts (ts ++ node_tree ts m ∷ []) _ (node_tree ts m ∷ [], refl) (trees_front (ts ++ node_tree ts m ∷ []) ns)

pub first_tree : (ts : List Tree) (m : Node) (ns : List Node) → AreIn ts m.args.items → get_or (trees_after ts (m ∷ ns)) (length ts) no_tree ≡ node_tree (trees_after ts (m ∷ ns)) m
first_tree ts m ns before =
    let next = ts ++ node_tree ts m ∷ [] in
    let new = trees_after next ns in
    let within : length ts < length next = omega (arith, length_push ts (node_tree ts m)) in
    let here : get_or new (length ts) no_tree ≡ get_or next (length ts) no_tree = tree_kept next new (record { 0 = length ts }) (trees_front next ns) within in
    here ∙ (get_or_push ts (node_tree ts m) no_tree (length ts) refl ∙ ap (written_tree m.head) (sym (trees_kept ts new m.args.items (trees_front ts (m ∷ ns)) before)))

pub tree_of : (ts : List Tree) (ns : List Node) (k : ℕ) (n : Node) → slice_get ns k ≡ Some n → All (λ (id : TermId). id.0 < length ts + k) n.args.items → get_or (trees_after ts ns) (length ts + k) no_tree ≡ node_tree (trees_after ts ns) n
tree_of ts [] k n at before = cc
tree_of ts (m ∷ ns) zero n at before =
    let same : m ≡ n = cc in
    let end : length ts + 0 ≡ length ts = omega arith in
    let before' : AreIn ts m.args.items = subst (λ (l : Node). AreIn ts l.args.items) (sym same) (subst (λ k. All (λ (id : TermId). id.0 < k) n.args.items) end before) in
    ap (λ k. get_or (trees_after ts (m ∷ ns)) k no_tree) end ∙ (first_tree ts m ns before' ∙ ap (node_tree (trees_after ts (m ∷ ns))) same)
tree_of ts (m ∷ ns) (suc k) n at before =
    let next = ts ++ node_tree ts m ∷ [] in
    let shift : length ts + suc k ≡ length next + k = omega (arith, length_push ts (node_tree ts m)) in
    let before' = subst (λ k. All (λ (id : TermId). id.0 < k) n.args.items) shift before in
    ap (λ k. get_or (trees_after next ns) k no_tree) shift ∙ tree_of next ns k n at before'

-- what a pool says of one of its nodes
pub record IsNodeAt (ts : List Tree) (k : ℕ) (n : Node) : Type 0 where
  pub within : k < length ts
  pub tree : get_or ts k no_tree ≡ node_tree ts n
  pub before : AreIn ts n.args.items
  pub node : IsNode ts k n

pub node_in : (ns : List Node) (k : ℕ) (n : Node) → IsPool ns → slice_get ns k ≡ Some n → IsNodeAt (trees_of_nodes ns) k n
node_in ns k n p at =
    let node = p.nodes k n at in
    let within : k < length (trees_of_nodes ns) = omega (arith, trees_length [] ns, slice_get_within ns k n at) in
    let from_none : k ≡ 0 + k = omega arith in
    record {
      within = within;
      tree = ap (λ k. get_or (trees_of_nodes ns) k no_tree) from_none ∙ tree_of [] ns k n at (subst (λ k. All (λ (id : TermId). id.0 < k) n.args.items) from_none node.below);
      before = All-weaker (λ (id : TermId). id.0 < k) (IsIn (trees_of_nodes ns)) (λ id l. omega (arith, l, within)) n.args.items node.below;
      node = node;
    }

pub node_at : (ns : List Node) (ts : List Tree) (k : ℕ) (n : Node) → IsPool ns → trees_of_nodes ns ≡ ts → slice_get ns k ≡ Some n → IsNodeAt ts k n
node_at ns ts k n p view at = subst (λ ts. IsNodeAt ts k n) view (node_in ns k n p at)
