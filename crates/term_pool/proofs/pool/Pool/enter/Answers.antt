use Rattle.std.proofs.Common.{◌≡◌, ◌<◌, ◌∙◌, ap, sym, subst, length, get_or}
use Rattle.data_theory.specs.IdTrees.{Tree}
use Rattle.term_pool.specs.declared.terms.Node.{Node}
use Rattle.term_pool.specs.HeadTrees.{written_tree, head_tree, trees_at, AreIn, Stands, no_tree}
use Rattle.term_pool.specs.Pools.{node_tree, trees_of_nodes, Adds}
use Rattle.term_pool.proofs.Entered.{IsEntered, extends_by_one, adds_once, entered, stored_tree}
use Rattle.term_pool.proofs.pool.Pool.enter.Goals as goal
use Rattle.term_pool.proofs.pool.Pool.enter.Goals.{In_ok-place}

abbrev node : In_ok-place → Node
node c = record { head = c.args.head; args = c.in_ok-args.args }

items : (c : In_ok-place) → c.in_ok-args.args.items ≡ c.args.args.now
items c = c.in_ok-args.ensures.items_if_clones_equal (λ x y e. e)

before : (c : In_ok-place) → AreIn c.args.self.now.trees c.in_ok-args.args.items
before c = subst (AreIn c.args.self.now.trees) (sym (items c)) c.requires.within

-- the node's tree is the head's over the arguments
tree : (c : In_ok-place) → node_tree c.args.self.now.trees (node c) ≡ head_tree c.args.head (trees_at c.args.self.now.trees c.args.args.now)
tree c = ap (λ ids. written_tree c.args.head (trees_at c.args.self.now.trees ids)) (items c) ∙ sym c.requires.unmerged

is_entered : (c : In_ok-place) → IsEntered c.args.self.now.trees (node c) c.insert_full.new.self.keys
is_entered c =
    let stands = subst (Stands c.args.head) (sym (items c)) c.requires.stands in
    let unmerged = subst (λ ids. head_tree c.args.head (trees_at c.args.self.now.trees ids) ≡ written_tree c.args.head (trees_at c.args.self.now.trees ids)) (sym (items c)) c.requires.unmerged in
    let all = entered c.self.inside.nodes.keys _ c.self.invariant (ap (λ t. t.trees) c.self.view_is) (node c) (before c) stands unmerged in
    subst (IsEntered c.args.self.now.trees (node c)) (sym c.in_ok-place.ensures.keys) all

stored : (c : In_ok-place) → (get_or (trees_of_nodes c.insert_full.new.self.keys) c.in_ok-place.place no_tree ≡ node_tree c.args.self.now.trees (node c)) × (c.in_ok-place.place < length (trees_of_nodes c.insert_full.new.self.keys))
stored c = let k = c.in_ok-place.ensures.stored in stored_tree _ (node c) _ (before c) (is_entered c) c.in_ok-place.place k.0 k.1 k.2

pub invariant_of-self-2 : goal.invariant_of-self-2
invariant_of-self-2 c = (is_entered (goal.at.invariant_of-self-2 c).In_ok-place).pool

pub returns-clause-kept : goal.returns-clause-kept
returns-clause-kept c = extends_by_one _ _ _ (is_entered (goal.at.returns-clause-kept c).In_ok-place).added

pub returns-clause-added : goal.returns-clause-added
returns-clause-added c =
    let after = (goal.at.returns-clause-added c).In_ok-place in
    let once = adds_once _ _ _ after.in_ok-place.place (is_entered after).pool.distinct (is_entered after).added (stored after).0 (stored after).1 in
    subst (λ (t : Tree). Adds after.args.self.now.trees t (trees_of_nodes after.insert_full.new.self.keys)) (tree after) once

pub returns-clause-tree : goal.returns-clause-tree
returns-clause-tree c = let after = (goal.at.returns-clause-tree c).In_ok-place in (stored after).0 ∙ tree after

pub returns-clause-within : goal.returns-clause-within
returns-clause-within c = (stored (goal.at.returns-clause-within c).In_ok-place).1
