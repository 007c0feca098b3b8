use Rattle.std.proofs.Common.{rules, arith, ◌≡◌, ◌++◌, List, length, ap, ◌∙◌}
use Rattle.data_theory.specs.declared.ids.FunId.{FunId}
use Rattle.term_pool.specs.declared.terms.Head.{Head}
use Rattle.term_pool.specs.HeadTrees.{written_tree, trees_at}
use Rattle.eqn_check.specs.Alike.{pairs}
use Rattle.eqn_check.specs.Fillings.{FilledPair, filled_pairs}
use Rattle.eqn_check.proofs.FilledLemmas.{decided_here, at_no_function, at_other_functions, at_other_lengths, at_a_function}
use Rattle.eqn_check.proofs.filled.compare.Goals as goal

pub returns-in_default : goal.returns-in_default
returns-in_default c =
    decided_here c.args.sig.now c.args.pool.now.trees c.args.opposites.now c.args.one c.args.other c.resolved-first.result c.resolved-second.result c.args.left.now.items c.resolved-first.ensures c.resolved-second.ensures c.are_same_leaves.result c.are_same_leaves.ensures

pub returns-in_default-head : goal.returns-in_default-head
returns-in_default-head c =
    at_no_function c.args.sig.now c.args.pool.now.trees c.args.opposites.now c.args.one c.args.other c.resolved-first.result c.resolved-second.result c.args.left.now.items c.resolved-first.ensures c.resolved-second.ensures
    c.in-Fun.fun (trees_at c.args.pool.now.trees c.node-node.result.now.args.items) c.node-under.result.now.head _
    (c.node-node.ensures.tree ∙ ap (λ (h : Head). written_tree h (trees_at c.args.pool.now.trees c.node-node.result.now.args.items)) c.in-Fun.is) c.node-under.ensures.tree c.in_default-head.not-Fun

pub returns-then-ne : goal.returns-then-ne
returns-then-ne c =
    at_other_functions c.args.sig.now c.args.pool.now.trees c.args.opposites.now c.args.one c.args.other c.resolved-first.result c.resolved-second.result c.args.left.now.items c.resolved-first.ensures c.resolved-second.ensures
    c.next_sort.ensures.stands.table c.in-Fun.fun c.in-Fun-head.over c.node-node.result.now.args.items c.node-under.result.now.args.items
    (c.node-node.ensures.tree ∙ ap (λ (h : Head). written_tree h (trees_at c.args.pool.now.trees c.node-node.result.now.args.items)) c.in-Fun.is)
    (c.node-under.ensures.tree ∙ ap (λ (h : Head). written_tree h (trees_at c.args.pool.now.trees c.node-under.result.now.args.items)) c.in-Fun-head.is)
    (λ e. let n : c.in-Fun.fun.0 ≡ c.in-Fun-head.over.0 = ap (λ (t : FunId). t.0) e in let d = c.if-ne.ensures in search (rules, d, n))

pub returns-then-len : goal.returns-then-len
returns-then-len c =
    at_other_lengths c.args.sig.now c.args.pool.now.trees c.args.opposites.now c.args.one c.args.other c.resolved-first.result c.resolved-second.result c.args.left.now.items c.resolved-first.ensures c.resolved-second.ensures
    c.next_sort.ensures.stands.table c.in-Fun.fun c.in-Fun-head.over c.node-node.result.now.args.items c.node-under.result.now.args.items
    (c.node-node.ensures.tree ∙ ap (λ (h : Head). written_tree h (trees_at c.args.pool.now.trees c.node-node.result.now.args.items)) c.in-Fun.is)
    (c.node-under.ensures.tree ∙ ap (λ (h : Head). written_tree h (trees_at c.args.pool.now.trees c.node-under.result.now.args.items)) c.in-Fun-head.is)
    (let a = c.if-len.true in let x = c.len.ensures in let y = c.len-2.ensures in λ n. search (rules, arith, a, x, y, n))

pub returns : goal.returns
returns c =
    let same : c.in-Fun.fun ≡ c.in-Fun-head.over = let n : c.in-Fun.fun.0 ≡ c.in-Fun-head.over.0 = let d = c.if-ne.ensures in search (rules, d) in λ i. record { 0 = n i } in
    let lengths : length c.node-node.result.now.args.items ≡ length c.node-under.result.now.args.items = let a = c.if-len.false in let x = c.len.ensures in let y = c.len-2.ensures in search (rules, arith, a, x, y) in
    let listed : filled_pairs c.resolved-first.result.by c.resolved-second.result.by (pairs c.as_slice.result.now c.as_slice-2.result.now) ≡ filled_pairs c.resolved-first.result.by c.resolved-second.result.by (pairs c.node-node.result.now.args.items c.node-under.result.now.args.items) =
    λ i. filled_pairs c.resolved-first.result.by c.resolved-second.result.by (pairs (c.as_slice.ensures.value i) (c.as_slice-2.ensures.value i)) in
    at_a_function c.args.sig.now c.args.pool.now.trees c.args.opposites.now c.args.one c.args.other c.resolved-first.result c.resolved-second.result c.args.left.now.items c.resolved-first.ensures c.resolved-second.ensures
    c.next_sort.ensures.stands.table c.in-Fun.fun c.in-Fun-head.over c.node-node.result.now.args.items c.node-under.result.now.args.items
    (c.node-node.ensures.tree ∙ ap (λ (h : Head). written_tree h (trees_at c.args.pool.now.trees c.node-node.result.now.args.items)) c.in-Fun.is)
    (c.node-under.ensures.tree ∙ ap (λ (h : Head). written_tree h (trees_at c.args.pool.now.trees c.node-under.result.now.args.items)) c.in-Fun-head.is)
    c.push_filled.new.left.items (c.in_ok-push_filled.ensures ∙ ap (λ (x : List FilledPair). c.args.left.now.items ++ x) listed) same lengths c.node-node.ensures.below c.node-under.ensures.below
