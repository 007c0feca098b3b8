use Rattle.std.proofs.Common.{rules, arith, ◌≡◌, ◌++◌, List, length, Bool, true, false, ◌==◌, sym, ap, ◌∙◌}
use Rattle.std.proofs.lemmas.Bool.Decides.{Decides-eqb}
use Rattle.data_theory.specs.declared.ids.TermId.{TermId}
use Rattle.data_theory.specs.declared.ids.FunId.{FunId}
use Rattle.term_pool.specs.declared.terms.Head.{Head}
use Rattle.term_pool.specs.HeadTrees.{written_tree, trees_at}
use Rattle.eqn_check.specs.Alike.{Pair, pairs}
use Rattle.eqn_check.proofs.JudgedLemmas.{not_so}
use Rattle.eqn_check.proofs.AlikePairs.{at_a_number, at_another_kind, at_other_functions, at_other_lengths, at_a_function}
use Rattle.eqn_check.proofs.alike.compare.Goals as goal

same_terms : (one other : TermId) (b : Bool) → b ≡ (one.0 == other.0) → b ≡ true → one ≡ other
same_terms one other b e t = let n : one.0 ≡ other.0 = (Decides-eqb one.0 other.0).0 (sym e ∙ t) in λ i. record { 0 = n i }

other_terms : (one other : TermId) (b : Bool) → b ≡ (one.0 == other.0) → b ≡ false → one ≡ other → ⊥
other_terms one other b e f s = let n : one.0 ≡ other.0 = ap (λ (t : TermId). t.0) s in let z : true ≡ false = sym ((Decides-eqb one.0 other.0).1 n) ∙ (sym e ∙ f) in cc

pub returns-in_default : goal.returns-in_default
returns-in_default c =
    at_a_number c.args.sig.now c.args.pool.now.trees c.args.one c.args.other c.args.left.now.items c.next_sort.ensures.stands.table c.node-node.ensures.distinct c.requires.one c.requires.other
    c.node-node.result.now.head _ c.eq.result c.node-node.ensures.tree
    (not_so c.is_variable.result c.is_variable.ensures c.if-is_variable.false) (not_so c.is_variable-else-is_variable.result c.is_variable-else-is_variable.ensures c.if-is_variable-2.false)
    c.in_default.not-Fun (same_terms c.args.one c.args.other c.eq.result c.eq.ensures) (other_terms c.args.one c.args.other c.eq.result c.eq.ensures)

pub returns-in_default-head : goal.returns-in_default-head
returns-in_default-head c =
    at_another_kind c.args.sig.now c.args.pool.now.trees c.args.one c.args.other c.args.left.now.items c.next_sort.ensures.stands.table c.node-node.ensures.distinct c.requires.one c.requires.other
    c.in-Fun.fun (trees_at c.args.pool.now.trees c.node-node.result.now.args.items) c.node-under.result.now.head _
    (c.node-node.ensures.tree ∙ ap (λ (h : Head). written_tree h (trees_at c.args.pool.now.trees c.node-node.result.now.args.items)) c.in-Fun.is) c.node-under.ensures.tree
    (not_so c.is_variable-else-is_variable.result c.is_variable-else-is_variable.ensures c.if-is_variable-2.false) c.in_default-head.not-Fun

pub returns-then-ne : goal.returns-then-ne
returns-then-ne c =
    at_other_functions c.args.sig.now c.args.pool.now.trees c.args.one c.args.other c.args.left.now.items c.next_sort.ensures.stands.table c.node-node.ensures.distinct c.requires.one c.requires.other
    c.in-Fun.fun c.in-Fun-head.over c.node-node.result.now.args.items c.node-under.result.now.args.items
    (c.node-node.ensures.tree ∙ ap (λ (h : Head). written_tree h (trees_at c.args.pool.now.trees c.node-node.result.now.args.items)) c.in-Fun.is)
    (c.node-under.ensures.tree ∙ ap (λ (h : Head). written_tree h (trees_at c.args.pool.now.trees c.node-under.result.now.args.items)) c.in-Fun-head.is)
    (λ e. let n : c.in-Fun.fun.0 ≡ c.in-Fun-head.over.0 = ap (λ (t : FunId). t.0) e in let d = c.if-ne.ensures in search (rules, d, n))

pub returns-then-len : goal.returns-then-len
returns-then-len c =
    at_other_lengths c.args.sig.now c.args.pool.now.trees c.args.one c.args.other c.args.left.now.items c.next_sort.ensures.stands.table c.node-node.ensures.distinct c.requires.one c.requires.other
    c.in-Fun.fun c.in-Fun-head.over c.node-node.result.now.args.items c.node-under.result.now.args.items
    (c.node-node.ensures.tree ∙ ap (λ (h : Head). written_tree h (trees_at c.args.pool.now.trees c.node-node.result.now.args.items)) c.in-Fun.is)
    (c.node-under.ensures.tree ∙ ap (λ (h : Head). written_tree h (trees_at c.args.pool.now.trees c.node-under.result.now.args.items)) c.in-Fun-head.is)
    (let a = c.if-len.true in let x = c.len.ensures in let y = c.len-2.ensures in λ n. search (rules, arith, a, x, y, n))

pub returns : goal.returns
returns c =
    let same : c.in-Fun.fun ≡ c.in-Fun-head.over = let n : c.in-Fun.fun.0 ≡ c.in-Fun-head.over.0 = let d = c.if-ne.ensures in search (rules, d) in λ i. record { 0 = n i } in
    let lengths : length c.node-node.result.now.args.items ≡ length c.node-under.result.now.args.items = let a = c.if-len.false in let x = c.len.ensures in let y = c.len-2.ensures in search (rules, arith, a, x, y) in
    let listed : pairs c.as_slice.result.now c.as_slice-2.result.now ≡ pairs c.node-node.result.now.args.items c.node-under.result.now.args.items = λ i. pairs (c.as_slice.ensures.value i) (c.as_slice-2.ensures.value i) in
    at_a_function c.args.sig.now c.args.pool.now.trees c.args.one c.args.other c.args.left.now.items c.next_sort.ensures.stands.table c.node-node.ensures.distinct c.requires.one c.requires.other
    c.in-Fun.fun c.in-Fun-head.over c.node-node.result.now.args.items c.node-under.result.now.args.items
    (c.node-node.ensures.tree ∙ ap (λ (h : Head). written_tree h (trees_at c.args.pool.now.trees c.node-node.result.now.args.items)) c.in-Fun.is)
    (c.node-under.ensures.tree ∙ ap (λ (h : Head). written_tree h (trees_at c.args.pool.now.trees c.node-under.result.now.args.items)) c.in-Fun-head.is)
    c.push_pairs.new.left.items (c.in_ok-push_pairs.ensures ∙ ap (λ (x : List Pair). c.args.left.now.items ++ x) listed) same lengths c.node-node.ensures.below c.node-under.ensures.below
