use Rattle.std.proofs.Common.{rules, arith, ◌<◌, ◌∙◌, List, length, refl, sym, subst}
use Rattle.std.specs.List.{All}
use Rattle.std.proofs.lemmas.Option.{slice_get_read}
use Rattle.std.proofs.lemmas.List.Elements.{All-contains}
use Rattle.data_theory.specs.declared.ids.TermId.{TermId}
use Rattle.term_pool.specs.HeadTrees.{tree_at, trees_at, IsIn}
use Rattle.eqn_check.specs.CallTables.{ListsEquationCalls}
use Rattle.eqn_check.specs.Judged.{IsEquationOver}
use Rattle.eqn_check.proofs.Elements.{contains_at}
use Rattle.eqn_check.proofs.JudgedLemmas.{not_so, as_long, pair_at}
use Rattle.eqn_check.proofs.RecursionLemmas.{listed_inside, root_within}
use Rattle.eqn_check.proofs.EdgeLemmas.{AddsOthers, edges_none, edges_all, edges_passed, edges_passed_function, edges_more, root_is}
use Rattle.eqn_check.proofs.edges.call_edges.Goals as goal

pub loop-number-init : goal.loop-number-init
loop-number-init c = edges_none c.args.sig.now c.args.pool.now.trees c.args.theory.now.equations.items c.in_ok-edges.edges.items (c.in_ok-edges.ensures.size ∙ c.fun_count.ensures) c.in_ok-edges.ensures.none

pub loop-number-preserved-in_default : goal.loop-number-preserved-in_default
loop-number-preserved-in_default c =
    edges_passed c.args.sig.now c.args.pool.now.trees c.args.theory.now.equations.items c.loop-number.number c.index.result.now
    (slice_get_read c.args.theory.now.equations.items (length c.args.theory.now.equations.items) c.loop-number.number c.index.result.now refl (search rules) c.index.ensures)
    c.loop-number.edges.items c.loop-number.invariant c.node.result.now.head (trees_at c.args.pool.now.trees c.node.result.now.args.items) c.node.ensures.tree c.in_default.not-Fun

pub loop-number-preserved-then-not-is_mapping : goal.loop-number-preserved-then-not-is_mapping
loop-number-preserved-then-not-is_mapping c =
    edges_passed_function c.args.sig.now c.args.pool.now.trees c.args.theory.now.equations.items c.loop-number.number c.index.result.now
    (slice_get_read c.args.theory.now.equations.items (length c.args.theory.now.equations.items) c.loop-number.number c.index.result.now refl (search rules) c.index.ensures)
    c.loop-number.edges.items c.loop-number.invariant
    c.in-Fun.fun (root_is c.args.pool.now.trees c.index.result.now.left c.node.result.now.head (trees_at c.args.pool.now.trees c.node.result.now.args.items) c.in-Fun.fun c.node.ensures.tree c.in-Fun.is)
    (not_so c.is_mapping.result c.is_mapping.ensures c.if-not-is_mapping.true)

pub offset_bounds-lists-number : goal.offset_bounds-lists-number
offset_bounds-lists-number c =
    let l : c.loop-number.number < length c.args.theory.now.equations.items = search rules in
    let s = as_long (ListsEquationCalls c.args.sig.now c.args.pool.now.trees) c.args.theory.now.equations.items c.args.lists.now c.requires.lists in
    let below : c.loop-number.number < length c.args.lists.now = omega (arith, l, s) in
    omega (arith, below)

pub bounds-lists-number : goal.bounds-lists-number
bounds-lists-number c =
    let l : c.loop-number.number < length c.args.theory.now.equations.items = search rules in
    let s = as_long (ListsEquationCalls c.args.sig.now c.args.pool.now.trees) c.args.theory.now.equations.items c.args.lists.now c.requires.lists in
    omega (arith, l, s)

pub add_callees-requires : goal.add_callees-requires
add_callees-requires c =
    let l : c.loop-number.number < length c.args.theory.now.equations.items = search rules in
    let s = as_long (ListsEquationCalls c.args.sig.now c.args.pool.now.trees) c.args.theory.now.equations.items c.args.lists.now c.requires.lists in
    let m : c.loop-number.number < length c.args.lists.now = omega (arith, l, s) in
    let its = pair_at (ListsEquationCalls c.args.sig.now c.args.pool.now.trees) c.args.theory.now.equations.items c.args.lists.now c.loop-number.number c.index.result.now c.index-lists-number.result c.requires.lists
    (slice_get_read c.args.theory.now.equations.items (length c.args.theory.now.equations.items) c.loop-number.number c.index.result.now refl l c.index.ensures)
    (slice_get_read c.args.lists.now (length c.args.lists.now) c.loop-number.number c.index-lists-number.result refl m c.index-lists-number.is) in
    subst (All (IsIn c.args.pool.now.trees)) (sym c.as_slice.ensures.value) (listed_inside c.args.sig.now c.args.pool.now.trees (tree_at c.args.pool.now.trees c.index.result.now.cond) c.index-lists-number.result.condition.items its.condition)

pub add_callees-requires-in-loop-number : goal.add_callees-requires-in-loop-number
add_callees-requires-in-loop-number c =
    let l : c.loop-number.number < length c.args.theory.now.equations.items = search rules in
    let s = as_long (ListsEquationCalls c.args.sig.now c.args.pool.now.trees) c.args.theory.now.equations.items c.args.lists.now c.requires.lists in
    let m : c.loop-number.number < length c.args.lists.now = omega (arith, l, s) in
    let its = pair_at (ListsEquationCalls c.args.sig.now c.args.pool.now.trees) c.args.theory.now.equations.items c.args.lists.now c.loop-number.number c.index.result.now c.index-lists-number.result c.requires.lists
    (slice_get_read c.args.theory.now.equations.items (length c.args.theory.now.equations.items) c.loop-number.number c.index.result.now refl l c.index.ensures)
    (slice_get_read c.args.lists.now (length c.args.lists.now) c.loop-number.number c.index-lists-number.result refl m c.index-lists-number.is) in
    subst (All (IsIn c.args.pool.now.trees)) (sym c.as_slice-in-loop-number.ensures.value) (listed_inside c.args.sig.now c.args.pool.now.trees (tree_at c.args.pool.now.trees c.index.result.now.right) c.index-lists-number.result.right.items its.right)

pub loop-number-preserved : goal.loop-number-preserved
loop-number-preserved c =
    let l : c.loop-number.number < length c.args.theory.now.equations.items = search rules in
    let s = as_long (ListsEquationCalls c.args.sig.now c.args.pool.now.trees) c.args.theory.now.equations.items c.args.lists.now c.requires.lists in
    let m : c.loop-number.number < length c.args.lists.now = omega (arith, l, s) in
    let at = slice_get_read c.args.theory.now.equations.items (length c.args.theory.now.equations.items) c.loop-number.number c.index.result.now refl l c.index.ensures in
    let its = pair_at (ListsEquationCalls c.args.sig.now c.args.pool.now.trees) c.args.theory.now.equations.items c.args.lists.now c.loop-number.number c.index.result.now c.index-lists-number.result c.requires.lists at
    (slice_get_read c.args.lists.now (length c.args.lists.now) c.loop-number.number c.index-lists-number.result refl m c.index-lists-number.is) in
    let root = root_is c.args.pool.now.trees c.index.result.now.left c.node.result.now.head (trees_at c.args.pool.now.trees c.node.result.now.args.items) c.in-Fun.fun c.node.ensures.tree c.in-Fun.is in
    let over = All-contains (IsEquationOver c.args.sig.now c.args.pool.now.trees) c.args.theory.now.equations.items c.index.result.now c.requires.equations (contains_at c.args.theory.now.equations.items c.loop-number.number c.index.result.now at) in
    let within : c.in-Fun.fun.0 < length c.loop-number.edges.items = subst (λ n. c.in-Fun.fun.0 < n) (sym c.loop-number.invariant.size) (root_within c.args.sig.now c.args.pool.now.trees c.index.result.now over c.in-Fun.fun root) in
    edges_more c.args.sig.now c.args.pool.now.trees c.args.theory.now.equations.items c.loop-number.number c.index.result.now at c.loop-number.edges.items c.loop-number.invariant c.in-Fun.fun root
    (c.is_mapping.ensures.0 c.if-not-is_mapping.false) c.index-lists-number.result its c.index_mut.result.now c.add_callees.new.found c.index_mut-in-loop-number.result.now c.add_callees-in-loop-number.new.found within
    c.index_mut.ensures.value (subst (λ (z : List TermId). AddsOthers c.args.pool.now.trees c.in-Fun.fun z c.index_mut.result.now.items c.add_callees.new.found.items) c.as_slice.ensures.value c.in_ok-add_callees.ensures)
    c.index_mut-in-loop-number.ensures.value (subst (λ (z : List TermId). AddsOthers c.args.pool.now.trees c.in-Fun.fun z c.index_mut-in-loop-number.result.now.items c.add_callees-in-loop-number.new.found.items) c.as_slice-in-loop-number.ensures.value c.in_ok-add_callees-2.ensures)

pub returns : goal.returns
returns c = edges_all c.args.sig.now c.args.pool.now.trees c.args.theory.now.equations.items c.loop-number.number c.loop-number.edges.items (search rules) c.loop-number.invariant
