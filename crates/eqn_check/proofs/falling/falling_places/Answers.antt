use Rattle.std.proofs.Common.{rules, arith, ◌<◌, length, refl, sym, subst}
use Rattle.std.proofs.lemmas.Option.{slice_get_read}
use Rattle.std.proofs.lemmas.List.Elements.{All-contains}
use Rattle.term_pool.specs.HeadTrees.{tree_at, trees_at}
use Rattle.eqn_check.specs.CallTables.{ListsEquationCalls}
use Rattle.eqn_check.specs.Judged.{IsEquationOver}
use Rattle.eqn_check.proofs.Elements.{contains_at}
use Rattle.eqn_check.proofs.JudgedLemmas.{not_so, as_long, pair_at}
use Rattle.eqn_check.proofs.RecursionLemmas.{listed_inside, root_within}
use Rattle.eqn_check.proofs.EdgeLemmas.{root_is}
use Rattle.eqn_check.proofs.FallingLemmas.{falling_none, falling_all, falling_passed, falling_more, calls_nothing, no_left}
use Rattle.eqn_check.proofs.falling.falling_places.Goals as goal

pub loop-number-init : goal.loop-number-init
loop-number-init c = falling_none c.args.sig.now c.args.pool.now.trees c.args.theory.now.equations.items c.in_ok-places.places.items c.in_ok-places.ensures

pub loop-number-preserved-in_default : goal.loop-number-preserved-in_default
loop-number-preserved-in_default c =
    let l : c.loop-number.number < length c.args.theory.now.equations.items = search rules in
    falling_passed c.args.sig.now c.args.pool.now.trees c.args.theory.now.equations.items c.loop-number.number c.index-equation.result.now
    (slice_get_read c.args.theory.now.equations.items (length c.args.theory.now.equations.items) c.loop-number.number c.index-equation.result.now refl l c.index-equation.ensures)
    c.loop-number.places.items c.loop-number.invariant
    (no_left c.args.sig.now c.args.pool.now.trees c.index-equation.result.now c.node.result.now.head (trees_at c.args.pool.now.trees c.node.result.now.args.items) c.node.ensures.tree c.in_default.not-Fun)

pub offset_bounds-lists-number : goal.offset_bounds-lists-number
offset_bounds-lists-number c =
    let l : c.loop-number.number < length c.args.theory.now.equations.items = search rules in
    let s = as_long (ListsEquationCalls c.args.sig.now c.args.pool.now.trees) c.args.theory.now.equations.items c.args.lists.now c.requires.lists in
    let below : c.loop-number.number < length c.args.lists.now = omega (arith, l, s) in
    omega (arith, below)

pub bounds-lists-number : goal.bounds-lists-number
bounds-lists-number c =
    let l : c.loop-number.number < length c.args.theory.now.equations.items = search rules in
    let s = as_long (ListsEquationCalls c.args.sig.now c.args.pool.now.trees) c.args.theory.now.equations.items c.args.lists.now c.requires.lists in
    omega (arith, l, s)

pub calls_itself-requires-clause-condition : goal.calls_itself-requires-clause-condition
calls_itself-requires-clause-condition c =
    let l : c.loop-number.number < length c.args.theory.now.equations.items = search rules in
    let s = as_long (ListsEquationCalls c.args.sig.now c.args.pool.now.trees) c.args.theory.now.equations.items c.args.lists.now c.requires.lists in
    let m : c.loop-number.number < length c.args.lists.now = omega (arith, l, s) in
    let its = pair_at (ListsEquationCalls c.args.sig.now c.args.pool.now.trees) c.args.theory.now.equations.items c.args.lists.now c.loop-number.number c.index-equation.result.now c.index-lists-number.result c.requires.lists
    (slice_get_read c.args.theory.now.equations.items (length c.args.theory.now.equations.items) c.loop-number.number c.index-equation.result.now refl l c.index-equation.ensures)
    (slice_get_read c.args.lists.now (length c.args.lists.now) c.loop-number.number c.index-lists-number.result refl m c.index-lists-number.is) in
    listed_inside c.args.sig.now c.args.pool.now.trees (tree_at c.args.pool.now.trees c.index-equation.result.now.cond) c.index-lists-number.result.condition.items its.condition

pub calls_itself-requires-clause-right : goal.calls_itself-requires-clause-right
calls_itself-requires-clause-right c =
    let l : c.loop-number.number < length c.args.theory.now.equations.items = search rules in
    let s = as_long (ListsEquationCalls c.args.sig.now c.args.pool.now.trees) c.args.theory.now.equations.items c.args.lists.now c.requires.lists in
    let m : c.loop-number.number < length c.args.lists.now = omega (arith, l, s) in
    let its = pair_at (ListsEquationCalls c.args.sig.now c.args.pool.now.trees) c.args.theory.now.equations.items c.args.lists.now c.loop-number.number c.index-equation.result.now c.index-lists-number.result c.requires.lists
    (slice_get_read c.args.theory.now.equations.items (length c.args.theory.now.equations.items) c.loop-number.number c.index-equation.result.now refl l c.index-equation.ensures)
    (slice_get_read c.args.lists.now (length c.args.lists.now) c.loop-number.number c.index-lists-number.result refl m c.index-lists-number.is) in
    listed_inside c.args.sig.now c.args.pool.now.trees (tree_at c.args.pool.now.trees c.index-equation.result.now.right) c.index-lists-number.result.right.items its.right

pub loop-number-preserved-then-not-calls_itself : goal.loop-number-preserved-then-not-calls_itself
loop-number-preserved-then-not-calls_itself c =
    let l : c.loop-number.number < length c.args.theory.now.equations.items = search rules in
    let s = as_long (ListsEquationCalls c.args.sig.now c.args.pool.now.trees) c.args.theory.now.equations.items c.args.lists.now c.requires.lists in
    let m : c.loop-number.number < length c.args.lists.now = omega (arith, l, s) in
    let at = slice_get_read c.args.theory.now.equations.items (length c.args.theory.now.equations.items) c.loop-number.number c.index-equation.result.now refl l c.index-equation.ensures in
    let its = pair_at (ListsEquationCalls c.args.sig.now c.args.pool.now.trees) c.args.theory.now.equations.items c.args.lists.now c.loop-number.number c.index-equation.result.now c.index-lists-number.result c.requires.lists at
    (slice_get_read c.args.lists.now (length c.args.lists.now) c.loop-number.number c.index-lists-number.result refl m c.index-lists-number.is) in
    falling_passed c.args.sig.now c.args.pool.now.trees c.args.theory.now.equations.items c.loop-number.number c.index-equation.result.now at c.loop-number.places.items c.loop-number.invariant
    (calls_nothing c.args.sig.now c.args.pool.now.trees c.index-equation.result.now c.index-lists-number.result its c.in-Fun.fun
    (root_is c.args.pool.now.trees c.index-equation.result.now.left c.node.result.now.head (trees_at c.args.pool.now.trees c.node.result.now.args.items) c.in-Fun.fun c.node.ensures.tree c.in-Fun.is)
    (not_so c.calls_itself.result c.calls_itself.ensures c.if-not-calls_itself.true))

pub keep_in_equation-requires-clause-list : goal.keep_in_equation-requires-clause-list
keep_in_equation-requires-clause-list c =
    let l : c.loop-number.number < length c.args.theory.now.equations.items = search rules in
    let s = as_long (ListsEquationCalls c.args.sig.now c.args.pool.now.trees) c.args.theory.now.equations.items c.args.lists.now c.requires.lists in
    let m : c.loop-number.number < length c.args.lists.now = omega (arith, l, s) in
    pair_at (ListsEquationCalls c.args.sig.now c.args.pool.now.trees) c.args.theory.now.equations.items c.args.lists.now c.loop-number.number c.index-equation.result.now c.index-lists-number.result c.requires.lists
    (slice_get_read c.args.theory.now.equations.items (length c.args.theory.now.equations.items) c.loop-number.number c.index-equation.result.now refl l c.index-equation.ensures)
    (slice_get_read c.args.lists.now (length c.args.lists.now) c.loop-number.number c.index-lists-number.result refl m c.index-lists-number.is)

pub loop-number-preserved : goal.loop-number-preserved
loop-number-preserved c =
    let l : c.loop-number.number < length c.args.theory.now.equations.items = search rules in
    let at = slice_get_read c.args.theory.now.equations.items (length c.args.theory.now.equations.items) c.loop-number.number c.index-equation.result.now refl l c.index-equation.ensures in
    let root = root_is c.args.pool.now.trees c.index-equation.result.now.left c.node.result.now.head (trees_at c.args.pool.now.trees c.node.result.now.args.items) c.in-Fun.fun c.node.ensures.tree c.in-Fun.is in
    let over = All-contains (IsEquationOver c.args.sig.now c.args.pool.now.trees) c.args.theory.now.equations.items c.index-equation.result.now c.requires.equations (contains_at c.args.theory.now.equations.items c.loop-number.number c.index-equation.result.now at) in
    let within : c.in-Fun.fun.0 < length c.loop-number.places.items = subst (λ n. c.in-Fun.fun.0 < n) (sym c.loop-number.invariant.size) (root_within c.args.sig.now c.args.pool.now.trees c.index-equation.result.now over c.in-Fun.fun root) in
    falling_more c.args.sig.now c.args.pool.now.trees c.args.theory.now.equations.items c.loop-number.number c.index-equation.result.now at c.loop-number.places.items c.loop-number.invariant
    c.in-Fun.fun root within c.index_mut.result.now c.keep_in_equation.new.places c.index_mut.ensures.value c.in_ok-keep_in_equation.ensures

pub returns : goal.returns
returns c = falling_all c.args.sig.now c.args.pool.now.trees c.args.theory.now.equations.items c.loop-number.number c.loop-number.places.items (search rules) c.loop-number.invariant
