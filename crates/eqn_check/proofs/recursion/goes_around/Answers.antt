use Rattle.std.proofs.Common.{arith, ◌<◌, ◌∙◌, List, ℕ, length, Bool, refl, sym, subst}
use Rattle.std.specs.Bool.{Decides}
use Rattle.std.specs.Global.{Vec}
use Rattle.std.proofs.lemmas.Option.{slice_get_read}
use Rattle.term_pool.specs.HeadTrees.{trees_at}
use Rattle.graphs.specs.Graphs.{IsGraph}
use Rattle.eqn_check.specs.CallTables.{CallsRoundTo, HasMark, ListsEquationCalls}
use Rattle.eqn_check.proofs.JudgedLemmas.{as_long}
use Rattle.eqn_check.proofs.EdgeLemmas.{root_is}
use Rattle.eqn_check.proofs.FallingLemmas.{marks_read, has_mark_told}
use Rattle.eqn_check.proofs.RecursionLemmas.{never_shaped, condition_inside, right_inside, edges_graph, callees_are_nodes, function_has_marks, answers_round, answers_uncalled, answers_marks}
use Rattle.eqn_check.proofs.recursion.goes_around.Goals as goal

pub returns-in_default : goal.returns-in_default
returns-in_default c own eqs q at shaped = (
  (λ e. cc),
  (λ b. absurd (never_shaped c.args.sig.now c.args.pool.now.trees c.args.theory.now.equations.items own eqs c.args.number c.index.result.now q
      (slice_get_read c.args.theory.now.equations.items (length c.args.theory.now.equations.items) c.args.number c.index.result.now refl c.requires.number c.index.ensures) at
      c.node.result.now.head (trees_at c.args.pool.now.trees c.node.result.now.args.items) c.node.ensures.tree c.in_default.not-Fun shaped)),
)

pub index-list-requires : goal.index-list-requires
index-list-requires c =
    let s = as_long (ListsEquationCalls c.args.sig.now c.args.pool.now.trees) c.args.theory.now.equations.items c.args.calls.now.lists.items c.requires.calls.lists_are in
    omega (arith, c.requires.number, s, c.args.calls.now.lists.ok.0)

pub calls_round-requires-clause-graph : goal.calls_round-requires-clause-graph
calls_round-requires-clause-graph c =
    let s = as_long (ListsEquationCalls c.args.sig.now c.args.pool.now.trees) c.args.theory.now.equations.items c.args.calls.now.lists.items c.requires.calls.lists_are in
    let m : c.args.number < length c.args.calls.now.lists.items = omega (arith, c.requires.number, s) in
    subst IsGraph (sym c.as_slice.ensures.value) (edges_graph c.args.sig.now c.next_sort.ensures.stands.table c.args.pool.now.trees c.args.theory.now.equations.items c.requires.equations c.args.calls.now.lists.items c.args.calls.now.edges.items c.args.calls.now.cyclic c.args.calls.now.falling.items c.requires.calls
    c.args.number c.index.result.now (slice_get_read c.args.theory.now.equations.items (length c.args.theory.now.equations.items) c.args.number c.index.result.now refl c.requires.number c.index.ensures)
    c.index-list.result.now (slice_get_read c.args.calls.now.lists.items (length c.args.calls.now.lists.items) c.args.number c.index-list.result.now refl m c.index-list.ensures)
    c.in-Fun.fun (root_is c.args.pool.now.trees c.index.result.now.left c.node.result.now.head (trees_at c.args.pool.now.trees c.node.result.now.args.items) c.in-Fun.fun c.node.ensures.tree c.in-Fun.is))

pub calls_round-requires-clause-condition : goal.calls_round-requires-clause-condition
calls_round-requires-clause-condition c =
    let s = as_long (ListsEquationCalls c.args.sig.now c.args.pool.now.trees) c.args.theory.now.equations.items c.args.calls.now.lists.items c.requires.calls.lists_are in
    let m : c.args.number < length c.args.calls.now.lists.items = omega (arith, c.requires.number, s) in
    condition_inside c.args.sig.now c.next_sort.ensures.stands.table c.args.pool.now.trees c.args.theory.now.equations.items c.requires.equations c.args.calls.now.lists.items c.args.calls.now.edges.items c.args.calls.now.cyclic c.args.calls.now.falling.items c.requires.calls
    c.args.number c.index.result.now (slice_get_read c.args.theory.now.equations.items (length c.args.theory.now.equations.items) c.args.number c.index.result.now refl c.requires.number c.index.ensures)
    c.index-list.result.now (slice_get_read c.args.calls.now.lists.items (length c.args.calls.now.lists.items) c.args.number c.index-list.result.now refl m c.index-list.ensures)
    c.in-Fun.fun (root_is c.args.pool.now.trees c.index.result.now.left c.node.result.now.head (trees_at c.args.pool.now.trees c.node.result.now.args.items) c.in-Fun.fun c.node.ensures.tree c.in-Fun.is)

pub calls_round-requires-clause-right : goal.calls_round-requires-clause-right
calls_round-requires-clause-right c =
    let s = as_long (ListsEquationCalls c.args.sig.now c.args.pool.now.trees) c.args.theory.now.equations.items c.args.calls.now.lists.items c.requires.calls.lists_are in
    let m : c.args.number < length c.args.calls.now.lists.items = omega (arith, c.requires.number, s) in
    right_inside c.args.sig.now c.next_sort.ensures.stands.table c.args.pool.now.trees c.args.theory.now.equations.items c.requires.equations c.args.calls.now.lists.items c.args.calls.now.edges.items c.args.calls.now.cyclic c.args.calls.now.falling.items c.requires.calls
    c.args.number c.index.result.now (slice_get_read c.args.theory.now.equations.items (length c.args.theory.now.equations.items) c.args.number c.index.result.now refl c.requires.number c.index.ensures)
    c.index-list.result.now (slice_get_read c.args.calls.now.lists.items (length c.args.calls.now.lists.items) c.args.number c.index-list.result.now refl m c.index-list.ensures)
    c.in-Fun.fun (root_is c.args.pool.now.trees c.index.result.now.left c.node.result.now.head (trees_at c.args.pool.now.trees c.node.result.now.args.items) c.in-Fun.fun c.node.ensures.tree c.in-Fun.is)

pub calls_round-requires-clause-callees : goal.calls_round-requires-clause-callees
calls_round-requires-clause-callees c b o =
    let s = as_long (ListsEquationCalls c.args.sig.now c.args.pool.now.trees) c.args.theory.now.equations.items c.args.calls.now.lists.items c.requires.calls.lists_are in
    let m : c.args.number < length c.args.calls.now.lists.items = omega (arith, c.requires.number, s) in
    subst (λ (z : List (Vec ℕ)). b < length z) (sym c.as_slice.ensures.value) (callees_are_nodes c.args.sig.now c.next_sort.ensures.stands.table c.args.pool.now.trees c.args.theory.now.equations.items c.requires.equations c.args.calls.now.lists.items c.args.calls.now.edges.items c.args.calls.now.cyclic c.args.calls.now.falling.items c.requires.calls
    c.args.number c.index.result.now (slice_get_read c.args.theory.now.equations.items (length c.args.theory.now.equations.items) c.args.number c.index.result.now refl c.requires.number c.index.ensures)
    c.index-list.result.now (slice_get_read c.args.calls.now.lists.items (length c.args.calls.now.lists.items) c.args.number c.index-list.result.now refl m c.index-list.ensures)
    c.in-Fun.fun (root_is c.args.pool.now.trees c.index.result.now.left c.node.result.now.head (trees_at c.args.pool.now.trees c.node.result.now.args.items) c.in-Fun.fun c.node.ensures.tree c.in-Fun.is)
    b o)

pub returns-then-round : goal.returns-then-round
returns-then-round c own eqs q at shaped =
    let s = as_long (ListsEquationCalls c.args.sig.now c.args.pool.now.trees) c.args.theory.now.equations.items c.args.calls.now.lists.items c.requires.calls.lists_are in
    let m : c.args.number < length c.args.calls.now.lists.items = omega (arith, c.requires.number, s) in
    answers_round c.args.sig.now c.next_sort.ensures.stands.table c.args.pool.now.trees c.args.theory.now.equations.items c.requires.equations c.args.calls.now.lists.items c.args.calls.now.edges.items c.args.calls.now.cyclic c.args.calls.now.falling.items c.requires.calls
    c.args.number c.index.result.now (slice_get_read c.args.theory.now.equations.items (length c.args.theory.now.equations.items) c.args.number c.index.result.now refl c.requires.number c.index.ensures)
    c.index-list.result.now (slice_get_read c.args.calls.now.lists.items (length c.args.calls.now.lists.items) c.args.number c.index-list.result.now refl m c.index-list.ensures)
    c.in-Fun.fun (root_is c.args.pool.now.trees c.index.result.now.left c.node.result.now.head (trees_at c.args.pool.now.trees c.node.result.now.args.items) c.in-Fun.fun c.node.ensures.tree c.in-Fun.is)
    own eqs q at shaped c.in_ok-round.round
    (λ t. subst (λ (z : List (Vec ℕ)). CallsRoundTo c.args.pool.now.trees z c.in-Fun.fun c.index-list.result.now) c.as_slice.ensures.value (c.in_ok-round.ensures.round t))
    (λ n r. c.in_ok-round.ensures.none n (subst (λ (z : List (Vec ℕ)). CallsRoundTo c.args.pool.now.trees z c.in-Fun.fun c.index-list.result.now) (sym c.as_slice.ensures.value) r))
    c.if-round.true _ refl

pub calls_itself-itself-requires-clause-condition : goal.calls_itself-itself-requires-clause-condition
calls_itself-itself-requires-clause-condition c =
    let s = as_long (ListsEquationCalls c.args.sig.now c.args.pool.now.trees) c.args.theory.now.equations.items c.args.calls.now.lists.items c.requires.calls.lists_are in
    let m : c.args.number < length c.args.calls.now.lists.items = omega (arith, c.requires.number, s) in
    condition_inside c.args.sig.now c.next_sort.ensures.stands.table c.args.pool.now.trees c.args.theory.now.equations.items c.requires.equations c.args.calls.now.lists.items c.args.calls.now.edges.items c.args.calls.now.cyclic c.args.calls.now.falling.items c.requires.calls
    c.args.number c.index.result.now (slice_get_read c.args.theory.now.equations.items (length c.args.theory.now.equations.items) c.args.number c.index.result.now refl c.requires.number c.index.ensures)
    c.index-list.result.now (slice_get_read c.args.calls.now.lists.items (length c.args.calls.now.lists.items) c.args.number c.index-list.result.now refl m c.index-list.ensures)
    c.in-Fun.fun (root_is c.args.pool.now.trees c.index.result.now.left c.node.result.now.head (trees_at c.args.pool.now.trees c.node.result.now.args.items) c.in-Fun.fun c.node.ensures.tree c.in-Fun.is)

pub calls_itself-itself-requires-clause-right : goal.calls_itself-itself-requires-clause-right
calls_itself-itself-requires-clause-right c =
    let s = as_long (ListsEquationCalls c.args.sig.now c.args.pool.now.trees) c.args.theory.now.equations.items c.args.calls.now.lists.items c.requires.calls.lists_are in
    let m : c.args.number < length c.args.calls.now.lists.items = omega (arith, c.requires.number, s) in
    right_inside c.args.sig.now c.next_sort.ensures.stands.table c.args.pool.now.trees c.args.theory.now.equations.items c.requires.equations c.args.calls.now.lists.items c.args.calls.now.edges.items c.args.calls.now.cyclic c.args.calls.now.falling.items c.requires.calls
    c.args.number c.index.result.now (slice_get_read c.args.theory.now.equations.items (length c.args.theory.now.equations.items) c.args.number c.index.result.now refl c.requires.number c.index.ensures)
    c.index-list.result.now (slice_get_read c.args.calls.now.lists.items (length c.args.calls.now.lists.items) c.args.number c.index-list.result.now refl m c.index-list.ensures)
    c.in-Fun.fun (root_is c.args.pool.now.trees c.index.result.now.left c.node.result.now.head (trees_at c.args.pool.now.trees c.node.result.now.args.items) c.in-Fun.fun c.node.ensures.tree c.in-Fun.is)

pub returns-then-not-itself : goal.returns-then-not-itself
returns-then-not-itself c own eqs q at shaped =
    let s = as_long (ListsEquationCalls c.args.sig.now c.args.pool.now.trees) c.args.theory.now.equations.items c.args.calls.now.lists.items c.requires.calls.lists_are in
    let m : c.args.number < length c.args.calls.now.lists.items = omega (arith, c.requires.number, s) in
    answers_uncalled c.args.sig.now c.next_sort.ensures.stands.table c.args.pool.now.trees c.args.theory.now.equations.items c.requires.equations c.args.calls.now.lists.items c.args.calls.now.edges.items c.args.calls.now.cyclic c.args.calls.now.falling.items c.requires.calls
    c.args.number c.index.result.now (slice_get_read c.args.theory.now.equations.items (length c.args.theory.now.equations.items) c.args.number c.index.result.now refl c.requires.number c.index.ensures)
    c.index-list.result.now (slice_get_read c.args.calls.now.lists.items (length c.args.calls.now.lists.items) c.args.number c.index-list.result.now refl m c.index-list.ensures)
    c.in-Fun.fun (root_is c.args.pool.now.trees c.index.result.now.left c.node.result.now.head (trees_at c.args.pool.now.trees c.node.result.now.args.items) c.in-Fun.fun c.node.ensures.tree c.in-Fun.is)
    own eqs q at shaped c.in_ok-round.round
    (λ t. subst (λ (z : List (Vec ℕ)). CallsRoundTo c.args.pool.now.trees z c.in-Fun.fun c.index-list.result.now) c.as_slice.ensures.value (c.in_ok-round.ensures.round t))
    (λ n r. c.in_ok-round.ensures.none n (subst (λ (z : List (Vec ℕ)). CallsRoundTo c.args.pool.now.trees z c.in-Fun.fun c.index-list.result.now) (sym c.as_slice.ensures.value) r))
    c.if-round.false c.calls_itself-itself.result c.calls_itself-itself.ensures c.if-not-itself.true

pub returns : goal.returns
returns c own eqs q at shaped =
    let s = as_long (ListsEquationCalls c.args.sig.now c.args.pool.now.trees) c.args.theory.now.equations.items c.args.calls.now.lists.items c.requires.calls.lists_are in
    let m : c.args.number < length c.args.calls.now.lists.items = omega (arith, c.requires.number, s) in
    let there = function_has_marks c.args.sig.now c.next_sort.ensures.stands.table c.args.pool.now.trees c.args.theory.now.equations.items c.requires.equations c.args.calls.now.lists.items c.args.calls.now.edges.items c.args.calls.now.cyclic c.args.calls.now.falling.items c.requires.calls
    c.args.number c.index.result.now (slice_get_read c.args.theory.now.equations.items (length c.args.theory.now.equations.items) c.args.number c.index.result.now refl c.requires.number c.index.ensures)
    c.index-list.result.now (slice_get_read c.args.calls.now.lists.items (length c.args.calls.now.lists.items) c.args.number c.index-list.result.now refl m c.index-list.ensures)
    c.in-Fun.fun (root_is c.args.pool.now.trees c.index.result.now.left c.node.result.now.head (trees_at c.args.pool.now.trees c.node.result.now.args.items) c.in-Fun.fun c.node.ensures.tree c.in-Fun.is) in
    answers_marks c.args.sig.now c.next_sort.ensures.stands.table c.args.pool.now.trees c.args.theory.now.equations.items c.requires.equations c.args.calls.now.lists.items c.args.calls.now.edges.items c.args.calls.now.cyclic c.args.calls.now.falling.items c.requires.calls
    c.args.number c.index.result.now (slice_get_read c.args.theory.now.equations.items (length c.args.theory.now.equations.items) c.args.number c.index.result.now refl c.requires.number c.index.ensures)
    c.index-list.result.now (slice_get_read c.args.calls.now.lists.items (length c.args.calls.now.lists.items) c.args.number c.index-list.result.now refl m c.index-list.ensures)
    c.in-Fun.fun (root_is c.args.pool.now.trees c.index.result.now.left c.node.result.now.head (trees_at c.args.pool.now.trees c.node.result.now.args.items) c.in-Fun.fun c.node.ensures.tree c.in-Fun.is)
    own eqs q at shaped c.in_ok-round.round
    (λ t. subst (λ (z : List (Vec ℕ)). CallsRoundTo c.args.pool.now.trees z c.in-Fun.fun c.index-list.result.now) c.as_slice.ensures.value (c.in_ok-round.ensures.round t))
    (λ n r. c.in_ok-round.ensures.none n (subst (λ (z : List (Vec ℕ)). CallsRoundTo c.args.pool.now.trees z c.in-Fun.fun c.index-list.result.now) (sym c.as_slice.ensures.value) r))
    c.if-round.false c.calls_itself-itself.result c.calls_itself-itself.ensures c.if-not-itself.false c.has_mark-falls.result
    (subst (λ (l : List Bool). Decides c.has_mark-falls.result (HasMark l)) (c.as_slice-2.ensures.value ∙ sym (marks_read c.args.calls.now.falling.items c.in-Fun.fun.0 c.index-2.result.now there c.index-2.ensures))
    (has_mark_told c.as_slice-2.result.now c.has_mark-falls.result c.has_mark-falls.ensures))
