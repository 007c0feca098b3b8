use Rattle.std.proofs.Common.{◌≡◌, ◌∙◌, List, ℕ, length, true, false, sym, subst, arith}
use Rattle.std.specs.List.{Contains}
use Rattle.std.specs.Bool.{Decides}
use Rattle.data_theory.specs.declared.ids.TermId.{TermId}
use Rattle.graphs.specs.Graphs.{AreReached}
use Rattle.eqn_check.specs.CallTables.{CallsRoundTo}
use Rattle.eqn_check.proofs.EdgeLemmas.{AddsOthers, starts_within, round_told}
use Rattle.eqn_check.proofs.edges.calls_round.Goals as goal

pub reachable-requires-clause-start : goal.reachable-requires-clause-start
reachable-requires-clause-start c a i =
    starts_within c.args.pool.now.trees c.args.fun c.args.list.now c.new-start.result.items c.add_callees.new.found.items c.add_callees-2.new.found.items c.new-start.ensures.items
    (subst (λ (l : List TermId). AddsOthers c.args.pool.now.trees c.args.fun l c.new-start.result.items c.add_callees.new.found.items) c.as_slice.ensures.value c.in_ok-add_callees.ensures)
    (subst (λ (l : List TermId). AddsOthers c.args.pool.now.trees c.args.fun l c.add_callees.new.found.items c.add_callees-2.new.found.items) c.as_slice-2.ensures.value c.in_ok-add_callees-2.ensures)
    (length c.args.edges.now) c.requires.callees a (subst (λ (l : List ℕ). Contains l a) c.as_slice-3.ensures.value i)

told : (c : goal.After-drop-start-2) → Decides c.index.result.now (CallsRoundTo c.args.pool.now.trees c.args.edges.now c.args.fun c.args.list.now)
told c =
    let are : AreReached c.args.edges.now c.add_callees-2.new.found.items c.in_ok-reached.reached.items = subst (λ (l : List ℕ). AreReached c.args.edges.now l c.in_ok-reached.reached.items) c.as_slice-3.ensures.value c.in_ok-reached.ensures in
    round_told c.args.pool.now.trees c.args.edges.now c.args.fun c.args.list.now c.new-start.result.items c.add_callees.new.found.items c.add_callees-2.new.found.items c.new-start.ensures.items
    (subst (λ (l : List TermId). AddsOthers c.args.pool.now.trees c.args.fun l c.new-start.result.items c.add_callees.new.found.items) c.as_slice.ensures.value c.in_ok-add_callees.ensures)
    (subst (λ (l : List TermId). AddsOthers c.args.pool.now.trees c.args.fun l c.add_callees.new.found.items c.add_callees-2.new.found.items) c.as_slice-2.ensures.value c.in_ok-add_callees-2.ensures)
    c.in_ok-reached.reached.items are c.index.result.now (let s = are.size in let l = c.requires.fun in omega (arith, s, l)) c.index.ensures

pub returns-clause-round : goal.returns-clause-round
returns-clause-round c e = (told c).0 e

pub returns-clause-none : goal.returns-clause-none
returns-clause-none c e r = let t : true ≡ false = sym ((told c).1 r) ∙ e in cc
