use Rattle.std.proofs.Common.{◌+◌, ◌&&◌, Bool, drop, sym, ap, ◌∙◌}
use Rattle.std.specs.List.{list_all}
use Rattle.sort_table.specs.BareProcesses.{Variables}
use Rattle.sort_checker.specs.Faults.{is_typed}
use Rattle.sort_checker.specs.ReadyTrees.{leaves_at, IsReadyLeaf}
use Rattle.sort_checker.specs.StopTrees.{stop_of, stops_of}
use Rattle.sort_checker.specs.Stops.{scoped_along, variables_behind}
use Rattle.sort_checker.proofs.NumberedFirsts.{drop_beyond}
use Rattle.sort_checker.proofs.ReadyLeaves.{holds_along}
use Rattle.sort_checker.proofs.StopParts.{all_along_cut}
use Rattle.sort_checker.proofs.untyped_parts.are_typed_along.Goals as goal

pub is_typed_at-requires-clause-scope : goal.is_typed_at-requires-clause-scope
is_typed_at-requires-clause-scope c = (c.loop-stop.invariant c.requires.scope.0 c.requires.scope.1).1.over

pub is_typed_at-requires-clause-ready : goal.is_typed_at-requires-clause-ready
is_typed_at-requires-clause-ready c = holds_along leaves_at (IsReadyLeaf c.args.context.now.sig.now.texts) c.args.stops.now c.requires.ready c.loop-stop.stop-index c.stop-item.result c.loop-stop-test.true c.stop-item.is

pub pass_stop-requires-clause-ready : goal.pass_stop-requires-clause-ready
pass_stop-requires-clause-ready c = holds_along leaves_at (IsReadyLeaf c.args.context.now.sig.now.texts) c.args.stops.now c.requires.ready c.loop-stop.stop-index c.stop-item.result c.loop-stop-test.true c.stop-item.is

pub returns-then-not-branch : goal.returns-then-not-branch
returns-then-not-branch c = λ v xs over inside.
    let r = c.loop-stop.invariant xs inside in
    let rest : Bool = list_all (is_typed v) (scoped_along (variables_behind r.0 (stop_of c.stop-item.result)) (stops_of (drop (c.loop-stop.stop-index + 1) c.args.stops.now))) in
    sym (all_along_cut (is_typed v) r.0 c.args.stops.now c.loop-stop.stop-index c.stop-item.result c.loop-stop-test.true c.stop-item.is
    ∙ ap (λ (b : Bool). b && rest) (sym (c.in_ok-is_typed_at.ensures v r.0 over r.1) ∙ c.if-not-branch.true))
    ∙ r.2 v over

pub loop-stop-preserved : goal.loop-stop-preserved
loop-stop-preserved c = λ xs inside.
    let r = c.loop-stop.invariant xs inside in
    let behind : Variables = variables_behind r.0 (stop_of c.stop-item.result) in (
      behind,
      c.in_ok-pass_stop.ensures r.0 r.1,
      λ v over.
          let rest : Bool = list_all (is_typed v) (scoped_along behind (stops_of (drop (c.loop-stop.stop-index + 1) c.args.stops.now))) in
          sym (all_along_cut (is_typed v) r.0 c.args.stops.now c.loop-stop.stop-index c.stop-item.result c.loop-stop-test.true c.stop-item.is
          ∙ ap (λ (b : Bool). b && rest) (sym (c.in_ok-is_typed_at.ensures v r.0 over r.1) ∙ c.if-not-branch.false))
          ∙ r.2 v over,
    )

pub returns : goal.returns
returns c = λ v xs over inside.
    let r = c.loop-stop.invariant xs inside in
    ap (λ ss. list_all (is_typed v) (scoped_along r.0 (stops_of ss))) (sym (drop_beyond c.args.stops.now c.loop-stop.stop-index c.loop-stop-test.false)) ∙ r.2 v over
