use Rattle.std.proofs.Common.{◌+◌, drop, sym, ap, ◌∙◌}
use Rattle.std.specs.Prelude.{Option, option_map}
use Rattle.std.specs.Option.{option_or}
use Rattle.data_typing.specs.Typings.{first_of}
use Rattle.sort_table.specs.Expressions.{Name}
use Rattle.sort_table.specs.BareProcesses.{Variables}
use Rattle.sort_checker.specs.Faults.{free_variable}
use Rattle.sort_checker.specs.ReadyTrees.{leaves_at, IsReadyLeaf}
use Rattle.sort_checker.specs.StopTrees.{stop_of, stops_of}
use Rattle.sort_checker.specs.Stops.{scoped_along, variables_behind}
use Rattle.sort_checker.proofs.NumberedFirsts.{drop_beyond}
use Rattle.sort_checker.proofs.ReadyLeaves.{holds_along}
use Rattle.sort_checker.proofs.StopParts.{first_along_cut}
use Rattle.sort_checker.proofs.free_variables.free_along.Goals as goal

pub pass_stop-requires-clause-ready : goal.pass_stop-requires-clause-ready
pass_stop-requires-clause-ready c = holds_along leaves_at (IsReadyLeaf c.args.context.now.sig.now.texts) c.args.stops.now c.requires.ready c.loop-stop.stop-index c.stop-item.result c.loop-stop-test.true c.stop-item.is

pub returns-in-Some : goal.returns-in-Some
returns-in-Some c = λ v xs over inside.
    let r = c.loop-stop.invariant xs inside in
    let rest : Option Name = first_of (free_variable v) (scoped_along (variables_behind r.0 (stop_of c.stop-item.result)) (stops_of (drop (c.loop-stop.stop-index + 1) c.args.stops.now))) in
    sym (first_along_cut (free_variable v) r.0 c.args.stops.now c.loop-stop.stop-index c.stop-item.result c.loop-stop-test.true c.stop-item.is
    ∙ ap (λ (o : Option Name). option_or o rest) (sym (c.in_ok-name.ensures v r.0 over r.1) ∙ ap (option_map (λ n. n.now)) c.in-Some.is))
    ∙ r.2 v over

pub loop-stop-preserved : goal.loop-stop-preserved
loop-stop-preserved c = λ xs inside.
    let r = c.loop-stop.invariant xs inside in
    let behind : Variables = variables_behind r.0 (stop_of c.stop-item.result) in (
      behind,
      c.in_ok-pass_stop.ensures r.0 r.1,
      λ v over.
          let rest : Option Name = first_of (free_variable v) (scoped_along behind (stops_of (drop (c.loop-stop.stop-index + 1) c.args.stops.now))) in
          sym (first_along_cut (free_variable v) r.0 c.args.stops.now c.loop-stop.stop-index c.stop-item.result c.loop-stop-test.true c.stop-item.is
          ∙ ap (λ (o : Option Name). option_or o rest) (sym (c.in_ok-name.ensures v r.0 over r.1) ∙ ap (option_map (λ n. n.now)) c.in_default.is))
          ∙ r.2 v over,
    )

pub returns : goal.returns
returns c = λ v xs over inside.
    let r = c.loop-stop.invariant xs inside in
    ap (λ ss. first_of (free_variable v) (scoped_along r.0 (stops_of ss))) (sym (drop_beyond c.args.stops.now c.loop-stop.stop-index c.loop-stop-test.false)) ∙ r.2 v over
