use Rattle.std.proofs.Common.{List, [], map, sym, subst}
use Rattle.std.specs.Global.{Vec}
use Rattle.std.proofs.lemmas.List.{take_all}
use Rattle.lps_core.specs.PlainLinears.{plain_linear}
use Rattle.lps_simulator.specs.declared.options.Move.{Move}
use Rattle.lps_simulator.specs.OptionsInCode.{meant_move, plain_move}
use Rattle.lps_simulator.proofs.FittingSummands.{move_stays}
use Rattle.lps_simulator.proofs.SessionLemmas.{linear_stays}
use Rattle.trace_replay.specs.declared.deciding.Answer.{Answer as CodeAnswer}
use Rattle.trace_replay.proofs.Keepings.{keeps_itself, keeps_then, known_on}
use Rattle.aut_check.specs.Comparing.{setting, AreMoveRows}
use Rattle.aut_check.specs.PlainSystems.{plain_system}
use Rattle.aut_check.specs.Tables.{tables_of}
use Rattle.aut_check.specs.Verdicts.{sorts_in}
use Rattle.aut_check.proofs.ComparedPairs.{move_in, move_turn}
use Rattle.aut_check.proofs.SettledStates.{system_stays}
use Rattle.aut_check.proofs.pairs.compare_moves.Goals as goal

pub loop-step-init : goal.loop-step-init
loop-step-init g c = record {
  kept = keeps_itself c.args.sig.now c.args.pool.now.trees c.args.rewriter.now;
  so_far = λ own h. subst (λ (z : List (Vec CodeAnswer)). AreMoveRows (setting c.args.sig.now own c.args.fuel) (sorts_in (setting c.args.sig.now own c.args.fuel) c.args.pool.now.trees (plain_linear c.args.lin.now)) c.args.pool.now.trees (plain_system c.args.lts.now) c.args.edges.now [] (tables_of z)) (sym c.new-rows.ensures.items) tt;
}

pub compare_move-requires-clause-known : goal.compare_move-requires-clause-known
compare_move-requires-clause-known g c = known_on c.args.sig.now c.args.pool.now.trees c.loop-step.pool.trees c.args.rewriter.now c.loop-step.rewriter c.loop-step.invariant.kept c.requires.known

pub compare_move-requires-clause-rules : goal.compare_move-requires-clause-rules
compare_move-requires-clause-rules g c = rw c.loop-step.invariant.kept.rules c.requires.rules

pub compare_move-requires-clause-lin : goal.compare_move-requires-clause-lin
compare_move-requires-clause-lin g c = linear_stays c.args.sig.now c.signature_stands.ensures c.args.pool.now.trees c.loop-step.pool.trees (plain_linear c.args.lin.now) c.loop-step.invariant.kept.pool c.requires.lin

pub compare_move-requires-clause-system : goal.compare_move-requires-clause-system
compare_move-requires-clause-system g c = system_stays c.args.sig.now c.signature_stands.ensures c.args.pool.now.trees c.loop-step.pool.trees c.loop-step.invariant.kept.pool c.args.lin.now.params.items (plain_system c.args.lts.now) c.requires.system

pub compare_move-requires-clause-step : goal.compare_move-requires-clause-step
compare_move-requires-clause-step g c = move_stays c.args.sig.now c.args.pool.now.trees c.loop-step.pool.trees c.loop-step.invariant.kept.pool c.args.lin.now.params.items (plain_move c.step-item.result) (move_in c.args.sig.now c.args.pool.now.trees c.args.lin.now.params.items c.args.moves.now c.loop-step.step-index c.step-item.result c.loop-step-test.true c.step-item.is c.requires.moves)

pub returns-in_err-compare_move-clause-kept : goal.returns-in_err-compare_move-clause-kept
returns-in_err-compare_move-clause-kept g c = keeps_then c.args.sig.now c.args.pool.now.trees c.loop-step.pool.trees c.compare_move.new.pool.trees c.args.rewriter.now c.loop-step.rewriter c.compare_move.new.rewriter c.loop-step.invariant.kept c.compare_move.ensures.kept

pub returns-in_err-push-clause-kept : goal.returns-in_err-push-clause-kept
returns-in_err-push-clause-kept g c = keeps_then c.args.sig.now c.args.pool.now.trees c.loop-step.pool.trees c.compare_move.new.pool.trees c.args.rewriter.now c.loop-step.rewriter c.compare_move.new.rewriter c.loop-step.invariant.kept c.compare_move.ensures.kept

pub loop-step-preserved : goal.loop-step-preserved
loop-step-preserved g c = record {
  kept = keeps_then c.args.sig.now c.args.pool.now.trees c.loop-step.pool.trees c.compare_move.new.pool.trees c.args.rewriter.now c.loop-step.rewriter c.compare_move.new.rewriter c.loop-step.invariant.kept c.compare_move.ensures.kept;
  so_far = λ own h.
      move_turn c.args.sig.now c.signature_stands.ensures own c.args.fuel c.args.pool.now.trees c.loop-step.pool.trees c.loop-step.invariant.kept.pool (plain_linear c.args.lin.now) c.requires.lin (plain_system c.args.lts.now) c.requires.system c.args.edges.now c.args.moves.now c.loop-step.step-index c.step-item.result c.loop-step-test.true c.step-item.is
      (move_in c.args.sig.now c.args.pool.now.trees c.args.lin.now.params.items c.args.moves.now c.loop-step.step-index c.step-item.result c.loop-step-test.true c.step-item.is c.requires.moves) c.loop-step.rows.items c.push.new.self.items c.in_ok-compare_move.field-0 c.in_ok-push.ensures.items (c.loop-step.invariant.so_far own h)
      (c.in_ok-compare_move.ensures.row own (c.loop-step.invariant.kept.fits own h));
}

pub returns-clause-kept : goal.returns-clause-kept
returns-clause-kept g c = c.loop-step.invariant.kept

pub returns-clause-rows : goal.returns-clause-rows
returns-clause-rows g c = λ own h.
    subst (λ (z : List Move). AreMoveRows (setting c.args.sig.now own c.args.fuel) (sorts_in (setting c.args.sig.now own c.args.fuel) c.args.pool.now.trees (plain_linear c.args.lin.now)) c.args.pool.now.trees (plain_system c.args.lts.now) c.args.edges.now (map (meant_move c.args.sig.now c.args.pool.now.trees) (map plain_move z)) (tables_of c.loop-step.rows.items)) (take_all c.loop-step.step-index c.args.moves.now c.loop-step-test.false)
    (c.loop-step.invariant.so_far own h)
