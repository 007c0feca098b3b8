use Rattle.std.proofs.Common.{◌∙◌, List, [], ◌∷◌, refl, sym, subst}
use Rattle.std.specs.Prelude.{get_or}
use Rattle.process_terms.specs.Labels.{Label}
use Rattle.lps_core.specs.PlainLinears.{PlainLinear}
use Rattle.lps_core.proofs.PoolTrees.{extends_itself, extends_on}
use Rattle.lps_simulator.specs.Sessions.{session_linear, session_state}
use Rattle.chosen_moves.specs.ChosenMoves.{pick_of, IsOneFault}
use Rattle.chosen_moves.specs.TakenMoves.{TakesMoves}
use Rattle.chosen_moves.proofs.ChosenMoves.{none_yet, one_further, one_stops, passed_on}
use Rattle.chosen_moves.proofs.following.take_all.Goals as goal

pub loop-choice-init : goal.loop-choice-init
loop-choice-init g c = record {
  kept = extends_itself c.args.pool.now.trees;
  rules = refl;
  fits = λ own h. h;
  linear = refl;
  session = c.requires.session;
  state = sym c.requires.first;
  taken = λ own fits fine. none_yet c.args.sig.now own c.args.fuel c.args.bound (session_linear c.args.session.now) c.args.pool.now.trees (session_state c.args.session.now) c.args.choices.now;
}

pub returns-in_err-state-clause-fault : goal.returns-in_err-state-clause-fault
returns-in_err-state-clause-fault g c =
    let inv = c.loop-choice.invariant in
    passed_on _ c.from_residual.result c.in_err-state.field-0.0
    (λ own fits fine.
    one_stops c.args.sig.now own c.args.fuel c.args.bound (session_linear c.args.session.now) c.args.pool.now.trees (session_state c.args.session.now) c.args.choices.now c.loop-choice.choice-index (record { line = 0; number = 0 }) c.loop-choice.pool.trees (session_state c.loop-choice.session)
    c.loop-choice-test.true (inv.taken own fits fine) c.in_err-state.field-0.0
    (subst (λ (l : PlainLinear). IsOneFault c.args.sig.now own c.args.fuel c.args.bound l c.loop-choice.pool.trees (session_state c.loop-choice.session) (get_or c.args.choices.now c.loop-choice.choice-index (record { line = 0; number = 0 })) c.in_err-state.field-0.0) inv.linear (c.in_err-state.ensures.fault own (inv.fits own fits) fine)))
    c.from_residual.ensures.1

pub loop-choice-preserved : goal.loop-choice-preserved
loop-choice-preserved g c =
    let inv = c.loop-choice.invariant in
    let one = c.in_ok-state.ensures in
    record {
      kept = extends_on c.args.pool.now.trees c.loop-choice.pool.trees c.take_chosen.new.pool.trees inv.kept one.kept;
      rules = one.rules ∙ inv.rules;
      fits = λ own h. one.fits own (inv.fits own h);
      linear = one.linear ∙ inv.linear;
      session = one.session;
      state = one.state;
      taken = λ own fits fine.
          one_further c.args.sig.now own c.args.fuel c.args.bound (session_linear c.args.session.now) c.args.pool.now.trees (session_state c.args.session.now) c.args.choices.now c.loop-choice.choice-index (record { line = 0; number = 0 }) c.loop-choice.pool.trees c.take_chosen.new.pool.trees
          (session_state c.loop-choice.session) (session_state c.take_chosen.new.session) c.loop-choice-test.true (inv.taken own fits fine)
          (subst (λ (l : PlainLinear). (labels : List Label) × TakesMoves c.args.sig.now own c.args.fuel c.args.bound l (pick_of (get_or c.args.choices.now c.loop-choice.choice-index (record { line = 0; number = 0 })) ∷ []) c.loop-choice.pool.trees (session_state c.loop-choice.session) c.take_chosen.new.pool.trees (session_state c.take_chosen.new.session) labels) inv.linear
          (one.taken own (inv.fits own fits) fine));
    }
