use Rattle.std.proofs.Common.{List, Option, IfSome, subst}
use Rattle.std.proofs.lemmas.Result.{IfErr-weaker, IfOk-weaker}
use Rattle.data_theory.specs.declared.ids.TermId.{TermId}
use Rattle.data_theory.specs.Provable.{Equation}
use Rattle.lps_core.specs.PlainLinears.{plain_linear, plain_next, PlainLinear}
use Rattle.lps_simulator.specs.OptionsInCode.{IsState}
use Rattle.lps_simulator.specs.Sessions.{session_state}
use Rattle.chosen_moves.specs.ChosenMoves.{IsChoiceFault}
use Rattle.lin_driver.specs.Eliminations.{equations_in}
use Rattle.lin_tasks.specs.ShownAfter.{ShowsBehind}
use Rattle.lin_tasks.proofs.stepping_after.options_after.Goals as goal

pub shown_behind-requires-clause-known : goal.shown_behind-requires-clause-known
shown_behind-requires-clause-known c =
    let own : List Equation = equations_in c.args.sig.now c.args.pool.now.trees c.args.theory.now in
    (own, c.in_ok-rewriter.ensures.fits own c.requires.equations.equations, c.requires.equations.well_formed)

pub shown_behind-requires-clause-session : goal.shown_behind-requires-clause-session
shown_behind-requires-clause-session c = c.in_ok-session.ensures.fits c.args.sig.now c.args.pool.now.trees c.requires.fits

pub returns-clause-state : goal.returns-clause-state
returns-clause-state c =
    IfOk-weaker c.shown_behind.result _ _ (λ r is. subst (λ (l : PlainLinear). IfSome (plain_next r.1) (IsState c.args.sig.now c.shown_behind.new.pool.trees l.params)) c.in_ok-session.ensures.linear is) c.shown_behind.ensures.state

pub returns-clause-shown : goal.returns-clause-shown
returns-clause-shown c =
    let own : List Equation = equations_in c.args.sig.now c.args.pool.now.trees c.args.theory.now in
    let ts = c.args.pool.now.trees in
    let us = c.shown_behind.new.pool.trees in
    IfOk-weaker c.shown_behind.result _ _
    (λ r shown.
    subst (λ (o : Option (List TermId)). ShowsBehind c.args.sig.now own c.args.fuel c.args.bound ts us (plain_linear c.args.lin) o c.args.choices.now (plain_next r.1) r.0.status r.0.text.items) c.in_ok-session.ensures.state
    (subst (λ (l : PlainLinear). ShowsBehind c.args.sig.now own c.args.fuel c.args.bound ts us l (session_state c.in_ok-session.session) c.args.choices.now (plain_next r.1) r.0.status r.0.text.items) c.in_ok-session.ensures.linear
    (shown own (c.in_ok-rewriter.ensures.fits own c.requires.equations.equations) c.requires.equations.well_formed)))
    c.shown_behind.ensures.shown

pub returns-clause-fault : goal.returns-clause-fault
returns-clause-fault c =
    let own : List Equation = equations_in c.args.sig.now c.args.pool.now.trees c.args.theory.now in
    let ts = c.args.pool.now.trees in
    IfErr-weaker c.shown_behind.result _ _
    (λ fault bad.
    subst (λ (o : Option (List TermId)). IsChoiceFault c.args.sig.now own c.args.fuel c.args.bound (plain_linear c.args.lin) c.args.choices.now ts o fault) c.in_ok-session.ensures.state
    (subst (λ (l : PlainLinear). IsChoiceFault c.args.sig.now own c.args.fuel c.args.bound l c.args.choices.now ts (session_state c.in_ok-session.session) fault) c.in_ok-session.ensures.linear
    (bad own (c.in_ok-rewriter.ensures.fits own c.requires.equations.equations) c.requires.equations.well_formed)))
    c.shown_behind.ensures.fault
