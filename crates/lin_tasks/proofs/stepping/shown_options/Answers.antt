use Rattle.std.proofs.Common.{List, Option, subst}
use Rattle.std.proofs.lemmas.Result.{IfOk-weaker}
use Rattle.data_theory.specs.declared.ids.TermId.{TermId}
use Rattle.data_theory.specs.Provable.{Equation}
use Rattle.lps_core.specs.PlainLinears.{PlainLinear, plain_linear}
use Rattle.lps_simulator.specs.Sessions.{session_state}
use Rattle.lin_driver.specs.Eliminations.{equations_in}
use Rattle.lin_tasks.specs.Shown.{ShowsOptionsIn}
use Rattle.lin_tasks.proofs.stepping.shown_options.Goals as goal

pub options_of_session-requires-clause-known : goal.options_of_session-requires-clause-known
options_of_session-requires-clause-known c =
    let own : List Equation = equations_in c.args.sig.now c.args.pool.now.trees c.args.theory.now in
    (own, c.in_ok-rewriter.ensures.fits own c.requires.equations.equations, c.requires.equations.well_formed)

pub options_of_session-requires-clause-session : goal.options_of_session-requires-clause-session
options_of_session-requires-clause-session c = c.in_ok-session.ensures.fits c.args.sig.now c.args.pool.now.trees c.requires.fits

pub returns : goal.returns
returns c =
    let own : List Equation = equations_in c.args.sig.now c.args.pool.now.trees c.args.theory.now in
    let ts = c.args.pool.now.trees in
    IfOk-weaker c.options_of_session.result _ _
    (λ answer shown.
    subst (λ (o : Option (List TermId)). ShowsOptionsIn c.args.sig.now own c.args.fuel c.args.bound ts (plain_linear c.args.lin) o answer.status answer.text.items) c.in_ok-session.ensures.state
    (subst (λ (l : PlainLinear). ShowsOptionsIn c.args.sig.now own c.args.fuel c.args.bound ts l (session_state c.in_ok-session.session) answer.status answer.text.items) c.in_ok-session.ensures.linear
    (shown own (c.in_ok-rewriter.ensures.fits own c.requires.equations.equations) c.requires.equations.well_formed)))
    c.options_of_session.ensures.shown
