use Rattle.data_theory.specs.WholeSignatures.{IsSignature}
use Rattle.lps_core.specs.Fitting.{Fits}
use Rattle.lps_core.specs.PlainLinears.{plain_linear}
use Rattle.lps_constelm.proofs.MeantRounds.{linear_within, becomes_fits}
use Rattle.lps_constelm.proofs.SimplifiedRuns.{runs_for, runs_grown}
use Rattle.lps_constelm.proofs.WholeRounds.{is_first_round}
use Rattle.lps_constelm.proofs.eliminating.first_round.Goals as goal

pub simplify_linear-requires : goal.simplify_linear-requires
simplify_linear-requires g c =
    let r = c.requires in
    (r.0, r.1, r.4, linear_within r.0 r.2 c.args.pool.now.trees (plain_linear c.args.lin.now) r.3)

pub returns-in_err-made-clause-runs : goal.returns-in_err-made-clause-runs
returns-in_err-made-clause-runs g c =
    let ts = c.args.pool.now.trees in
    let l = plain_linear c.args.lin.now in
    runs_for (λ sig. IsSignature sig × Fits sig ts l) c.simplify_linear.ensures.runs (λ sig h. linear_within sig h.0 ts l h.1)

pub mark_others-requires : goal.mark_others-requires
mark_others-requires g c =
    let r = c.requires in
    let ts = c.args.pool.now.trees in
    let l = plain_linear c.args.lin.now in
    (r.0, r.2, becomes_fits r.0 r.1 (g.S.Simplifier.simple c.args.simp.now r.0 r.1) r.2 ts c.simplify_linear.new.pool.trees l (plain_linear c.in_ok-made.made) r.3 (c.in_ok-made.ensures.made r.0 r.1 r.4 r.5 (linear_within r.0 r.2 ts l r.3)))

pub returns-in_err-marks-clause-runs : goal.returns-in_err-marks-clause-runs
returns-in_err-marks-clause-runs g c =
    let ts = c.args.pool.now.trees in
    let now = c.simplify_linear.new.pool.trees in
    let us = c.mark_others.new.pool.trees in
    let l = plain_linear c.args.lin.now in
    runs_grown (runs_for (λ sig. IsSignature sig × Fits sig ts l) c.simplify_linear.ensures.runs (λ sig h. linear_within sig h.0 ts l h.1)) c.mark_others.ensures.kept (λ sig own f. c.fits_grown_pools.ensures sig own now us c.mark_others.ensures.kept f)

pub returns-clause-runs : goal.returns-clause-runs
returns-clause-runs g c =
    let ts = c.args.pool.now.trees in
    let now = c.simplify_linear.new.pool.trees in
    let us = c.mark_others.new.pool.trees in
    let l = plain_linear c.args.lin.now in
    runs_grown (runs_for (λ sig. IsSignature sig × Fits sig ts l) c.simplify_linear.ensures.runs (λ sig h. linear_within sig h.0 ts l h.1)) c.mark_others.ensures.kept (λ sig own f. c.fits_grown_pools.ensures sig own now us c.mark_others.ensures.kept f)

pub returns-clause-made : goal.returns-clause-made
returns-clause-made g c = λ sig own f w h.
    let ts = c.args.pool.now.trees in
    let now = c.simplify_linear.new.pool.trees in
    let us = c.mark_others.new.pool.trees in
    let l = plain_linear c.args.lin.now in
    let k = plain_linear c.in_ok-made.made in
    let simple = g.S.Simplifier.simple c.args.simp.now sig own in
    let becomes = c.in_ok-made.ensures.made sig own f w (linear_within sig h.0 ts l h.1) in
    is_first_round sig own simple ts now us l k _ h.0 h.1 becomes c.mark_others.ensures.kept (c.in_ok-marks.ensures.marked sig h.0 (becomes_fits sig own simple h.0 ts now l k h.1 becomes))
