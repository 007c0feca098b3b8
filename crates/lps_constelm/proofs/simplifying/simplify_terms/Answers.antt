use Rattle.std.proofs.Common.{◌≤◌, length, get_or, arith}
use Rattle.std.proofs.lemmas.List.{get_or_default}
use Rattle.std.proofs.lemmas.List.Elements.{All-get_or}
use Rattle.data_theory.specs.declared.ids.TermId.{TermId}
use Rattle.data_rewriter.specs.Standing.{IsTerm}
use Rattle.lps_constelm.specs.Runs.{TermBecomes}
use Rattle.lps_constelm.proofs.RunLoops.{along_none, along_fails, along_more, along_all, terms_stable, term_kept}
use Rattle.lps_constelm.proofs.SimplifiedRuns.{one_becomes}
use Rattle.lps_constelm.proofs.simplifying.simplify_terms.Goals as goal

pub loop-term-init : goal.loop-term-init
loop-term-init g c = along_none TermId IsTerm TermBecomes terms_stable _ _ _ _ _ c.new-made.ensures.items

pub simplify-requires : goal.simplify-requires
simplify-requires g c =
    let r = c.requires in
    let along = c.loop-term.invariant in (
      r.0,
      r.1,
      along.runs.fitting r.0 r.1 r.2 r.3,
      term_kept r.0 c.args.pool.now.trees c.loop-term.pool.trees (get_or c.args.terms.now c.loop-term.term-index (record { 0 = 0 })) along.runs.kept (All-get_or (IsTerm r.0 c.args.pool.now.trees) c.args.terms.now c.loop-term.term-index (record { 0 = 0 }) c.loop-term-test.true r.3),
    )

pub returns-in_err-simplify-clause-runs : goal.returns-in_err-simplify-clause-runs
returns-in_err-simplify-clause-runs g c =
    along_fails TermId IsTerm TermBecomes terms_stable _ _ _ _ _ _ _ _ _ _ _ _ _ c.loop-term.invariant c.loop-term-test.true (get_or_default c.args.terms.now c.loop-term.term-index (record { 0 = 0 }) (get_or c.args.terms.now c.loop-term.term-index (record { 0 = 0 })) c.loop-term-test.true)
    (record { kept = c.simplify.ensures.kept; fitting = c.simplify.ensures.fitting; same = c.simplify.ensures.same })

pub returns-in_err-push-clause-runs : goal.returns-in_err-push-clause-runs
returns-in_err-push-clause-runs g c =
    along_fails TermId IsTerm TermBecomes terms_stable _ _ _ _ _ _ _ _ _ _ _ _ _ c.loop-term.invariant c.loop-term-test.true (get_or_default c.args.terms.now c.loop-term.term-index (record { 0 = 0 }) (get_or c.args.terms.now c.loop-term.term-index (record { 0 = 0 })) c.loop-term-test.true)
    (record { kept = c.simplify.ensures.kept; fitting = c.simplify.ensures.fitting; same = c.simplify.ensures.same })

pub loop-term-preserved : goal.loop-term-preserved
loop-term-preserved g c =
    along_more TermId IsTerm TermBecomes terms_stable _ _ _ _ _ _ _ _ _ _ _ _ _ _ _ c.loop-term.invariant c.loop-term-test.true (get_or_default c.args.terms.now c.loop-term.term-index (record { 0 = 0 }) (get_or c.args.terms.now c.loop-term.term-index (record { 0 = 0 })) c.loop-term-test.true)
    (record { kept = c.simplify.ensures.kept; fitting = c.simplify.ensures.fitting; same = c.simplify.ensures.same })
    (λ sig own f w h. one_becomes sig own _ _ _ _ _ (c.in_ok-simplify.ensures.simplified sig own f h) w (c.in_ok-simplify.ensures.reached sig own f h)) c.in_ok-push.ensures.items

pub returns-clause-runs : goal.returns-clause-runs
returns-clause-runs g c = c.loop-term.invariant.runs

pub returns-clause-made : goal.returns-clause-made
returns-clause-made g c =
    let n = c.loop-term-test.false in
    let l : length c.args.terms.now ≤ c.loop-term.term-index = omega (arith, n) in
    along_all TermId IsTerm TermBecomes terms_stable _ _ _ _ _ _ _ _ _ c.loop-term.invariant l
