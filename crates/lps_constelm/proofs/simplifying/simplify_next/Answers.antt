use Rattle.lps_constelm.proofs.SimplifiedRuns.{runs_for, next_some, next_made, next_none}
use Rattle.lps_constelm.proofs.RunLoops.{runs_nowhere}
use Rattle.lps_core.specs.PlainLinears.{plain_next}
use Rattle.std.specs.Prelude.{IfSome}
use Rattle.lps_constelm.specs.Runs.{AreTerms}
use Rattle.lps_constelm.proofs.simplifying.simplify_next.Goals as goal

pub simplify_terms-requires : goal.simplify_terms-requires
simplify_terms-requires g c = let r = c.requires in (r.0, r.1, r.2, next_some r.0 c.args.pool.now.trees c.args.next.now c.in-Some.terms c.as_slice.result.now c.in-Some.is c.as_slice.ensures.value r.3)

pub returns-in_err-simplify_terms-in-Some-clause-runs : goal.returns-in_err-simplify_terms-in-Some-clause-runs
returns-in_err-simplify_terms-in-Some-clause-runs g c =
    let ts = c.args.pool.now.trees in
    runs_for (λ sig. IfSome (plain_next c.args.next.now) (AreTerms sig ts)) c.simplify_terms.ensures.runs (λ sig h. next_some sig ts c.args.next.now c.in-Some.terms c.as_slice.result.now c.in-Some.is c.as_slice.ensures.value h)

pub returns-in_ok-simplify_terms-in-Some-clause-runs : goal.returns-in_ok-simplify_terms-in-Some-clause-runs
returns-in_ok-simplify_terms-in-Some-clause-runs g c =
    let ts = c.args.pool.now.trees in
    runs_for (λ sig. IfSome (plain_next c.args.next.now) (AreTerms sig ts)) c.simplify_terms.ensures.runs (λ sig h. next_some sig ts c.args.next.now c.in-Some.terms c.as_slice.result.now c.in-Some.is c.as_slice.ensures.value h)

pub returns-in_ok-simplify_terms-in-Some-clause-made : goal.returns-in_ok-simplify_terms-in-Some-clause-made
returns-in_ok-simplify_terms-in-Some-clause-made g c = λ sig own f w h.
    let ts = c.args.pool.now.trees in
    next_made sig own (g.S.Simplifier.simple c.args.simp.now sig own) ts c.simplify_terms.new.pool.trees c.args.next.now c.in-Some.terms c.in_ok-simplify_terms-in-Some.field-0 c.as_slice.result.now c.in-Some.is c.as_slice.ensures.value
    (c.in_ok-simplify_terms-in-Some.ensures.made sig own f w (next_some sig ts c.args.next.now c.in-Some.terms c.as_slice.result.now c.in-Some.is c.as_slice.ensures.value h))

pub returns-in-None-clause-runs : goal.returns-in-None-clause-runs
returns-in-None-clause-runs g c = runs_nowhere _ _ _ _

pub returns-in-None-clause-made : goal.returns-in-None-clause-made
returns-in-None-clause-made g c = λ sig own f w h. next_none sig own (g.S.Simplifier.simple c.args.simp.now sig own) c.args.pool.now.trees c.args.pool.now.trees c.args.next.now c.in-None.is
