use Rattle.std.proofs.Common.{◌≡◌, map, subst, sym, rules}
use Rattle.std.specs.List.{All, AllZip}
use Rattle.lps_core.specs.PlainLinears.{PlainLinear, plain_linear, plain_summand}
use Rattle.lps_constelm.specs.Runs.{AreTerms, IsSummandWithin, IsLinearWithin, TermBecomes, SummandBecomes}
use Rattle.lps_constelm.proofs.RunLoops.{runs_nowhere}
use Rattle.lps_constelm.proofs.SimplifiedRuns.{runs_for, lin_within, linear_runs, linear_made}
use Rattle.lps_constelm.proofs.simplifying.simplify_linear.Goals as goal

pub returns-in_err-params-clause-runs : goal.returns-in_err-params-clause-runs
returns-in_err-params-clause-runs g c = runs_nowhere _ _ _ _

pub simplify_terms-requires : goal.simplify_terms-requires
simplify_terms-requires g c = let r = c.requires in (r.0, r.1, r.2, subst (AreTerms r.0 c.args.pool.now.trees) (sym c.as_slice.ensures.value) r.3.init)

pub returns-in_err-init-clause-runs : goal.returns-in_err-init-clause-runs
returns-in_err-init-clause-runs g c =
    let ts = c.args.pool.now.trees in
    runs_for (λ sig. IsLinearWithin sig ts (plain_linear c.args.lin.now)) c.simplify_terms.ensures.runs (λ sig h. subst (AreTerms sig ts) (sym c.as_slice.ensures.value) h.init)

pub simplify_summands-requires : goal.simplify_summands-requires
simplify_summands-requires g c =
    let r = c.requires in
    let ts = c.args.pool.now.trees in
    let us = c.simplify_terms.new.pool.trees in
    let first = runs_for (λ sig. AreTerms sig ts c.args.lin.now.init.items) c.simplify_terms.ensures.runs (λ sig h. subst (AreTerms sig ts) (sym c.as_slice.ensures.value) h) in (
      r.0,
      r.1,
      first.fitting r.0 r.1 r.2 r.3.init,
      subst (λ z. All (IsSummandWithin r.0 us) (map plain_summand z)) (sym c.as_slice-2.ensures.value) (lin_within r.0 ts us (plain_linear c.args.lin.now) first.kept r.3),
    )

pub returns-in_err-summands-clause-runs : goal.returns-in_err-summands-clause-runs
returns-in_err-summands-clause-runs g c =
    let t0 = c.args.pool.now.trees in
    let t1 = c.simplify_terms.new.pool.trees in
    let t2 = c.simplify_summands.new.pool.trees in
    let l = plain_linear c.args.lin.now in
    linear_runs t0 t1 t2 l (runs_for (λ sig. AreTerms sig t0 l.init) c.simplify_terms.ensures.runs (λ sig h. subst (AreTerms sig t0) (sym c.as_slice.ensures.value) h))
    (runs_for (λ sig. All (IsSummandWithin sig t1) l.summands) c.simplify_summands.ensures.runs (λ sig h. subst (λ z. All (IsSummandWithin sig t1) (map plain_summand z)) (sym c.as_slice-2.ensures.value) h))

pub returns-clause-runs : goal.returns-clause-runs
returns-clause-runs g c =
    let t0 = c.args.pool.now.trees in
    let t1 = c.simplify_terms.new.pool.trees in
    let t2 = c.simplify_summands.new.pool.trees in
    let l = plain_linear c.args.lin.now in
    linear_runs t0 t1 t2 l (runs_for (λ sig. AreTerms sig t0 l.init) c.simplify_terms.ensures.runs (λ sig h. subst (AreTerms sig t0) (sym c.as_slice.ensures.value) h))
    (runs_for (λ sig. All (IsSummandWithin sig t1) l.summands) c.simplify_summands.ensures.runs (λ sig h. subst (λ z. All (IsSummandWithin sig t1) (map plain_summand z)) (sym c.as_slice-2.ensures.value) h))

pub returns-clause-made : goal.returns-clause-made
returns-clause-made g c =
    let t0 = c.args.pool.now.trees in
    let t1 = c.simplify_terms.new.pool.trees in
    let t2 = c.simplify_summands.new.pool.trees in
    let l = plain_linear c.args.lin.now in
    let same : c.in_ok-params.params.items ≡ c.args.lin.now.params.items = search rules in
    let k : PlainLinear = record { params = c.in_ok-params.params.items; init = c.in_ok-init.init.items; summands = map plain_summand c.in_ok-summands.summands.items } in
    let simple = g.S.Simplifier.simple c.args.simp.now in
    linear_made t0 t1 t2 l (runs_for (λ sig. AreTerms sig t0 l.init) c.simplify_terms.ensures.runs (λ sig h. subst (AreTerms sig t0) (sym c.as_slice.ensures.value) h))
    (runs_for (λ sig. All (IsSummandWithin sig t1) l.summands) c.simplify_summands.ensures.runs (λ sig h. subst (λ z. All (IsSummandWithin sig t1) (map plain_summand z)) (sym c.as_slice-2.ensures.value) h))
    k same
    (λ sig own f w h. subst (λ z. AllZip (TermBecomes sig own (g.S.Simplifier.simple c.args.simp.now sig own) t0 t1) z k.init) c.as_slice.ensures.value (c.in_ok-init.ensures.made sig own f w (subst (AreTerms sig t0) (sym c.as_slice.ensures.value) h)))
    (λ sig own f w h. subst (λ z. AllZip (SummandBecomes sig own (g.S.Simplifier.simple c.simplify_terms.new.simp sig own) t1 t2) (map plain_summand z) k.summands) c.as_slice-2.ensures.value
    (c.in_ok-summands.ensures.made sig own f w (subst (λ z. All (IsSummandWithin sig t1) (map plain_summand z)) (sym c.as_slice-2.ensures.value) h)))
