use Rattle.std.proofs.Common.{refl, subst, sym}
use Rattle.std.specs.List.{AllZip}
use Rattle.lps_constelm.specs.Runs.{AreTerms, TermBecomes, Runs}
use Rattle.lps_constelm.proofs.simplifying.simplify_action.Goals as goal

pub simplify_terms-requires : goal.simplify_terms-requires
simplify_terms-requires g c =
    let r = c.requires in
    (r.0, r.1, r.2, subst (AreTerms r.0 c.args.pool.now.trees) (sym c.as_slice.ensures.value) r.3)

pub returns-in_err-args-clause-runs : goal.returns-in_err-args-clause-runs
returns-in_err-args-clause-runs g c =
    let ts = c.args.pool.now.trees in
    subst (λ z. Runs (g.S.Simplifier.fits c.args.simp.now) (g.S.Simplifier.fits c.simplify_terms.new.simp) (g.S.Simplifier.simple c.args.simp.now) (g.S.Simplifier.simple c.simplify_terms.new.simp) (λ sig. AreTerms sig ts z) ts c.simplify_terms.new.pool.trees) c.as_slice.ensures.value
    c.simplify_terms.ensures.runs

pub returns-clause-runs : goal.returns-clause-runs
returns-clause-runs g c =
    let ts = c.args.pool.now.trees in
    subst (λ z. Runs (g.S.Simplifier.fits c.args.simp.now) (g.S.Simplifier.fits c.simplify_terms.new.simp) (g.S.Simplifier.simple c.args.simp.now) (g.S.Simplifier.simple c.simplify_terms.new.simp) (λ sig. AreTerms sig ts z) ts c.simplify_terms.new.pool.trees) c.as_slice.ensures.value
    c.simplify_terms.ensures.runs

pub returns-clause-made : goal.returns-clause-made
returns-clause-made g c = λ sig own f w h.
    let ts = c.args.pool.now.trees in
    let us = c.simplify_terms.new.pool.trees in
    let value = c.as_slice.ensures.value in
    let simple = g.S.Simplifier.simple c.args.simp.now sig own in
    record {
      act = refl;
      args = subst (λ z. AllZip (TermBecomes sig own simple ts us) z c.in_ok-args.args.items) value (c.in_ok-args.ensures.made sig own f w (subst (AreTerms sig ts) (sym value) h));
    }
