use Rattle.std.proofs.Common.{◌+◌, sym, subst}
use Rattle.std.specs.List.{All, Contains}
use Rattle.std.proofs.lemmas.List.Elements.{All-push}
use Rattle.term_pool.specs.Bindings.{listed_terms}
use Rattle.greibach.proofs.ListedTerms.{AreListedSoFar, listed_more}
use Rattle.greibach.proofs.environments.terms_for.Goals as goal

pub loop-var-preserved : goal.loop-var-preserved
loop-var-preserved c = (
  subst (AreListedSoFar c.args.by.now c.args.vars.now (c.loop-var.var-index + 1)) (sym c.in_ok-push-in-Some.ensures.items)
      (listed_more c.args.by.now c.args.vars.now c.loop-var.var-index c.loop-var.terms.items _ c.in-Some.term c.loop-var.invariant.0 c.loop-var-test.true c.in-Some.ensures.none),
  subst (All (Contains (listed_terms c.args.by.now))) (sym c.in_ok-push-in-Some.ensures.items) (All-push (Contains (listed_terms c.args.by.now)) c.loop-var.terms.items c.in-Some.term c.loop-var.invariant.1 c.in-Some.ensures.among),
)
