use Rattle.std.specs.List.{All, Contains}
use Rattle.term_pool.specs.Bindings.{listed_terms}
use Rattle.greibach.proofs.ListedTerms.{AreListedSoFar}
use Rattle.greibach.proofs.environments.terms_for.Given as goal

abbrev pub invariant-loop-var : goal.invariant-loop-var
invariant-loop-var l = AreListedSoFar l.by l.vars l.var-index l.terms.items × All (Contains (listed_terms l.by)) l.terms.items
