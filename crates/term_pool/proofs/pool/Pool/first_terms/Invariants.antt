use Rattle.term_pool.proofs.MadeTerms.{IsMaking}
use Rattle.term_pool.proofs.pool.Pool.first_terms.Given as goal

abbrev pub invariant-loop-sort : goal.invariant-loop-sort
invariant-loop-sort l = IsMaking l.sig.functions l.firsts l.fn.self l.self l.sorts.keys l.sort-iterator l.made
