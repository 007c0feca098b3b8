use Rattle.std.proofs.Common.{◌≡◌, Some, map, take}
use Rattle.term_pool.specs.FirstTerms.{made_for}
use Rattle.term_pool.proofs.pool.closed_term.terms_for.Given as goal

abbrev pub invariant-loop-sort : goal.invariant-loop-sort
invariant-loop-sort l = map Some l.found.items ≡ map (made_for l.made) (take l.sort-index l.sorts)
