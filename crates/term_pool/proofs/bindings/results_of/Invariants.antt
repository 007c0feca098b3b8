use Rattle.std.proofs.Common.{◌≡◌, Some, map, take}
use Rattle.term_pool.specs.Bindings.{result_of}
use Rattle.term_pool.proofs.bindings.results_of.Given as goal

abbrev pub invariant-loop-term : goal.invariant-loop-term
invariant-loop-term l = map Some l.found.items ≡ map (result_of l.results) (take l.term-index l.terms)
