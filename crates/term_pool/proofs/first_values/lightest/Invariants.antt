use Rattle.term_pool.specs.FirstValues.{IsLightestOf}
use Rattle.term_pool.proofs.first_values.lightest.Given as goal

abbrev pub invariant-loop-place : goal.invariant-loop-place
invariant-loop-place l = IsLightestOf l.sig l.entries l.places l.place-index l.lightest
