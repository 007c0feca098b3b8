use Rattle.std.proofs.Common.{◌≡◌}
use Rattle.summand_expander.proofs.Framing.{AreVariables}
use Rattle.summand_expander.proofs.frames.variable_terms.Given as goal

abbrev pub invariant-loop-var : goal.invariant-loop-var
invariant-loop-var l = AreVariables l.fn.pool.trees l.vars l.var-index l.pool.trees l.terms.items × (l.pool.constants ≡ l.fn.pool.constants)
