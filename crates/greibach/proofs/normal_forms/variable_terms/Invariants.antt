use Rattle.std.proofs.Common.{◌≡◌, map, take}
use Rattle.data_theory.specs.IdTrees.{variable}
use Rattle.term_pool.specs.HeadTrees.{trees_at, AreIn}
use Rattle.term_pool.specs.Pools.{Extends}
use Rattle.greibach.proofs.normal_forms.variable_terms.Given as goal

abbrev pub invariant-loop-var : goal.invariant-loop-var
invariant-loop-var l = Extends l.fn.pool.trees l.pool.trees × (l.pool.constants ≡ l.fn.pool.constants) × AreIn l.pool.trees l.terms.items × (trees_at l.pool.trees l.terms.items ≡ map variable (take l.var-index l.vars))
