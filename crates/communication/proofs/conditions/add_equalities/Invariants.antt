use Rattle.std.proofs.Common.{◌≡◌, map, take}
use Rattle.term_pool.specs.Pools.{Extends}
use Rattle.communication.specs.PlanMeanings.{equality_of}
use Rattle.communication.proofs.PartTerms.{PartsGrow}
use Rattle.communication.proofs.conditions.add_equalities.Given as goal

abbrev pub invariant-loop-one : goal.invariant-loop-one
invariant-loop-one l = Extends l.fn.pool.trees l.pool.trees × (l.pool.constants ≡ l.fn.pool.constants) × PartsGrow l.sig l.fn.pool.trees l.fn.parts.items l.pool.trees l.parts.items (map (equality_of l.sig l.fn.pool.trees) (take l.one-index l.asked))
