use Rattle.std.proofs.Common.{◌≡◌, map, take}
use Rattle.std.specs.Prelude.{Vec}
use Rattle.std.specs.Global.{Global}
use Rattle.term_pool.specs.Pools.{Extends}
use Rattle.communication.specs.declared.plans.Equality.{Equality}
use Rattle.communication.specs.PlanMeanings.{against}
use Rattle.communication.proofs.PartTerms.{PartsGrow}
use Rattle.communication.proofs.conditions.add_against.Given as goal

abbrev pub invariant-loop-group : goal.invariant-loop-group
invariant-loop-group l = Extends l.fn.pool.trees l.pool.trees × (l.pool.constants ≡ l.fn.pool.constants) × PartsGrow l.sig l.fn.pool.trees l.fn.parts.items l.pool.trees l.parts.items (map (λ (z : Vec Equality Global). against l.sig l.fn.pool.trees z.items) (take l.group-index l.groups))
