use Rattle.std.proofs.Common.{◌≡◌, map, take, List}
use Rattle.std.specs.Prelude.{flat_map}
use Rattle.data_theory.specs.declared.ids.VarId.{VarId}
use Rattle.term_pool.specs.Pools.{Extends}
use Rattle.lps_core.specs.PlainLinears.{plain_summand}
use Rattle.communication.specs.GrownSummands.{SummandServes, SummandsGrow}
use Rattle.communication.proofs.GrowingSummands.{way_summands}
use Rattle.communication.proofs.around.add_ways.Given as goal

abbrev pub invariant-loop-way : goal.invariant-loop-way
invariant-loop-way l =
    Extends l.fn.pool.trees l.pool.trees × (l.pool.constants ≡ l.fn.pool.constants)
    × ((ps : List VarId) → SummandServes l.sig l.fn.pool.trees ps (plain_summand l.summand) → SummandsGrow l.sig ps l.fn.pool.trees (map plain_summand l.fn.found.items) l.pool.trees (map plain_summand l.found.items) (flat_map (way_summands l.sig l.fn.pool.trees l.rules (plain_summand l.summand)) (take l.way-index l.ways)))
