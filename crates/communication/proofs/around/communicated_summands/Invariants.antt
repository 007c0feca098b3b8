use Rattle.std.proofs.Common.{◌≡◌, map, take}
use Rattle.std.specs.Prelude.{flat_map}
use Rattle.term_pool.specs.Pools.{Extends}
use Rattle.process_terms.specs.Meanings.{rule_of}
use Rattle.process_terms.specs.SignatureEntries.{entries_of}
use Rattle.lps_core.specs.PlainLinears.{plain_linear, plain_summand, summand_of}
use Rattle.communication.specs.Communicated.{communicated}
use Rattle.communication.specs.GrownSummands.{AreSummands}
use Rattle.communication.proofs.around.communicated_summands.Given as goal

abbrev pub invariant-loop-summand : goal.invariant-loop-summand
invariant-loop-summand l =
    Extends l.fn.pool.trees l.pool.trees × (l.pool.constants ≡ l.fn.pool.constants)
    × AreSummands l.sig l.pool.trees (plain_linear l.lin).params (map plain_summand l.summands.items) (flat_map (communicated (map (rule_of (entries_of l.sig l.fn.pool.trees)) l.rules)) (map (summand_of (entries_of l.sig l.fn.pool.trees)) (map plain_summand (take l.summand-index l.summand-items))))
