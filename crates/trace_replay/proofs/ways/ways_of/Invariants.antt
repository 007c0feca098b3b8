use Rattle.std.proofs.Common.{map, drop}
use Rattle.process_terms.specs.Labels.{Label}
use Rattle.process_terms.specs.PlainProcesses.{plain_label}
use Rattle.process_terms.specs.SignatureEntries.{entries_of}
use Rattle.term_pool.specs.Pools.{Extends}
use Rattle.lps_core.specs.PlainLinears.{plain_summand, summand_of}
use Rattle.trace_replay.specs.Ways.{plain_way, LabelIs, AreBegun}
use Rattle.trace_replay.proofs.ways.ways_of.Given as goal

abbrev pub invariant-loop-action : goal.invariant-loop-action
invariant-loop-action l = record {
  kept : Extends l.fn.pool.trees l.pool.trees;
  begun : (m : Label) → LabelIs l.sig l.fn.pool.trees (plain_label l.label) m
      → AreBegun l.sig l.pool.trees (summand_of (entries_of l.sig l.fn.pool.trees) (plain_summand l.summand)) m l.number (drop l.action-index (summand_of (entries_of l.sig l.fn.pool.trees) (plain_summand l.summand)).label) (map plain_way l.found.items);
}
