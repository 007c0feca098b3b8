use Rattle.std.proofs.Common.{map}
use Rattle.process_terms.specs.Labels.{Label}
use Rattle.process_terms.specs.PlainProcesses.{plain_label}
use Rattle.process_terms.specs.SignatureEntries.{entries_of}
use Rattle.term_pool.specs.Pools.{Extends}
use Rattle.lps_core.specs.PlainLinears.{plain_linear, linear_of}
use Rattle.trace_replay.specs.Ways.{plain_way, LabelIs, AreWays}
use Rattle.trace_replay.proofs.ways.ways.Given as goal

abbrev pub invariant-loop-number : goal.invariant-loop-number
invariant-loop-number l = record {
  kept : Extends l.fn.pool.trees l.pool.trees;
  ways : (m : Label) → LabelIs l.sig l.fn.pool.trees (plain_label l.label) m → AreWays l.sig l.pool.trees (linear_of (entries_of l.sig l.fn.pool.trees) (plain_linear l.lin)) m l.number (map plain_way l.ways.items);
}
