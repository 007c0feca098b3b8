use Rattle.std.proofs.Common.{◌≡◌, List, [], map, drop}
use Rattle.std.specs.Prelude.{◌≢◌, false}
use Rattle.data_theory.specs.Provable.{Equation}
use Rattle.data_rewriter.specs.Rewriters.{Fits as FitsPool}
use Rattle.process_terms.specs.SignatureEntries.{entries_of}
use Rattle.lps_core.specs.PlainLinears.{plain_linear, linear_of}
use Rattle.trace_replay.specs.declared.replaying.Verdict.{Verdict}
use Rattle.trace_replay.specs.DecidedConditions.{setting}
use Rattle.trace_replay.specs.Keeping.{Keeps}
use Rattle.trace_replay.specs.ReadTraces.{plain_line}
use Rattle.trace_replay.specs.Replays.{Entry, Replays}
use Rattle.trace_replay.specs.States.{meant_states, plain_states, StatesStand}
use Rattle.trace_replay.specs.Verdicts.{LinesAre}
use Rattle.trace_replay.proofs.traces.replay_lines.Given as goal

abbrev pub invariant-loop-line : goal.invariant-loop-line
invariant-loop-line g l = record {
  kept : Keeps l.sig l.fn.pool.trees l.pool.trees l.fn.rewriter l.rewriter;
  states : StatesStand l.sig l.pool.trees l.states;
  some : plain_states l.states ≢ [];
  left : (own : List Equation) (es : List Entry) (verdict : Verdict) → FitsPool l.fn.rewriter l.sig own l.fn.pool.trees → LinesAre l.sig l.fn.pool.trees (map plain_line l.lines) es
      → Replays (setting l.sig own l.fuel l.bound) (linear_of (entries_of l.sig l.fn.pool.trees) (plain_linear l.lin)) (meant_states l.sig l.pool.trees l.states) l.doubt (drop l.line-index es) verdict
      → Replays (setting l.sig own l.fuel l.bound) (linear_of (entries_of l.sig l.fn.pool.trees) (plain_linear l.lin)) (meant_states l.sig l.fn.pool.trees l.fn.states) false es verdict;
}
