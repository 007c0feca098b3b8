use Rattle.std.proofs.Common.{map}
use Rattle.process_terms.specs.Labels.{Action, Label}
use Rattle.process_terms.specs.PlainProcesses.{plain_action}
use Rattle.term_pool.specs.Pools.{Extends}
use Rattle.trace_replay.specs.Ways.{plain_way, ActionIs, LabelIs, AddsNext}
use Rattle.trace_replay.proofs.ways.add_next.Given as goal

abbrev pub invariant-loop-at : goal.invariant-loop-at
invariant-loop-at l = record {
  kept : Extends l.fn.pool.trees l.pool.trees;
  added : (a : Action) (m : Label) → ActionIs l.sig l.fn.pool.trees (plain_action l.action) a → LabelIs l.sig l.fn.pool.trees (map plain_action l.given) m
      → AddsNext l.sig l.fn.pool.trees l.pool.trees l.action.act a (map plain_action l.given) m (plain_way l.begun) l.at (map plain_way l.fn.found.items) (map plain_way l.found.items);
}
