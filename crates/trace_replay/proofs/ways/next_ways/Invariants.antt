use Rattle.std.proofs.Common.{map, take}
use Rattle.process_terms.specs.Labels.{Action, Label}
use Rattle.process_terms.specs.PlainProcesses.{plain_action}
use Rattle.term_pool.specs.Pools.{Extends}
use Rattle.trace_replay.specs.Ways.{plain_way, ActionIs, LabelIs, AreNext}
use Rattle.trace_replay.proofs.ways.next_ways.Given as goal

abbrev pub invariant-loop-one : goal.invariant-loop-one
invariant-loop-one l = record {
  kept : Extends l.fn.pool.trees l.pool.trees;
  next : (a : Action) (m : Label) → ActionIs l.sig l.fn.pool.trees (plain_action l.action) a → LabelIs l.sig l.fn.pool.trees (map plain_action l.given) m
      → AreNext l.sig l.fn.pool.trees l.pool.trees l.action.act a (map plain_action l.given) m (map plain_way (take l.one-index l.begun)) (map plain_way l.found.items);
}
