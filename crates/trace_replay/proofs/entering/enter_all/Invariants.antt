use Rattle.std.proofs.Common.{◌≡◌, length, take}
use Rattle.term_pool.specs.Pools.{Extends}
use Rattle.trace_replay.specs.Entering.{AreEntered}
use Rattle.trace_replay.proofs.entering.enter_all.Given as goal

abbrev pub invariant-loop-place : goal.invariant-loop-place
invariant-loop-place l = record {
  kept : Extends l.fn.to.trees l.to.trees;
  many : length l.ids.items ≡ l.place;
  entered : AreEntered (take l.place l.from.trees) l.to.trees l.ids.items;
}
