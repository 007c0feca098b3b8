use Rattle.std.proofs.Common.{arith}
use Rattle.std.proofs.lemmas.List.Elements.{Contains-get_or}
use Rattle.guard_check.proofs.CycleLemmas.{names_more}
use Rattle.guard_check.proofs.cycle_names.names_of_cycle.Goals as goal

pub offset_bounds-definitions-process : goal.offset_bounds-definitions-process
offset_bounds-definitions-process c = let below = c.requires _ (Contains-get_or c.args.cycle.now c.loop-process.process-index 0 c.loop-process-test.true) in omega (arith, below)

pub bounds-definitions-process : goal.bounds-definitions-process
bounds-definitions-process c = c.requires _ (Contains-get_or c.args.cycle.now c.loop-process.process-index 0 c.loop-process-test.true)

pub bounds-definitions-process-in-loop-process : goal.bounds-definitions-process-in-loop-process
bounds-definitions-process-in-loop-process c = c.requires _ (Contains-get_or c.args.cycle.now c.loop-process.process-index 0 c.loop-process-test.true)

pub loop-process-preserved : goal.loop-process-preserved
loop-process-preserved c =
    names_more c.args.definitions.now c.args.cycle.now c.loop-process.process-index c.index-definitions-process.result c.loop-process.names.items c.push.new.self.items c.loop-process-test.true
    (c.requires _ (Contains-get_or c.args.cycle.now c.loop-process.process-index 0 c.loop-process-test.true)) c.loop-process.invariant c.in_ok-push.ensures.items
