use Rattle.std.proofs.Common.{◌≡◌}
use Rattle.std.specs.Prelude.{slice_index}
use Rattle.term_pool.specs.Pools.{Extends}
use Rattle.process_terms.specs.PlainProcesses.{plain_model, plain_process}
use Rattle.proc_unfold.specs.Opening.{Enters}
use Rattle.proc_unfold.proofs.opening.Opening.entered.Given as goal

abbrev pub invariant-loop-entered : goal.invariant-loop-entered
invariant-loop-entered l =
    Extends l.fn.pool.trees l.pool.trees × (l.pool.constants ≡ l.fn.pool.constants)
    × Enters (plain_model l.self.model.now) l.self.found.now l.pool.trees l.by (plain_process l.process) l.entered

abbrev pub decreases-loop-entered : goal.decreases-loop-entered
decreases-loop-entered l = slice_index l.self.found.now.ranks.items l.entered.process.0
