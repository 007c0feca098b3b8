use Rattle.std.proofs.Common.{◌≡◌, ◌+◌, ◌*◌, map, take}
use Rattle.term_pool.specs.Pools.{Extends}
use Rattle.process_terms.specs.PlainProcesses.{plain_model, plain_process, processes_of}
use Rattle.proc_unfold.specs.Opening.{AllOpenTo}
use Rattle.proc_unfold.proofs.Sizes.{nodes, all_nodes, deepest}
use Rattle.proc_unfold.proofs.opening.Opening.+open.Given as goal

abbrev pub decreases-open : goal.decreases-open
decreases-open l = l.rank * (3 * deepest l.self.now.model.now.procs.items + 1) + (3 * nodes (plain_process l.process.now) + 1)

abbrev pub decreases-open_settled : goal.decreases-open_settled
decreases-open_settled l = l.rank * (3 * deepest l.self.now.model.now.procs.items + 1) + 3 * nodes (plain_process l.process.now)

abbrev pub decreases-open_under : goal.decreases-open_under
decreases-open_under l = l.rank * (3 * deepest l.self.now.model.now.procs.items + 1) + (3 * nodes (plain_process l.part.now) + 2)

abbrev pub decreases-open_boxed : goal.decreases-open_boxed
decreases-open_boxed l = l.rank * (3 * deepest l.self.now.model.now.procs.items + 1) + (3 * nodes (plain_process l.part.now) + 2)

abbrev pub decreases-open_all : goal.decreases-open_all
decreases-open_all l = l.rank * (3 * deepest l.self.now.model.now.procs.items + 1) + (3 * all_nodes (processes_of (map plain_process l.parts.now)) + 2)

abbrev pub invariant-open_all-loop-part : goal.invariant-open_all-loop-part
invariant-open_all-loop-part l =
    Extends l.fn.pool.trees l.pool.trees × (l.pool.constants ≡ l.fn.pool.constants)
    × AllOpenTo (plain_model l.self.model.now) l.self.found.now l.pool.trees l.by (processes_of (map plain_process (take l.part-index l.parts))) l.networks
