use Rattle.std.proofs.Common.{◌≡◌, ◌+◌, ◌*◌, map, take}
use Rattle.term_pool.specs.Pools.{Extends}
use Rattle.process_terms.specs.PlainProcesses.{plain_process, processes_of}
use Rattle.proc_unfold.specs.PutTerms.{PutsAllIn}
use Rattle.proc_unfold.proofs.Sizes.{nodes, all_nodes}
use Rattle.proc_unfold.proofs.putting.+put.Given as goal

abbrev pub decreases-put_in : goal.decreases-put_in
decreases-put_in l = 3 * nodes (plain_process l.process.now)

abbrev pub decreases-put_boxed : goal.decreases-put_boxed
decreases-put_boxed l = 3 * nodes (plain_process l.part.now) + 1

abbrev pub decreases-put_under : goal.decreases-put_under
decreases-put_under l = 3 * nodes (plain_process l.part.now) + 2

abbrev pub decreases-put_in_all : goal.decreases-put_in_all
decreases-put_in_all l = 3 * all_nodes (processes_of (map plain_process l.parts.now)) + 1

abbrev pub invariant-put_in_all-loop-part : goal.invariant-put_in_all-loop-part
invariant-put_in_all-loop-part l =
    Extends l.fn.pool.trees l.pool.trees × (l.pool.constants ≡ l.fn.pool.constants)
    × PutsAllIn l.pool.trees l.by (processes_of (map plain_process (take l.part-index l.parts))) (processes_of (map plain_process l.made.items))
