use Rattle.std.proofs.Common.{◌∙◌, sym, ap, arith, map}
use Rattle.std.proofs.lemmas.Bool.{le-leb}
use Rattle.process_terms.specs.PlainProcesses.{plain_process, processes_of}
use Rattle.proc_unfold.specs.ParallelTests.{any_parallel}
use Rattle.proc_unfold.proofs.LoopLemmas.{any_at, any_more, merge_parallel, short_merge, sync_parallel, short_sync}
use Rattle.proc_unfold.proofs.places.+parallel.Goals as goal

pub any_parallel-returns-then-has_parallel : goal.any_parallel-returns-then-has_parallel
any_parallel-returns-then-has_parallel t c = sym (any_at c.args.parts.now c.loop-part.part-index _ c.loop-part-test.true c.part-item.is (sym c.has_parallel.ensures ∙ c.if-has_parallel.true))

pub any_parallel-loop-part-preserved : goal.any_parallel-loop-part-preserved
any_parallel-loop-part-preserved t c = any_more c.args.parts.now c.loop-part.part-index _ c.loop-part-test.true c.part-item.is c.loop-part.invariant (sym c.has_parallel.ensures ∙ c.if-has_parallel.false)

pub has_parallel-returns-then-len-ge2 : goal.has_parallel-returns-then-len-ge2
has_parallel-returns-then-len-ge2 t c = le-leb 2 c.len.result c.if-len-ge2.true ∙ sym (merge_parallel c.args.process.now c.in-Merge.parts c.in-Merge.is (omega (arith, c.if-len-ge2.true, c.len.ensures, c.in-Merge.parts.ok.0)))

pub has_parallel-returns-else-len-ge2 : goal.has_parallel-returns-else-len-ge2
has_parallel-returns-else-len-ge2 t c = c.any_parallel.ensures ∙ (ap (λ l. any_parallel (processes_of (map plain_process l))) c.deref-else-len-ge2.ensures.value ∙ sym (short_merge c.args.process.now c.in-Merge.parts c.in-Merge.is (omega (arith, c.if-len-ge2.false, c.len.ensures, c.in-Merge.parts.ok.0))))

pub has_parallel-returns-then-len-ge2-2 : goal.has_parallel-returns-then-len-ge2-2
has_parallel-returns-then-len-ge2-2 t c = le-leb 2 c.len-in-Sync.result c.if-len-ge2-2.true ∙ sym (sync_parallel c.args.process.now c.in-Sync.parts c.in-Sync.is (omega (arith, c.if-len-ge2-2.true, c.len-in-Sync.ensures, c.in-Sync.parts.ok.0)))

pub has_parallel-returns-else-len-ge2-2 : goal.has_parallel-returns-else-len-ge2-2
has_parallel-returns-else-len-ge2-2 t c = c.any_parallel-else-len-ge2-2.ensures ∙ (ap (λ l. any_parallel (processes_of (map plain_process l))) c.deref-else-len-ge2-2.ensures.value ∙ sym (short_sync c.args.process.now c.in-Sync.parts c.in-Sync.is (omega (arith, c.if-len-ge2-2.false, c.len-in-Sync.ensures, c.in-Sync.parts.ok.0))))
