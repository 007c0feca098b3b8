use Rattle.std.proofs.Common.{◌∙◌, arith, rules, refl, sym, ap, map, subst}
use Rattle.term_pool.specs.HeadTrees.{AreIn}
use Rattle.term_pool.specs.Bindings.{listed_terms}
use Rattle.process_terms.specs.PlainProcesses.{plain_process, processes_of}
use Rattle.lps_core.proofs.PoolTrees.{extends_itself, extends_on, all_in_kept}
use Rattle.proc_unfold.specs.PutTerms.{IsProcessIn, AreProcessesIn}
use Rattle.proc_unfold.proofs.ProcessSteps.{act_step, call_step, choice_step, seq_step, cond_step, sum_step, merge_step, left_merge_step, sync_step, allow_step, block_step, hide_step, rename_step, comm_step}
use Rattle.proc_unfold.proofs.PutBodies.{listed_without}
use Rattle.proc_unfold.proofs.Sizes.{then_smaller, other_smaller, summed_smaller, around_smaller, choices_smaller, steps_smaller, merged_smaller, synced_smaller, first_smaller, second_smaller, operand_no_larger}
use Rattle.proc_unfold.proofs.PuttingLemmas.{process_kept, part_in, under_in, terms_put, term_put, delta_put, act_put, call_put, choice_put, seq_put, merge_put, sync_put, left_put, cond_put, sum_put, around_put, none_puts, more_puts}
use Rattle.proc_unfold.proofs.putting.+put.Goals as goal

pub put_in-put_boxed-requires : goal.put_in-put_boxed-requires
put_in-put_boxed-requires t c =
    let parts = subst (IsProcessIn c.args.pool.now.trees) (ap plain_process c.in-Cond.is ∙ cond_step c.in-Cond.condition c.in-Cond.then c.in-Cond.other) c.requires.within in (
      omega (arith, then_smaller c.args.process.now c.deref-in-Cond.result.now c.in-Cond.condition c.in-Cond.then c.in-Cond.other c.in-Cond.is c.deref-in-Cond.ensures, c.decreases),
      (
        process_kept c.args.pool.now.trees c.subst.new.self.trees c.subst.ensures.kept (plain_process c.deref-in-Cond.result.now) (subst (λ p. IsProcessIn c.args.pool.now.trees (plain_process p)) (sym c.deref-in-Cond.ensures) parts.1),
        all_in_kept c.args.pool.now.trees c.subst.new.self.trees (listed_terms c.args.by.now) c.subst.ensures.kept c.requires.listed,
      ),
    )

pub put_in-put_boxed-requires-in-Cond : goal.put_in-put_boxed-requires-in-Cond
put_in-put_boxed-requires-in-Cond t c =
    let parts = subst (IsProcessIn c.args.pool.now.trees) (ap plain_process c.in-Cond.is ∙ cond_step c.in-Cond.condition c.in-Cond.then c.in-Cond.other) c.requires.within in
    let grown = extends_on c.args.pool.now.trees c.subst.new.self.trees c.put_boxed.new.pool.trees c.subst.ensures.kept c.put_boxed.ensures.kept in (
      omega (arith, other_smaller c.args.process.now c.deref-in-Cond-2.result.now c.in-Cond.condition c.in-Cond.then c.in-Cond.other c.in-Cond.is c.deref-in-Cond-2.ensures, c.decreases),
      (
        process_kept c.args.pool.now.trees c.put_boxed.new.pool.trees grown (plain_process c.deref-in-Cond-2.result.now) (subst (λ p. IsProcessIn c.args.pool.now.trees (plain_process p)) (sym c.deref-in-Cond-2.ensures) parts.2),
        all_in_kept c.args.pool.now.trees c.put_boxed.new.pool.trees (listed_terms c.args.by.now) grown c.requires.listed,
      ),
    )

pub put_in-put_boxed-requires-in-Sum : goal.put_in-put_boxed-requires-in-Sum
put_in-put_boxed-requires-in-Sum t c =
    let part = subst (IsProcessIn c.args.pool.now.trees) (ap plain_process c.in-Sum.is ∙ sum_step c.in-Sum.vars c.in-Sum.part) c.requires.within in (
      omega (arith, summed_smaller c.args.process.now c.deref-in-Sum-2.result.now c.in-Sum.vars c.in-Sum.part c.in-Sum.is c.deref-in-Sum-2.ensures, c.decreases),
      (
        subst (λ p. IsProcessIn c.args.pool.now.trees (plain_process p)) (sym c.deref-in-Sum-2.ensures) part,
        subst (λ by. AreIn c.args.pool.now.trees (listed_terms by)) (sym (c.as_slice.ensures.value ∙ c.in_ok-left-in-Sum.ensures)) (listed_without c.args.pool.now.trees _ c.args.by.now c.requires.listed),
      ),
    )

pub put_in-returns-in-Delta-clause-put : goal.put_in-returns-in-Delta-clause-put
put_in-returns-in-Delta-clause-put t c = delta_put _ _ _ c.in-Delta.is

pub put_in-returns-in_ok-put_label-in-Act-clause-put : goal.put_in-returns-in_ok-put_label-in-Act-clause-put
put_in-returns-in_ok-put_label-in-Act-clause-put t c =
    let own = subst (IsProcessIn c.args.pool.now.trees) (ap plain_process c.in-Act.is ∙ act_step c.in-Act.label) c.requires.within in
    act_put c.put_label.new.pool.trees c.args.by.now c.args.pool.now.trees c.args.process.now c.in-Act.label c.in_ok-put_label-in-Act.field-0 c.in-Act.is own c.requires.listed c.put_label.ensures.kept c.in_ok-put_label-in-Act.ensures.within c.in_ok-put_label-in-Act.ensures.label

pub put_in-returns-in_ok-put_all-in-Call-clause-put : goal.put_in-returns-in_ok-put_all-in-Call-clause-put
put_in-returns-in_ok-put_all-in-Call-clause-put t c =
    let own = subst (IsProcessIn c.args.pool.now.trees) (ap plain_process c.in-Call.is ∙ call_step c.in-Call.callee c.in-Call.args) c.requires.within in
    call_put c.put_all.new.pool.trees c.args.by.now c.args.process.now c.in-Call.callee c.in-Call.args c.in_ok-put_all-in-Call.field-0 c.deref.result.now c.in-Call.is c.deref.ensures.value
    (terms_put c.args.pool.now.trees c.put_all.new.pool.trees c.args.by.now c.deref.result.now c.in_ok-put_all-in-Call.field-0.items (subst (AreIn c.args.pool.now.trees) (sym c.deref.ensures.value) own) c.requires.listed c.put_all.ensures.kept c.in_ok-put_all-in-Call.ensures.within c.in_ok-put_all-in-Call.ensures.terms)

pub put_in-returns-in_ok-put_in_all-in-Choice-clause-put : goal.put_in-returns-in_ok-put_in_all-in-Choice-clause-put
put_in-returns-in_ok-put_in_all-in-Choice-clause-put t c = choice_put _ _ _ _ _ _ c.in-Choice.is c.deref-in-Choice.ensures.value c.in_ok-put_in_all-in-Choice.ensures.put

pub put_in-returns-in_ok-put_in_all-in-Seq-clause-put : goal.put_in-returns-in_ok-put_in_all-in-Seq-clause-put
put_in-returns-in_ok-put_in_all-in-Seq-clause-put t c = seq_put _ _ _ _ _ _ c.in-Seq.is c.deref-in-Seq.ensures.value c.in_ok-put_in_all-in-Seq.ensures.put

pub put_in-returns-in_ok-put_in_all-in-Merge-clause-put : goal.put_in-returns-in_ok-put_in_all-in-Merge-clause-put
put_in-returns-in_ok-put_in_all-in-Merge-clause-put t c = merge_put _ _ _ _ _ _ c.in-Merge.is c.deref-in-Merge.ensures.value c.in_ok-put_in_all-in-Merge.ensures.put

pub put_in-returns-in_ok-put_boxed-in-Cond-2-clause-put : goal.put_in-returns-in_ok-put_boxed-in-Cond-2-clause-put
put_in-returns-in_ok-put_boxed-in-Cond-2-clause-put t c =
    let parts = subst (IsProcessIn c.args.pool.now.trees) (ap plain_process c.in-Cond.is ∙ cond_step c.in-Cond.condition c.in-Cond.then c.in-Cond.other) c.requires.within in
    cond_put c.put_boxed-in-Cond.new.pool.trees c.args.by.now c.subst.new.self.trees c.put_boxed.new.pool.trees c.args.process.now c.in-Cond.condition c.in_ok-subst-in-Cond.field-0 c.in-Cond.then c.in-Cond.other c.in_ok-put_boxed-in-Cond.field-0 c.in_ok-put_boxed-in-Cond-2.field-0 c.deref-in-Cond.result.now c.deref-in-Cond-2.result.now
    c.in-Cond.is c.deref-in-Cond.ensures c.deref-in-Cond-2.ensures c.put_boxed.ensures.kept c.put_boxed-in-Cond.ensures.kept
    (term_put c.args.pool.now.trees c.subst.new.self.trees c.args.by.now c.in-Cond.condition c.in_ok-subst-in-Cond.field-0 parts.0 c.requires.listed c.subst.ensures.kept c.in_ok-subst-in-Cond.ensures.within c.in_ok-subst-in-Cond.ensures.tree)
    c.in_ok-put_boxed-in-Cond.ensures.put c.in_ok-put_boxed-in-Cond-2.ensures.put

pub put_in-returns-in_ok-to_vec-in-Sum-clause-put : goal.put_in-returns-in_ok-to_vec-in-Sum-clause-put
put_in-returns-in_ok-to_vec-in-Sum-clause-put t c =
    sum_put c.put_boxed-in-Sum.new.pool.trees c.args.by.now c.args.process.now c.in-Sum.vars c.in_ok-to_vec-in-Sum.field-0 c.in-Sum.part c.in_ok-part-in-Sum.part c.deref-in-Sum-2.result.now c.deref-in-Sum.result.now c.in_ok-left-in-Sum.left.items c.as_slice.result.now
    c.in-Sum.is c.deref-in-Sum-2.ensures c.deref-in-Sum.ensures.value c.in_ok-left-in-Sum.ensures c.as_slice.ensures.value (search rules) c.in_ok-part-in-Sum.ensures.put

pub put_in_all-loop-part-init : goal.put_in_all-loop-part-init
put_in_all-loop-part-init t c = (extends_itself c.args.pool.now.trees, refl, none_puts c.args.pool.now.trees c.args.by.now c.args.parts.now _ c.new-made.ensures.items)

pub put_in_all-put_in-requires : goal.put_in_all-put_in-requires
put_in_all-put_in-requires t c = (
  omega (arith, operand_no_larger c.args.parts.now c.loop-part.part-index c.part-item.result c.loop-part-test.true c.part-item.is, c.decreases),
  (
    process_kept c.args.pool.now.trees c.loop-part.pool.trees c.loop-part.invariant.0 (plain_process c.part-item.result) (part_in c.args.pool.now.trees c.args.parts.now c.loop-part.part-index c.part-item.result c.loop-part-test.true c.part-item.is c.requires.within),
    all_in_kept c.args.pool.now.trees c.loop-part.pool.trees (listed_terms c.args.by.now) c.loop-part.invariant.0 c.requires.listed,
  ),
)

pub put_in_all-loop-part-preserved : goal.put_in_all-loop-part-preserved
put_in_all-loop-part-preserved t c = (
  extends_on c.args.pool.now.trees c.loop-part.pool.trees c.put_in.new.pool.trees c.loop-part.invariant.0 c.put_in.ensures.kept,
  c.put_in.ensures.constants ∙ c.loop-part.invariant.1,
  more_puts c.loop-part.pool.trees c.put_in.new.pool.trees c.args.by.now c.args.parts.now c.loop-part.part-index _ _ c.loop-part.made.items c.push.new.self.items c.loop-part-test.true c.part-item.is c.in_ok-push.ensures.items c.loop-part.invariant.2 c.put_in.ensures.kept c.in_ok-put_in.ensures.put,
)

pub put_under-returns-clause-put : goal.put_under-returns-clause-put
put_under-returns-clause-put t c = around_put _ _ _ _ _ _ c.around.ensures c.in_ok-put_boxed.ensures.put

pub put_in-put_in_all-requires : goal.put_in-put_in_all-requires
put_in-put_in_all-requires t c =
    let parts = subst (IsProcessIn c.args.pool.now.trees) (ap plain_process c.in-Choice.is ∙ choice_step c.in-Choice.parts) c.requires.within in (
      omega (arith, choices_smaller c.args.process.now c.in-Choice.parts c.deref-in-Choice.result.now c.in-Choice.is c.deref-in-Choice.ensures.value, c.decreases),
      (
        subst (λ l. AreProcessesIn c.args.pool.now.trees (processes_of (map plain_process l))) (sym c.deref-in-Choice.ensures.value) parts,
        c.requires.listed,
      ),
    )

pub put_in-put_in_all-requires-in-Seq : goal.put_in-put_in_all-requires-in-Seq
put_in-put_in_all-requires-in-Seq t c =
    let parts = subst (IsProcessIn c.args.pool.now.trees) (ap plain_process c.in-Seq.is ∙ seq_step c.in-Seq.parts) c.requires.within in (
      omega (arith, steps_smaller c.args.process.now c.in-Seq.parts c.deref-in-Seq.result.now c.in-Seq.is c.deref-in-Seq.ensures.value, c.decreases),
      (
        subst (λ l. AreProcessesIn c.args.pool.now.trees (processes_of (map plain_process l))) (sym c.deref-in-Seq.ensures.value) parts,
        c.requires.listed,
      ),
    )

pub put_in-put_in_all-requires-in-Merge : goal.put_in-put_in_all-requires-in-Merge
put_in-put_in_all-requires-in-Merge t c =
    let parts = subst (IsProcessIn c.args.pool.now.trees) (ap plain_process c.in-Merge.is ∙ merge_step c.in-Merge.parts) c.requires.within in (
      omega (arith, merged_smaller c.args.process.now c.in-Merge.parts c.deref-in-Merge.result.now c.in-Merge.is c.deref-in-Merge.ensures.value, c.decreases),
      (
        subst (λ l. AreProcessesIn c.args.pool.now.trees (processes_of (map plain_process l))) (sym c.deref-in-Merge.ensures.value) parts,
        c.requires.listed,
      ),
    )

pub put_in-put_under-requires : goal.put_in-put_under-requires
put_in-put_under-requires t c =
    let is = ap plain_process c.in-Allow.is ∙ allow_step c.in-Allow.sets c.in-Allow.part in (
      omega (arith, around_smaller c.args.process.now _ c.in-Allow.part c.deref-in-Allow.result.now is c.deref-in-Allow.ensures, c.decreases),
      (
        under_in c.args.pool.now.trees c.args.process.now c.deref-in-Allow.result.now _ c.in-Allow.part is c.deref-in-Allow.ensures c.requires.within,
        c.requires.listed,
      ),
    )

pub put_in-put_under-requires-in-Block : goal.put_in-put_under-requires-in-Block
put_in-put_under-requires-in-Block t c =
    let is = ap plain_process c.in-Block.is ∙ block_step c.in-Block.names c.in-Block.part in (
      omega (arith, around_smaller c.args.process.now _ c.in-Block.part c.deref-in-Block.result.now is c.deref-in-Block.ensures, c.decreases),
      (
        under_in c.args.pool.now.trees c.args.process.now c.deref-in-Block.result.now _ c.in-Block.part is c.deref-in-Block.ensures c.requires.within,
        c.requires.listed,
      ),
    )

pub put_in-put_under-requires-in-Hide : goal.put_in-put_under-requires-in-Hide
put_in-put_under-requires-in-Hide t c =
    let is = ap plain_process c.in-Hide.is ∙ hide_step c.in-Hide.names c.in-Hide.part in (
      omega (arith, around_smaller c.args.process.now _ c.in-Hide.part c.deref-in-Hide.result.now is c.deref-in-Hide.ensures, c.decreases),
      (
        under_in c.args.pool.now.trees c.args.process.now c.deref-in-Hide.result.now _ c.in-Hide.part is c.deref-in-Hide.ensures c.requires.within,
        c.requires.listed,
      ),
    )

pub put_in-put_under-requires-in-Rename : goal.put_in-put_under-requires-in-Rename
put_in-put_under-requires-in-Rename t c =
    let is = ap plain_process c.in-Rename.is ∙ rename_step c.in-Rename.renamings c.in-Rename.part in (
      omega (arith, around_smaller c.args.process.now _ c.in-Rename.part c.deref-in-Rename.result.now is c.deref-in-Rename.ensures, c.decreases),
      (
        under_in c.args.pool.now.trees c.args.process.now c.deref-in-Rename.result.now _ c.in-Rename.part is c.deref-in-Rename.ensures c.requires.within,
        c.requires.listed,
      ),
    )

pub put_in-put_under-requires-in-Comm : goal.put_in-put_under-requires-in-Comm
put_in-put_under-requires-in-Comm t c =
    let is = ap plain_process c.in-Comm.is ∙ comm_step c.in-Comm.set c.in-Comm.part in (
      omega (arith, around_smaller c.args.process.now _ c.in-Comm.part c.deref-in-Comm.result.now is c.deref-in-Comm.ensures, c.decreases),
      (
        under_in c.args.pool.now.trees c.args.process.now c.deref-in-Comm.result.now _ c.in-Comm.part is c.deref-in-Comm.ensures c.requires.within,
        c.requires.listed,
      ),
    )

pub put_in-put_boxed-requires-in-LeftMerge : goal.put_in-put_boxed-requires-in-LeftMerge
put_in-put_boxed-requires-in-LeftMerge t c =
    let parts = subst (IsProcessIn c.args.pool.now.trees) (ap plain_process c.in-LeftMerge.is ∙ left_merge_step c.in-LeftMerge.first c.in-LeftMerge.second) c.requires.within in (
      omega (arith, first_smaller c.args.process.now c.deref-in-LeftMerge.result.now c.in-LeftMerge.first c.in-LeftMerge.second c.in-LeftMerge.is c.deref-in-LeftMerge.ensures, c.decreases),
      (
        subst (λ p. IsProcessIn c.args.pool.now.trees (plain_process p)) (sym c.deref-in-LeftMerge.ensures) parts.0,
        c.requires.listed,
      ),
    )

pub put_in-put_boxed-requires-in-LeftMerge-2 : goal.put_in-put_boxed-requires-in-LeftMerge-2
put_in-put_boxed-requires-in-LeftMerge-2 t c =
    let parts = subst (IsProcessIn c.args.pool.now.trees) (ap plain_process c.in-LeftMerge.is ∙ left_merge_step c.in-LeftMerge.first c.in-LeftMerge.second) c.requires.within in
    let grown = c.put_boxed-in-LeftMerge.ensures.kept in (
      omega (arith, second_smaller c.args.process.now c.deref-in-LeftMerge-2.result.now c.in-LeftMerge.first c.in-LeftMerge.second c.in-LeftMerge.is c.deref-in-LeftMerge-2.ensures, c.decreases),
      (
        process_kept c.args.pool.now.trees c.put_boxed-in-LeftMerge.new.pool.trees grown (plain_process c.deref-in-LeftMerge-2.result.now) (subst (λ p. IsProcessIn c.args.pool.now.trees (plain_process p)) (sym c.deref-in-LeftMerge-2.ensures) parts.1),
        all_in_kept c.args.pool.now.trees c.put_boxed-in-LeftMerge.new.pool.trees (listed_terms c.args.by.now) grown c.requires.listed,
      ),
    )

pub put_in-returns-in_ok-put_boxed-in-LeftMerge-2-clause-put : goal.put_in-returns-in_ok-put_boxed-in-LeftMerge-2-clause-put
put_in-returns-in_ok-put_boxed-in-LeftMerge-2-clause-put t c =
    left_put c.put_boxed-in-LeftMerge-2.new.pool.trees c.args.by.now c.put_boxed-in-LeftMerge.new.pool.trees c.args.process.now c.in-LeftMerge.first c.in-LeftMerge.second c.in_ok-put_boxed-in-LeftMerge.field-0 c.in_ok-put_boxed-in-LeftMerge-2.field-0 c.deref-in-LeftMerge.result.now c.deref-in-LeftMerge-2.result.now
    c.in-LeftMerge.is c.deref-in-LeftMerge.ensures c.deref-in-LeftMerge-2.ensures c.put_boxed-in-LeftMerge-2.ensures.kept c.in_ok-put_boxed-in-LeftMerge.ensures.put c.in_ok-put_boxed-in-LeftMerge-2.ensures.put

pub put_in-put_in_all-requires-in-Sync : goal.put_in-put_in_all-requires-in-Sync
put_in-put_in_all-requires-in-Sync t c =
    let parts = subst (IsProcessIn c.args.pool.now.trees) (ap plain_process c.in-Sync.is ∙ sync_step c.in-Sync.parts) c.requires.within in (
      omega (arith, synced_smaller c.args.process.now c.in-Sync.parts c.deref-in-Sync.result.now c.in-Sync.is c.deref-in-Sync.ensures.value, c.decreases),
      (
        subst (λ l. AreProcessesIn c.args.pool.now.trees (processes_of (map plain_process l))) (sym c.deref-in-Sync.ensures.value) parts,
        c.requires.listed,
      ),
    )

pub put_in-returns-in_ok-put_in_all-in-Sync-clause-put : goal.put_in-returns-in_ok-put_in_all-in-Sync-clause-put
put_in-returns-in_ok-put_in_all-in-Sync-clause-put t c = sync_put _ _ _ _ _ _ c.in-Sync.is c.deref-in-Sync.ensures.value c.in_ok-put_in_all-in-Sync.ensures.put
