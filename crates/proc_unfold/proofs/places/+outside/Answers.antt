use Rattle.std.proofs.Common.{◌∙◌, sym, ap, arith, map}
use Rattle.process_terms.specs.PlainProcesses.{plain_process, processes_of}
use Rattle.proc_unfold.specs.ParallelTests.{all_outside}
use Rattle.proc_unfold.proofs.LoopLemmas.{outside_more, outside_not, if_ok_turned, choice_of_one, choice_of_others, seq_of_one, seq_of_others}
use Rattle.proc_unfold.proofs.places.+outside.Goals as goal

pub all_outside-returns-then-not-branch : goal.all_outside-returns-then-not-branch
all_outside-returns-then-not-branch t c = sym (outside_not c.args.marks.now c.args.parts.now c.loop-part.part-index _ c.loop-part-test.true c.part-item.is (sym c.in_ok-is_outside.ensures ∙ c.if-not-branch.true))

pub all_outside-loop-part-preserved : goal.all_outside-loop-part-preserved
all_outside-loop-part-preserved t c = outside_more c.args.marks.now c.args.parts.now c.loop-part.part-index _ c.loop-part-test.true c.part-item.is c.loop-part.invariant (sym c.in_ok-is_outside.ensures ∙ c.if-not-branch.false)

pub is_outside-returns-then-len-eq1 : goal.is_outside-returns-then-len-eq1
is_outside-returns-then-len-eq1 t c =
    if_ok_turned _ _ _ (ap (λ l. all_outside c.args.marks.now (processes_of (map plain_process l))) c.deref.ensures.value ∙ sym (choice_of_one c.args.marks.now c.args.process.now c.in-Choice.choices c.in-Choice.is (omega (arith, c.if-len-eq1.true, c.len.ensures, c.in-Choice.choices.ok.0)))) c.all_outside.ensures

pub is_outside-returns-else-len-eq1 : goal.is_outside-returns-else-len-eq1
is_outside-returns-else-len-eq1 t c =
    if_ok_turned _ _ _ (sym (choice_of_others c.args.marks.now c.args.process.now c.in-Choice.choices c.in-Choice.is (λ one. c.if-len-eq1.false (omega (arith, one, c.len.ensures, c.in-Choice.choices.ok.0))))) c.is_sequential.ensures

pub is_outside-returns-then-len-eq1-2 : goal.is_outside-returns-then-len-eq1-2
is_outside-returns-then-len-eq1-2 t c =
    if_ok_turned _ _ _ (ap (λ l. all_outside c.args.marks.now (processes_of (map plain_process l))) c.deref-then-len-eq1-2.ensures.value ∙ sym (seq_of_one c.args.marks.now c.args.process.now c.in-Seq.steps c.in-Seq.is (omega (arith, c.if-len-eq1-2.true, c.len-in-Seq.ensures, c.in-Seq.steps.ok.0)))) c.all_outside-then-len-eq1-2.ensures

pub is_outside-returns-else-len-eq1-2 : goal.is_outside-returns-else-len-eq1-2
is_outside-returns-else-len-eq1-2 t c =
    if_ok_turned _ _ _ (sym (seq_of_others c.args.marks.now c.args.process.now c.in-Seq.steps c.in-Seq.is (λ one. c.if-len-eq1-2.false (omega (arith, one, c.len-in-Seq.ensures, c.in-Seq.steps.ok.0))))) c.is_sequential-else-len-eq1-2.ensures
