use Rattle.std.proofs.Common.{List, ap, sym, ◌∙◌, map}
use Rattle.std.specs.Option.{option_or}
use denote.Ref.{Bor}
use Rattle.mcrl2_syntax.specs.declared.process_tree.Renaming.{Renaming}
use Rattle.mcrl2_syntax.specs.declared.process_tree.ProcTree.{ProcTree}
use Rattle.mcrl2_syntax.specs.ProcessParts.{renaming_of}
use Rattle.sort_table.specs.Expressions.{Name}
use Rattle.sort_checker.specs.RenamedTrees.{again_among}
use Rattle.sort_checker.proofs.Firsts.{here, further, none_told, some_told, ok_then}
use Rattle.sort_checker.proofs.AgainNames.{again_in_one, again_in_all, processes_searched, rename_again, either_again, left_merge_again, in_front, in_back}
use Rattle.sort_checker.proofs.renamings.+renames.Goals as goal

abbrev now_of : Bor Name → Name
now_of n = n.now

pub again_in_process-returns-in-Some : goal.again_in_process-returns-in-Some
again_in_process-returns-in-Some t c =
    in_front now_of (again_in_one c.args.process.now) (again_among (map renaming_of c.as_slice.result.now)) (again_in_one c.in-Rename.inner.value) c.in_ok-name-in-Rename.field-0 c.in-Some.name
    (ap again_in_one c.in-Rename.is ∙ (rename_again c.in-Rename.field-0 c.in-Rename.renamings c.in-Rename.inner ∙ ap (λ (rs : List Renaming). option_or (again_among (map renaming_of rs)) (again_in_one c.in-Rename.inner.value)) (sym c.as_slice.ensures.value)))
    c.in_ok-name-in-Rename.ensures c.in-Some.is

pub again_in_process-returns-in-None : goal.again_in_process-returns-in-None
again_in_process-returns-in-None t c =
    ok_then c.again_in_process.result c.again_in_process.ensures
    (λ q told. in_back now_of (again_in_one c.args.process.now) (again_among (map renaming_of c.as_slice.result.now)) (again_in_one c.deref.result.now) c.in_ok-name-in-Rename.field-0 q
    (ap again_in_one c.in-Rename.is ∙ (rename_again c.in-Rename.field-0 c.in-Rename.renamings c.in-Rename.inner ∙ (λ i. option_or (again_among (map renaming_of (sym c.as_slice.ensures.value i))) (again_in_one (sym c.deref.ensures i)))))
    c.in_ok-name-in-Rename.ensures c.in-None.is told)

pub again_in_process-returns-in-Some-2 : goal.again_in_process-returns-in-Some-2
again_in_process-returns-in-Some-2 t c =
    in_front now_of (again_in_one c.args.process.now) (again_in_one c.deref-in-Either.result.now) (again_in_one c.in-Either.other.value) c.in_ok-name-in-Either.field-0 c.in-Some-2.name
    (ap again_in_one c.in-Either.is ∙ (either_again c.in-Either.field-0 c.in-Either.field-1 c.in-Either.then c.in-Either.other ∙ ap (λ (p : ProcTree). option_or (again_in_one p) (again_in_one c.in-Either.other.value)) (sym c.deref-in-Either.ensures)))
    c.in_ok-name-in-Either.ensures c.in-Some-2.is

pub again_in_process-returns-in-None-2 : goal.again_in_process-returns-in-None-2
again_in_process-returns-in-None-2 t c =
    ok_then c.again_in_process-in-None-2.result c.again_in_process-in-None-2.ensures
    (λ q told. in_back now_of (again_in_one c.args.process.now) (again_in_one c.deref-in-Either.result.now) (again_in_one c.deref-in-None-2.result.now) c.in_ok-name-in-Either.field-0 q
    (ap again_in_one c.in-Either.is ∙ (either_again c.in-Either.field-0 c.in-Either.field-1 c.in-Either.then c.in-Either.other ∙ (λ i. option_or (again_in_one (sym c.deref-in-Either.ensures i)) (again_in_one (sym c.deref-in-None-2.ensures i)))))
    c.in_ok-name-in-Either.ensures c.in-None-2.is told)

pub again_in_process-returns-in-Some-3 : goal.again_in_process-returns-in-Some-3
again_in_process-returns-in-Some-3 t c =
    in_front now_of (again_in_one c.args.process.now) (again_in_one c.deref-in-LeftMerge.result.now) (again_in_one c.in-LeftMerge.second.value) c.in_ok-name-in-LeftMerge.field-0 c.in-Some-3.name
    (ap again_in_one c.in-LeftMerge.is ∙ (left_merge_again c.in-LeftMerge.field-0 c.in-LeftMerge.first c.in-LeftMerge.second ∙ ap (λ (p : ProcTree). option_or (again_in_one p) (again_in_one c.in-LeftMerge.second.value)) (sym c.deref-in-LeftMerge.ensures)))
    c.in_ok-name-in-LeftMerge.ensures c.in-Some-3.is

pub again_in_process-returns-in-None-3 : goal.again_in_process-returns-in-None-3
again_in_process-returns-in-None-3 t c =
    ok_then c.again_in_process-in-None-3.result c.again_in_process-in-None-3.ensures
    (λ q told. in_back now_of (again_in_one c.args.process.now) (again_in_one c.deref-in-LeftMerge.result.now) (again_in_one c.deref-in-None-3.result.now) c.in_ok-name-in-LeftMerge.field-0 q
    (ap again_in_one c.in-LeftMerge.is ∙ (left_merge_again c.in-LeftMerge.field-0 c.in-LeftMerge.first c.in-LeftMerge.second ∙ (λ i. option_or (again_in_one (sym c.deref-in-LeftMerge.ensures i)) (again_in_one (sym c.deref-in-None-3.ensures i)))))
    c.in_ok-name-in-LeftMerge.ensures c.in-None-3.is told)

pub again_in_processes-returns-in-Some : goal.again_in_processes-returns-in-Some
again_in_processes-returns-in-Some t c =
    sym (here again_in_all again_in_one processes_searched c.args.processes.now c.loop-process.process-index c.process-item.result c.in-Some.name.now c.loop-process-test.true c.process-item.is c.loop-process.invariant
    (some_told now_of c.in_ok-name.field-0 (again_in_one c.process-item.result) c.in-Some.name c.in_ok-name.ensures c.in-Some.is))

pub again_in_processes-loop-process-preserved : goal.again_in_processes-loop-process-preserved
again_in_processes-loop-process-preserved t c =
    further again_in_all again_in_one processes_searched c.args.processes.now c.loop-process.process-index c.process-item.result c.loop-process-test.true c.process-item.is c.loop-process.invariant
    (none_told now_of c.in_ok-name.field-0 (again_in_one c.process-item.result) c.in_ok-name.ensures c.in_default.is)
