use Rattle.std.proofs.Common.{◌++◌, ap, sym, ◌∙◌}
use Rattle.std.specs.Prelude.{not, is_some}
use Rattle.sort_table.specs.NamedLists.{first_named}
use Rattle.sort_table.specs.IndexedKinds.{kinds_of_index}
use Rattle.sort_table.specs.UsedNames.{names_of_groups}
use Rattle.sort_table.proofs.Searches.{further, here}
use Rattle.sort_table.proofs.UsedNameLemmas.{processes_listed, sums_of_all, sums_of_one, sum_names, either_names, left_merge_names, in_front, in_back}
use Rattle.sort_table.proofs.unknown_sorts.+sums.Goals as goal

pub unknown_in_process-returns-in-Some : goal.unknown_in_process-returns-in-Some
unknown_in_process-returns-in-Some t c =
    in_front (kinds_of_index c.args.index.now) (sums_of_one c.args.process.now) (names_of_groups c.as_slice.result.now) (sums_of_one c.in-Sum.inner.value) c.unknown_in_groups.result c.in-Some.name
    (ap sums_of_one c.in-Sum.is ∙ (sum_names c.in-Sum.field-0 c.in-Sum.groups c.in-Sum.inner ∙ ap (λ gs. names_of_groups gs ++ sums_of_one c.in-Sum.inner.value) (sym c.as_slice.ensures.value)))
    c.unknown_in_groups.ensures c.in-Some.is

pub unknown_in_process-returns-in-None : goal.unknown_in_process-returns-in-None
unknown_in_process-returns-in-None t c =
    in_back (kinds_of_index c.args.index.now) (sums_of_one c.args.process.now) (names_of_groups c.as_slice.result.now) (sums_of_one c.deref.result.now) c.unknown_in_groups.result c.unknown_in_process.result
    (ap sums_of_one c.in-Sum.is ∙ (sum_names c.in-Sum.field-0 c.in-Sum.groups c.in-Sum.inner ∙ (λ i. names_of_groups (sym c.as_slice.ensures.value i) ++ sums_of_one (sym c.deref.ensures i))))
    c.unknown_in_groups.ensures c.in-None.is c.unknown_in_process.ensures

pub unknown_in_process-returns-in-Some-unknown_in_process : goal.unknown_in_process-returns-in-Some-unknown_in_process
unknown_in_process-returns-in-Some-unknown_in_process t c =
    in_front (kinds_of_index c.args.index.now) (sums_of_one c.args.process.now) (sums_of_one c.deref-in-Either.result.now) (sums_of_one c.in-Either.other.value) c.unknown_in_process-in-Either.result c.in-Some-unknown_in_process.name
    (ap sums_of_one c.in-Either.is ∙ (either_names c.in-Either.field-0 c.in-Either.field-1 c.in-Either.then c.in-Either.other ∙ ap (λ p. sums_of_one p ++ sums_of_one c.in-Either.other.value) (sym c.deref-in-Either.ensures)))
    c.unknown_in_process-in-Either.ensures c.in-Some-unknown_in_process.is

pub unknown_in_process-returns-in-None-unknown_in_process : goal.unknown_in_process-returns-in-None-unknown_in_process
unknown_in_process-returns-in-None-unknown_in_process t c =
    in_back (kinds_of_index c.args.index.now) (sums_of_one c.args.process.now) (sums_of_one c.deref-in-Either.result.now) (sums_of_one c.deref-in-None-unknown_in_process.result.now) c.unknown_in_process-in-Either.result c.unknown_in_process-in-None-unknown_in_process.result
    (ap sums_of_one c.in-Either.is ∙ (either_names c.in-Either.field-0 c.in-Either.field-1 c.in-Either.then c.in-Either.other ∙ (λ i. sums_of_one (sym c.deref-in-Either.ensures i) ++ sums_of_one (sym c.deref-in-None-unknown_in_process.ensures i))))
    c.unknown_in_process-in-Either.ensures c.in-None-unknown_in_process.is c.unknown_in_process-in-None-unknown_in_process.ensures

pub unknown_in_process-returns-in-Some-unknown_in_process-2 : goal.unknown_in_process-returns-in-Some-unknown_in_process-2
unknown_in_process-returns-in-Some-unknown_in_process-2 t c =
    in_front (kinds_of_index c.args.index.now) (sums_of_one c.args.process.now) (sums_of_one c.deref-in-LeftMerge.result.now) (sums_of_one c.in-LeftMerge.second.value) c.unknown_in_process-in-LeftMerge.result c.in-Some-unknown_in_process-2.name
    (ap sums_of_one c.in-LeftMerge.is ∙ (left_merge_names c.in-LeftMerge.field-0 c.in-LeftMerge.first c.in-LeftMerge.second ∙ ap (λ p. sums_of_one p ++ sums_of_one c.in-LeftMerge.second.value) (sym c.deref-in-LeftMerge.ensures)))
    c.unknown_in_process-in-LeftMerge.ensures c.in-Some-unknown_in_process-2.is

pub unknown_in_process-returns-in-None-unknown_in_process-2 : goal.unknown_in_process-returns-in-None-unknown_in_process-2
unknown_in_process-returns-in-None-unknown_in_process-2 t c =
    in_back (kinds_of_index c.args.index.now) (sums_of_one c.args.process.now) (sums_of_one c.deref-in-LeftMerge.result.now) (sums_of_one c.deref-in-None-unknown_in_process-2.result.now) c.unknown_in_process-in-LeftMerge.result c.unknown_in_process-in-None-unknown_in_process-2.result
    (ap sums_of_one c.in-LeftMerge.is ∙ (left_merge_names c.in-LeftMerge.field-0 c.in-LeftMerge.first c.in-LeftMerge.second ∙ (λ i. sums_of_one (sym c.deref-in-LeftMerge.ensures i) ++ sums_of_one (sym c.deref-in-None-unknown_in_process-2.ensures i))))
    c.unknown_in_process-in-LeftMerge.ensures c.in-None-unknown_in_process-2.is c.unknown_in_process-in-None-unknown_in_process-2.ensures

pub unknown_in_processes-returns-in-Some : goal.unknown_in_processes-returns-in-Some
unknown_in_processes-returns-in-Some t c =
    here sums_of_all sums_of_one (λ n. not (is_some (first_named n (kinds_of_index c.args.index.now)))) processes_listed c.args.processes.now c.loop-process.process-index c.process-item.result c.unknown_in_process.result c.in-Some.name c.loop-process-test.true c.process-item.is c.loop-process.invariant c.unknown_in_process.ensures c.in-Some.is

pub unknown_in_processes-loop-process-preserved : goal.unknown_in_processes-loop-process-preserved
unknown_in_processes-loop-process-preserved t c =
    further sums_of_all sums_of_one (λ n. not (is_some (first_named n (kinds_of_index c.args.index.now)))) processes_listed c.args.processes.now c.loop-process.process-index c.process-item.result c.unknown_in_process.result c.loop-process-test.true c.process-item.is c.loop-process.invariant c.unknown_in_process.ensures c.in_default.is
