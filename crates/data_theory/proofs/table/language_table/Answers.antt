use Rattle.std.proofs.Common.{◌∙◌}
use Rattle.data_theory.specs.Table.{language_table}
use Rattle.data_theory.proofs.RowLemmas.{rows_appended}
use Rattle.data_theory.proofs.table.language_table.Goals as goal

pub returns : goal.returns
unfolding language_table
returns c = rows_appended _ _ _ _ _ (rows_appended _ _ _ _ _ (rows_appended _ _ _ _ _ (rows_appended _ _ _ _ _ (rows_appended _ _ _ _ _ (rows_appended _ _ _ _ _ (rows_appended _ _ _ _ _ (rows_appended _ _ _ _ _ (c.in_ok-rows.ensures.items ∙ c.truth_rows.ensures) c.in_ok-extend_from_slice.ensures.items c.sort_rows.ensures) c.in_ok-extend_from_slice-2.ensures.items c.comparison_rows.ensures) c.in_ok-extend_from_slice-3.ensures.items c.sum_rows.ensures) c.in_ok-extend_from_slice-4.ensures.items c.first_rows.ensures) c.in_ok-extend_from_slice-5.ensures.items c.quotient_rows.ensures) c.in_ok-extend_from_slice-6.ensures.items c.extreme_rows.ensures) c.in_ok-extend_from_slice-7.ensures.items c.step_rows.ensures) c.in_ok-extend_from_slice-8.ensures.items c.list_rows.ensures
