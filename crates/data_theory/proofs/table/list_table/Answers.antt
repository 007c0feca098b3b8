use Rattle.std.proofs.Common.{◌∙◌}
use Rattle.data_theory.specs.Table.{list_table}
use Rattle.data_theory.proofs.RowLemmas.{rows_appended}
use Rattle.data_theory.proofs.table.list_table.Goals as goal

pub returns : goal.returns
unfolding list_table
returns c = rows_appended _ _ _ _ _ (c.in_ok-rows.ensures.items ∙ c.sort_rows.ensures) c.in_ok-extend_from_slice.ensures.items c.list_rows.ensures
