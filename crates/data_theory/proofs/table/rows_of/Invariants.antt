use Rattle.std.proofs.Common.{◌≡◌, take}
use Rattle.std.specs.List.{filter}
use Rattle.data_theory.specs.RowsOfWords.{has_name}
use Rattle.data_theory.proofs.table.rows_of.Given as goal

abbrev pub invariant-loop-row : goal.invariant-loop-row
invariant-loop-row l = l.rows.items ≡ filter (has_name l.name) (take l.row-index l.row-items)
