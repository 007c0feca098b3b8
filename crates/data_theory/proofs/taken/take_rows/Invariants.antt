use Rattle.std.proofs.Common.{map, take}
use Rattle.data_theory.specs.Rows.{row_text}
use Rattle.data_theory.specs.Taken.{Takes}
use Rattle.data_theory.proofs.taken.take_rows.Given as goal

abbrev pub invariant-loop-row : goal.invariant-loop-row
invariant-loop-row l = Takes l.initial.names l.initial.taken.keys (map row_text (take l.row-index l.rows)) l.names l.taken.keys
