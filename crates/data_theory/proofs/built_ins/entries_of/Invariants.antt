use Rattle.std.proofs.Common.{◌≡◌, take}
use Rattle.data_theory.specs.Functions.{functions_of}
use Rattle.data_theory.specs.Rows.{built_ins}
use Rattle.data_theory.proofs.built_ins.entries_of.Given as goal

abbrev pub invariant-loop-row : goal.invariant-loop-row
invariant-loop-row l = functions_of l.entries.items ≡ built_ins l.names (take l.row-index l.rows)
