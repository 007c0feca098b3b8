use Rattle.std.proofs.Common.{◌≡◌, ◌++◌, take}
use Rattle.data_theory.specs.Functions.{functions_of}
use Rattle.data_theory.specs.Structs.{projections_of}
use Rattle.data_theory.proofs.structs.push_projections.Given as goal

abbrev pub invariant-loop-field : goal.invariant-loop-field
invariant-loop-field l = functions_of l.entries.items ≡ functions_of l.initial.entries.items ++ projections_of l.sort (take l.field-index l.fields)
