use Rattle.std.proofs.Common.{◌≡◌, take}
use Rattle.data_theory.specs.Functions.{functions_of}
use Rattle.data_theory.specs.Structs.{cons_of, all_recognisers}
use Rattle.data_theory.proofs.structs.recognisers.Given as goal

abbrev pub invariant-loop-con : goal.invariant-loop-con
invariant-loop-con l = functions_of l.entries.items ≡ all_recognisers l.sort (cons_of (take l.con-index l.cons))
