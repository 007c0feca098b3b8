use Rattle.std.proofs.Common.{◌≡◌, ◌+◌, length, take}
use Rattle.data_theory.specs.Functions.{functions_of}
use Rattle.data_theory.specs.Structs.{cons_of, all_projections, all_recognisers, constructors_of}
use Rattle.data_theory.proofs.structs.constructors.Given as goal

abbrev pub invariant-loop-con : goal.invariant-loop-con
invariant-loop-con l = record {
  made : functions_of l.entries.items ≡ constructors_of l.sort l.projection l.test (cons_of (take l.con-index l.cons));
  projection : l.next_projection ≡ l.projection + length (all_projections l.sort (cons_of (take l.con-index l.cons)));
  test : l.next_test ≡ l.test + length (all_recognisers l.sort (cons_of (take l.con-index l.cons)));
}
