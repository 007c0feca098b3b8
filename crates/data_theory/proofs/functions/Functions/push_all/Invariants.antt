use Rattle.std.proofs.Common.{◌≡◌, ◌++◌}
use Rattle.data_theory.specs.Functions.{functions_of}
use Rattle.data_theory.proofs.functions.Functions.push_all.Given as goal

abbrev pub invariant-loop-entry : goal.invariant-loop-entry
invariant-loop-entry l = l.self ≡ l.initial.self ++ functions_of l.yielded
