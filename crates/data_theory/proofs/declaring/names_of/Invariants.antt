use Rattle.std.proofs.Common.{◌≡◌, map, take}
use Rattle.data_theory.specs.Functions.{Function, functions_of}
use Rattle.data_theory.proofs.declaring.names_of.Given as goal

abbrev pub invariant-loop-entry : goal.invariant-loop-entry
invariant-loop-entry l = l.names.items ≡ map (λ (f : Function). f.name) (functions_of (take l.entry-index l.entries))
