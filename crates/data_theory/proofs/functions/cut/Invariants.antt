use Rattle.std.proofs.Common.{◌≡◌, take, length}
use Rattle.data_theory.specs.Functions.{functions_of}
use Rattle.data_theory.specs.NamedFunctions.{AreNamedLists}
use Rattle.data_theory.proofs.functions.cut.Given as goal

abbrev pub invariant-loop-entries : goal.invariant-loop-entries
invariant-loop-entries l = record { front : take l.length (functions_of l.entries.items) ≡ take l.length (functions_of l.initial.entries.items); named : AreNamedLists (functions_of l.entries.items) l.named }

abbrev pub decreases-loop-entries : goal.decreases-loop-entries
decreases-loop-entries l = length l.entries.items
