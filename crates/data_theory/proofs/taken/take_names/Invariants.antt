use Rattle.std.proofs.Common.{◌≡◌, ◌+◌, ◌≤◌, length, take}
use Rattle.indexmap.specs.IndexSet.{spare}
use Rattle.data_theory.specs.Taken.{with_names}
use Rattle.data_theory.proofs.taken.take_names.Given as goal

abbrev pub invariant-loop-name : goal.invariant-loop-name
invariant-loop-name l = record { taken : l.taken.keys ≡ with_names l.initial.taken.keys (take l.name-index l.names); room : length l.names ≤ spare l.taken + l.name-index }
