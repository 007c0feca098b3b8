use Rattle.std.proofs.Common.{◌≡◌, map, take}
use Rattle.data_theory.proofs.structs.sorts_of.Given as goal

abbrev pub invariant-loop-field : goal.invariant-loop-field
invariant-loop-field l = l.sorts.items ≡ map (λ field. field.1) (take l.field-index l.fields)
