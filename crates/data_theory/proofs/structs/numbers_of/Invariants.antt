use Rattle.std.proofs.Common.{◌≡◌, ◌+◌, take}
use Rattle.data_theory.specs.Structs.{numbers_of, named_fields}
use Rattle.data_theory.proofs.structs.numbers_of.Given as goal

abbrev pub invariant-loop-field : goal.invariant-loop-field
invariant-loop-field l = (l.numbers.items ≡ numbers_of l.initial.next (take l.field-index l.fields)) × (l.next ≡ l.initial.next + named_fields (take l.field-index l.fields))
