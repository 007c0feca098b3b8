use Rattle.std.proofs.Common.{◌≡◌, ◌∷◌, map, take, Some}
use Rattle.data_theory.specs.Table.{pos_sort}
use Rattle.stack_encoder.specs.StackEntries.{named_field}
use Rattle.stack_encoder.proofs.symbols.push_fields.Given as goal

abbrev pub invariant-loop-number : goal.invariant-loop-number
invariant-loop-number l = l.fields.items ≡ (Some l.words.pc, pos_sort) ∷ map named_field (take l.number l.words.fields.items)
