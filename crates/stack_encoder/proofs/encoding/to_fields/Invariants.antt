use Rattle.std.proofs.Common.{◌≡◌}
use Rattle.stack_encoder.specs.Frames.{plain_symbols}
use Rattle.stack_encoder.specs.TreeStack.{field_tree}
use Rattle.stack_encoder.proofs.FieldLists.{IsMovingTo}
use Rattle.stack_encoder.proofs.encoding.to_fields.Given as goal

abbrev pub invariant-loop-number : goal.invariant-loop-number
invariant-loop-number l = IsMovingTo (field_tree (plain_symbols l.symbols) l.symbols.stack) l.fn.pool.trees l.params l.place l.number l.pool.trees l.by.items × (l.pool.constants ≡ l.fn.pool.constants)
