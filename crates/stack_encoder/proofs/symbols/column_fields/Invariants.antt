use Rattle.stack_encoder.proofs.NewWords.{IsNamingFields}
use Rattle.stack_encoder.proofs.symbols.column_fields.Given as goal

abbrev pub invariant-loop-number : goal.invariant-loop-number
invariant-loop-number l = IsNamingFields l.fn.sig l.kinds.keys l.number l.sig l.fields.items
