use Rattle.std.proofs.Common.{◌≡◌}
use Rattle.data_theory.specs.Structs.{numbers_from}
use Rattle.stack_encoder.proofs.symbols.numbered.Given as goal

abbrev pub invariant-loop-number : goal.invariant-loop-number
invariant-loop-number l = l.found.items ≡ numbers_from l.first l.number
