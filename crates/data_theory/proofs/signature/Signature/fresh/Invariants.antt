use Rattle.std.proofs.Common.{◌≡◌, ◌<◌, ℕ}
use Rattle.data_theory.specs.Signature.{IsTaken}
use Rattle.data_theory.specs.Fresh.{candidate}
use Rattle.data_theory.proofs.signature.Signature.fresh.Given as goal

abbrev pub invariant-loop-number : goal.invariant-loop-number
invariant-loop-number l = record { same : l.self ≡ l.fn.self; taken : (k : ℕ) → k < l.number → IsTaken l.fn.self (candidate l.base k) }
