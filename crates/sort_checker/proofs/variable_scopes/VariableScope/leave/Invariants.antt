use Rattle.std.proofs.Common.{◌-◌, length, take}
use Rattle.data_theory.specs.Signature.{Sig}
use Rattle.sort_table.specs.BareProcesses.{Variables}
use Rattle.sort_checker.specs.VariableScopes.{HasInScope}
use Rattle.sort_checker.proofs.variable_scopes.VariableScope.leave.Given as goal

abbrev pub invariant-loop-step : goal.invariant-loop-step
invariant-loop-step l = (g : Sig) (xs : Variables) → HasInScope g xs l.fn.self → HasInScope g (take (length xs - l._step) xs) l.self
