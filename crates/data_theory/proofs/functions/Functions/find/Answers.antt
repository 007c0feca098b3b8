use Rattle.data_theory.proofs.FunctionLemmas.{found_function, no_function}
use Rattle.data_theory.proofs.functions.Functions.find.Goals as goal

pub returns-in_err-place : goal.returns-in_err-place
returns-in_err-place c = rw c.from_residual.ensures (rw (← c.self.view_is) (no_function _ _ _ c.self.invariant.keyed c.in_err-place.ensures))

pub returns : goal.returns
returns c = rw (← c.self.view_is) (found_function _ _ _ _ c.self.invariant.keyed c.in_ok-place.ensures)
