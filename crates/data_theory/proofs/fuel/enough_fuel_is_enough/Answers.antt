use Rattle.data_theory.proofs.EnoughFuel.{enough_fuel_is_enough, uses_are_few}
use Rattle.data_theory.proofs.fuel.enough_fuel_is_enough.Goals as goal

pub returns : goal.returns
returns c = record { unfinished = enough_fuel_is_enough; finished = uses_are_few }
