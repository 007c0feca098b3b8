use Rattle.sort_checker.proofs.FittingElaborations.{what_elaborates_fits, definitions_fit}
use Rattle.sort_checker.proofs.FittingEquations.{equations_fit}
use Rattle.sort_checker.proofs.laws.what_elaborates_fits.Goals as goal

pub returns : goal.returns
returns c = record { processes = what_elaborates_fits; definitions = definitions_fit; equations = equations_fit }
