use Rattle.sort_checker.proofs.ElaboratedSound.{elaborated_processes_are_sound}
use Rattle.sort_checker.proofs.ElaboratedEquations.{elaborated_equations_are_sound}
use Rattle.sort_checker.proofs.laws.what_elaborates_has_no_fault.Goals as goal

pub returns : goal.returns
returns c = record { processes = elaborated_processes_are_sound; equations = elaborated_equations_are_sound }
