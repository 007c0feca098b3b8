use Rattle.sort_checker.proofs.OtherNumbers.{elaborating_needs_no_numbers, definitions_need_no_numbers}
use Rattle.sort_checker.proofs.EquationNumbers.{equations_need_no_numbers}
use Rattle.sort_checker.proofs.laws.elaborating_needs_no_numbers.Goals as goal

pub returns : goal.returns
returns c = record { processes = elaborating_needs_no_numbers; definitions = definitions_need_no_numbers; equations = equations_need_no_numbers }
