use Rattle.sort_checker.proofs.StayingAlike.{processes_stay_alike, definitions_stay_alike, equations_stay_alike}
use Rattle.sort_checker.proofs.laws.other_declarations_change_nothing.Goals as goal

pub returns : goal.returns
returns c = record { processes = processes_stay_alike; definitions = definitions_stay_alike; equations = equations_stay_alike }
