use Rattle.sort_checker.proofs.SoundElaborations.{sound_processes_elaborate, sound_definitions_elaborate}
use Rattle.sort_checker.proofs.laws.what_has_no_fault_elaborates.Goals as goal

pub returns : goal.returns
returns c = record { processes = sound_processes_elaborate; definitions = sound_definitions_elaborate }
