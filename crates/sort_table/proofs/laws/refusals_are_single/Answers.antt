use Rattle.sort_table.proofs.SingleRefusals.{refusals_are_single, sound_declarations_are_not_refused}
use Rattle.sort_table.proofs.laws.refusals_are_single.Goals as goal

pub returns-clause-single : goal.returns-clause-single
returns-clause-single c = refusals_are_single

pub returns-clause-sound : goal.returns-clause-sound
returns-clause-sound c = sound_declarations_are_not_refused
