use Rattle.greibach.proofs.FormFiring.{form_fired, form_fire}
use Rattle.greibach.proofs.laws.form_steps_are_firings.Goals as goal

pub returns : goal.returns
returns c = record { fired = form_fired; fire = form_fire }
