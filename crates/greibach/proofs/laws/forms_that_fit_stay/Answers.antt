use Rattle.greibach.proofs.StayingForms.{forms_are_sorted, forms_stay}
use Rattle.greibach.proofs.laws.forms_that_fit_stay.Goals as goal

pub returns : goal.returns
returns c = record { sorted = forms_are_sorted; stays = forms_stay }
