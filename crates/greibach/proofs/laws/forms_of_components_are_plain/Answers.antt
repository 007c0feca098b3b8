use Rattle.greibach.proofs.PlainlyConditioned.{forms_of_components_plain}
use Rattle.greibach.proofs.laws.forms_of_components_are_plain.Goals as goal

pub returns : goal.returns
returns c = forms_of_components_plain
