use Rattle.greibach.proofs.FormsOfComponents.{forms_of_components_good}
use Rattle.greibach.proofs.laws.forms_of_components_are_good.Goals as goal

pub returns : goal.returns
returns c = forms_of_components_good
