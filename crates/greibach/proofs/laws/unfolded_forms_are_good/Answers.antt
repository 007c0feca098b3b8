use Rattle.greibach.proofs.GoodForms.{forms_good}
use Rattle.greibach.proofs.laws.unfolded_forms_are_good.Goals as goal

pub returns : goal.returns
returns c = forms_good
