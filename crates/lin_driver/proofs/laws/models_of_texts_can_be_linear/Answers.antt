use Rattle.lin_driver.proofs.ModelsOfTexts.{models_of_texts_can_be_linear}
use Rattle.lin_driver.proofs.laws.models_of_texts_can_be_linear.Goals as goal

pub returns : goal.returns
returns c = models_of_texts_can_be_linear
