use Rattle.lin_driver.proofs.AcceptedTexts.{faulty_texts_cannot_be_linearised}
use Rattle.lin_driver.proofs.laws.faulty_texts_cannot_be_linearised.Goals as goal

pub returns : goal.returns
returns c = faulty_texts_cannot_be_linearised
