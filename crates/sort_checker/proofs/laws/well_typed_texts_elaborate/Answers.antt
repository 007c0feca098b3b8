use Rattle.sort_checker.proofs.WellTypedTexts.{well_typed_texts_elaborate}
use Rattle.sort_checker.proofs.laws.well_typed_texts_elaborate.Goals as goal

pub returns : goal.returns
returns c = well_typed_texts_elaborate
