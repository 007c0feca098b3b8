use Rattle.sort_checker.proofs.WorkedWholeTexts.{the_whole_text_is_well_typed}
use Rattle.sort_checker.proofs.laws.the_whole_text_is_well_typed.Goals as goal

pub returns : goal.returns
returns c = the_whole_text_is_well_typed
