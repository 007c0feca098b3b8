use Rattle.lin_driver.proofs.MadeTexts.{made_can_be_printed, printed_for_stands_for}
use Rattle.lin_driver.proofs.laws.what_is_printed_for_a_text_stands_for_it.Goals as goal

pub returns : goal.returns
returns c = record { can_be_printed = made_can_be_printed; stands_for = printed_for_stands_for }
