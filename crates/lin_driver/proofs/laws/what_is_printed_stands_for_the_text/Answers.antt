use Rattle.lin_driver.proofs.LinearisedTexts.{led_to_stands_for, made_stands_for, printed_stands_for}
use Rattle.lin_driver.proofs.laws.what_is_printed_stands_for_the_text.Goals as goal

pub returns : goal.returns
returns c = record { led_to = led_to_stands_for; made = made_stands_for; printed = printed_stands_for }
