use Rattle.lin_driver.proofs.EachReading.{each_reading_stands}
use Rattle.lin_driver.proofs.laws.what_stands_for_a_text_does_so_in_each_reading.Goals as goal

pub returns : goal.returns
returns c = each_reading_stands
