use Rattle.greibach.proofs.MetPlaces.{collected_is_met}
use Rattle.greibach.proofs.NumberedPlaces.{collected_good, collected_good_from_start}
use Rattle.greibach.proofs.GrowingTexts.{collected_good_over}
use Rattle.greibach.proofs.laws.collected_forms_are_good.Goals as goal

pub returns : goal.returns
returns c = record { follows = collected_good; starts = collected_good_from_start; over = collected_good_over; met = collected_is_met }
