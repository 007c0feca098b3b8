use Rattle.lps_printer.proofs.ConstantNils.{added_constants_are_nils}
use Rattle.lps_printer.proofs.laws.added_constants_are_nils.Goals as goal

pub returns : goal.returns
returns c = added_constants_are_nils
