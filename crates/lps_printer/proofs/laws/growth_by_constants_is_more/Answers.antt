use Rattle.lps_printer.proofs.ConstantVocabularies.{growth_by_constants_is_more}
use Rattle.lps_printer.proofs.laws.growth_by_constants_is_more.Goals as goal

pub returns : goal.returns
returns c = growth_by_constants_is_more
