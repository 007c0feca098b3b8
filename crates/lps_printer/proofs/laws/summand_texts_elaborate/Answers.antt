use Rattle.lps_printer.proofs.SummandTexts.{summand_texts_elaborate}
use Rattle.lps_printer.proofs.laws.summand_texts_elaborate.Goals as goal

pub returns : goal.returns
returns c = summand_texts_elaborate
