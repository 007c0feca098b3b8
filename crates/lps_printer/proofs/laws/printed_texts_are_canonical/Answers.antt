use Rattle.lps_printer.proofs.CanonicalTexts.{printed_texts_are_canonical}
use Rattle.lps_printer.proofs.laws.printed_texts_are_canonical.Goals as goal

pub returns : goal.returns
returns c = printed_texts_are_canonical
