use Rattle.lps_printer.proofs.PrintedTheories.{printed_texts_have_theories}
use Rattle.lps_printer.proofs.laws.printed_texts_have_theories.Goals as goal

pub returns : goal.returns
returns c = printed_texts_have_theories
