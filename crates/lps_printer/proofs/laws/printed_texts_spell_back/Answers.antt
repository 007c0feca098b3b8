use Rattle.lps_printer.proofs.SpelledAdditions.{printed_texts_spell_back}
use Rattle.lps_printer.proofs.laws.printed_texts_spell_back.Goals as goal

pub returns : goal.returns
returns c = printed_texts_spell_back
