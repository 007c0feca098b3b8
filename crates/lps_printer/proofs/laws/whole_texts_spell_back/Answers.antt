use Rattle.lps_printer.proofs.WholeTexts.{whole_texts_spell_back}
use Rattle.lps_printer.proofs.laws.whole_texts_spell_back.Goals as goal

pub returns : goal.returns
returns c = whole_texts_spell_back
