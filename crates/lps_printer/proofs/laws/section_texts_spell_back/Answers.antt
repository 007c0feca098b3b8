use Rattle.lps_printer.proofs.TextSections.{section_texts_spell_back}
use Rattle.lps_printer.proofs.laws.section_texts_spell_back.Goals as goal

pub returns : goal.returns
returns c = section_texts_spell_back
