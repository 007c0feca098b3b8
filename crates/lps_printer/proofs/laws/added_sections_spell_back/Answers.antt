use Rattle.lps_printer.proofs.SpelledAdditions.{added_sections_spell_back}
use Rattle.lps_printer.proofs.laws.added_sections_spell_back.Goals as goal

pub returns : goal.returns
returns c = added_sections_spell_back
