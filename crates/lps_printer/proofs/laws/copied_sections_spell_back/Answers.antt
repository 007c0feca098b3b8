use Rattle.lps_printer.proofs.CopiedSections.{copied_sections_spell_back}
use Rattle.lps_printer.proofs.laws.copied_sections_spell_back.Goals as goal

pub returns : goal.returns
returns c = copied_sections_spell_back
