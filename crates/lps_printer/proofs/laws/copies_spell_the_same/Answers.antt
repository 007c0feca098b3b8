use Rattle.lps_printer.proofs.CopiedData.{copies_spell_the_same}
use Rattle.lps_printer.proofs.laws.copies_spell_the_same.Goals as goal

pub returns : goal.returns
returns c = copies_spell_the_same
