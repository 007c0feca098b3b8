use Rattle.lps_printer.proofs.SpellBack.{expressions_spell_back}
use Rattle.lps_printer.proofs.laws.expressions_spell_back.Goals as goal

pub returns : goal.returns
returns c = expressions_spell_back
