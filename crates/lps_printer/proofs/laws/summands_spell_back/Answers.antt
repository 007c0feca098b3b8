use Rattle.lps_printer.proofs.SummandsBack.{summands_spell_back}
use Rattle.lps_printer.proofs.laws.summands_spell_back.Goals as goal

pub returns : goal.returns
returns c = summands_spell_back
