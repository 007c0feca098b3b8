use Rattle.lps_printer.proofs.DefinitionTexts.{definitions_spell_back, starts_spell_back, linear_texts_spell_back}
use Rattle.lps_printer.proofs.laws.definitions_spell_back.Goals as goal

pub returns : goal.returns
returns c = record { definitions = definitions_spell_back; starts = starts_spell_back; linear = linear_texts_spell_back }
