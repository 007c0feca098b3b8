use Rattle.lps_printer.proofs.CopiedDeclarations.{declaration_copies_spell_the_same}
use Rattle.lps_printer.proofs.laws.declaration_copies_spell_the_same.Goals as goal

pub returns : goal.returns
returns c = declaration_copies_spell_the_same
