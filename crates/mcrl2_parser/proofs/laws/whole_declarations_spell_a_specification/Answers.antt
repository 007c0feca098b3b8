use Rattle.mcrl2_parser.proofs.SpelledByDeclarations.{spelled}
use Rattle.mcrl2_parser.proofs.laws.whole_declarations_spell_a_specification.Goals as goal

pub returns : goal.returns
returns c = spelled
