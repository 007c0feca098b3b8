use Rattle.sort_table.proofs.WordNames.{identifiers_are_text}
use Rattle.sort_table.proofs.laws.identifiers_are_text.Goals as goal

pub returns : goal.returns
returns c = identifiers_are_text
