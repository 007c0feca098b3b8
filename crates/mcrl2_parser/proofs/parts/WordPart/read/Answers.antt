use Rattle.mcrl2_parser.proofs.Names.{by_name}
use Rattle.mcrl2_parser.proofs.parts.WordPart.read.Goals as goal

pub returns-clause-found : goal.returns-clause-found
returns-clause-found c = by_name c.in_ok-word.ensures.found c.in_ok-token.ensures.found.0 c.in_ok-token.ensures.found.1
