use Rattle.mcrl2_parser.proofs.ConstructorCases.{shortened}
use Rattle.mcrl2_parser.proofs.signature_readers.SortTreePart.read.Goals as goal

pub returns-clause-shorter : goal.returns-clause-shorter
returns-clause-shorter c = shortened c.args.text.now c.args.tokens.now c.sort.result c.sort.ensures.found
