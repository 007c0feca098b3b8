use Rattle.mcrl2_parser.proofs.Sorts.{only_once}
use Rattle.mcrl2_parser.proofs.reading.sort.Goals as goal

pub returns-clause-only : goal.returns-clause-only
returns-clause-only c = only_once c.args.text.now c.args.tokens.now c.sort_front.result c.sort_front.ensures.found c.sort_front.ensures.none
