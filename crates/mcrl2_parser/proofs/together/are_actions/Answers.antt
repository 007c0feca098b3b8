use Rattle.std.proofs.Common.{map}
use Rattle.mcrl2_parser.proofs.AtOnceLemmas.{are_acts_of}
use Rattle.mcrl2_parser.proofs.together.are_actions.Goals as goal

pub returns-in-len1-up : goal.returns-in-len1-up
returns-in-len1-up c = are_acts_of c.args.parts.now c.in-len1-up.len_at_least c.all_actions.ensures
