use Rattle.mcrl2_syntax.proofs.LabelsOnce.{bar_paren}
use Rattle.mcrl2_parser.proofs.parts.actions.Goals as goal

pub list-requires : goal.list-requires
list-requires c = bar_paren

pub returns-clause-only : goal.returns-clause-only
returns-clause-only c = λ as_ r d n. c.list.ensures.only as_ r d n.paren n.bar
