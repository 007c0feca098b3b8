use Rattle.mcrl2_parser.proofs.parts.vars.Goals as goal

pub list-requires : goal.list-requires
list-requires c = λ sign r is. tt

pub returns-clause-only : goal.returns-clause-only
returns-clause-only c = λ gs r d n. c.list.ensures.only gs r d tt n
