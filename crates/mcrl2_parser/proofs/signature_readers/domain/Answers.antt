use Rattle.mcrl2_parser.proofs.signature_readers.domain.Goals as goal

pub list-requires : goal.list-requires
list-requires c = λ sign r is. tt

pub returns-clause-only : goal.returns-clause-only
returns-clause-only c = λ ss r d hash. c.list.ensures.only ss r d tt hash
