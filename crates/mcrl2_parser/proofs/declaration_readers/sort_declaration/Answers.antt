use Rattle.std.proofs.Common.{refl}
use Rattle.mcrl2_parser.proofs.declaration_readers.sort_declaration.Goals as goal

pub returns-in-None-clause-only : goal.returns-in-None-clause-only
returns-in-None-clause-only c = λ d s. c.sort_names.ensures.only d s (c.in-None.ensures.none refl)
