use Rattle.std.proofs.Common.{sym, ◌∙◌}
use Rattle.mcrl2_parser.proofs.Operands.{sign_found}
use Rattle.mcrl2_parser.proofs.datas.sign.Goals as goal

pub returns-clause-some : goal.returns-clause-some
returns-clause-some c = sign_found c.in-Ok.ensures.found (sym c.infix_sign.ensures ∙ c.in_ok-sign.was)
