use Rattle.std.proofs.Common.{rules, ap, Some}
use Rattle.mcrl2_text.proofs.NamedTexts.{text_at-past}
use Rattle.mcrl2_text.proofs.steady.SteadyShelf.new.Goals as goal

pub returns-clause-rest : goal.returns-clause-rest
returns-clause-rest c = ap Some (text_at-past c.args.texts.items c.len-place.result (search rules))
