use Rattle.std.proofs.Common.{sym, ◌∙◌, length, false, arith}
use Rattle.std.proofs.lemmas.List.{get_or_past}
use Rattle.mcrl2_parser.specs.Arrows.{whole}
use Rattle.mcrl2_parser.proofs.arrows.ends_at_arrow.Goals as goal

pub returns-then-at-arrows : goal.returns-then-at-arrows
returns-then-at-arrows c = c.requires.each c.args.tokens.now whole

pub returns-else-at-arrows : goal.returns-else-at-arrows
returns-else-at-arrows c = let past = c.if-at-arrows.false in sym (get_or_past c.args.arrows.now (length c.args.tokens.now) false (omega (arith, past))) ∙ c.requires.each c.args.tokens.now whole
