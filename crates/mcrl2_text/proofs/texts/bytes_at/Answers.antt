use Rattle.std.proofs.Common.{rules, arith, ◌≤◌, ◌<◌, length, sym}
use Rattle.std.proofs.lemmas.Grind.{common_steps}
use Rattle.mcrl2_text.proofs.NamedTexts.{text_at-past, text_at-get_or}
use Rattle.mcrl2_text.proofs.texts.bytes_at.Goals as goal

pub returns-in-Some : goal.returns-in-Some
returns-in-Some c =
    let within : c.args.place < length c.args.texts.now = search rules in
    let at = text_at-get_or c.args.texts.now c.args.place c.in-Some.text.now within in
    grind (arith, common_steps, at)

pub returns-in-None : goal.returns-in-None
returns-in-None c =
    let past : length c.args.texts.now ≤ c.args.place = search rules in
    sym (text_at-past c.args.texts.now c.args.place past)
