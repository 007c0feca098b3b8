use Rattle.std.proofs.Common.{rules, arith, ◌≡◌, ◌<◌, length, true, string_bytes}
use Rattle.std.specs.Str.{bytes_eq}
use Rattle.mcrl2_text.proofs.NamedTexts.{text_named-drop}
use Rattle.mcrl2_text.proofs.texts.place_of.Goals as goal

pub returns-then-eq : goal.returns-then-eq
returns-then-eq c =
    let within : c.loop-i.i < length c.args.texts.now = search rules in
    let step = text_named-drop c.args.texts.now c.loop-i.i c.args.name.now c.index-texts-i.result within in
    let same_name : bytes_eq (string_bytes c.index-texts-i.result.name) c.args.name.now ≡ true = search rules in
    grind (arith, step, same_name, c.loop-i.invariant, c.index-texts-i.is)
