use Rattle.std.proofs.Common.{◌≡◌, drop}
use Rattle.mcrl2_text.specs.Texts.{text_named}
use Rattle.mcrl2_text.proofs.texts.place_of.Given as goal

abbrev pub invariant-loop-i : goal.invariant-loop-i
invariant-loop-i l = text_named l.texts l.name ≡ text_named (drop l.i l.texts) l.name
