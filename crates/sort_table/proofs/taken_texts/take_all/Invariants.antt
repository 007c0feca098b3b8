use Rattle.std.proofs.Common.{take}
use Rattle.sort_table.specs.LentTexts.{texts_of}
use Rattle.sort_table.specs.TakenTexts.{TakesTexts}
use Rattle.sort_table.proofs.taken_texts.take_all.Given as goal

abbrev pub invariant-loop-bytes : goal.invariant-loop-bytes
invariant-loop-bytes l = TakesTexts (texts_of (take l.bytes-index l.texts)) l.fn.signature l.signature
