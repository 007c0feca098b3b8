use Rattle.std.proofs.Common.{map, take}
use Rattle.sort_checker.specs.NumberedWords.{written_renaming, AreRenamingsOf}
use Rattle.sort_checker.proofs.word_numbers.renaming_numbers.Given as goal

abbrev pub invariant-loop-renaming : goal.invariant-loop-renaming
invariant-loop-renaming l = AreRenamingsOf l.sig (map written_renaming (take l.renaming-index l.renamings)) l.numbers.items
