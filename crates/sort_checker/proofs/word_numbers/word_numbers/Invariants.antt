use Rattle.std.proofs.Common.{map, take}
use Rattle.mcrl2_syntax.specs.Words.{word_of}
use Rattle.sort_table.specs.BareProcesses.{bare_names}
use Rattle.sort_checker.specs.NumberedWords.{AreNumbersOf}
use Rattle.sort_checker.proofs.word_numbers.word_numbers.Given as goal

abbrev pub invariant-loop-word : goal.invariant-loop-word
invariant-loop-word l = AreNumbersOf l.sig (bare_names (map word_of (take l.word-index l.words))) l.numbers.items
