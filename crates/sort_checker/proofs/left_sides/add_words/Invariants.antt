use Rattle.std.proofs.Common.{take}
use Rattle.sort_checker.specs.NameNumbers.{AddsNames}
use Rattle.sort_checker.specs.LeftTrees.{names_of_words}
use Rattle.sort_checker.proofs.left_sides.add_words.Given as goal

abbrev pub invariant-loop-word : goal.invariant-loop-word
invariant-loop-word l = AddsNames l.fn.names l.names (names_of_words (take l.word-index l.words))
