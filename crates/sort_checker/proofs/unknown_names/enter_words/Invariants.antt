use Rattle.std.proofs.Common.{◌≡◌, ◌++◌, take}
use Rattle.sort_checker.specs.LeftTrees.{names_of_words}
use Rattle.sort_checker.proofs.unknown_names.enter_words.Given as goal

abbrev pub invariant-loop-word : goal.invariant-loop-word
invariant-loop-word l = l.scope ≡ l.fn.scope ++ names_of_words (take l.word-index l.words)
