use Rattle.std.proofs.Common.{map, take}
use Rattle.process_terms.specs.PlainProcesses.{items_of_each}
use Rattle.sort_checker.specs.NumberedWords.{set_names, AreSetsOf}
use Rattle.sort_checker.proofs.word_numbers.set_numbers.Given as goal

abbrev pub invariant-loop-set : goal.invariant-loop-set
invariant-loop-set l = AreSetsOf l.sig (map set_names (take l.set-index l.sets)) (items_of_each l.numbers.items)
