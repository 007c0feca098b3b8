use Rattle.std.proofs.Common.{map, take}
use Rattle.data_theory.specs.Words.{text_of}
use Rattle.sort_checker.specs.NameNumbers.{AddsNames}
use Rattle.sort_checker.proofs.known_names.add_words.Given as goal

abbrev pub invariant-loop-word : goal.invariant-loop-word
invariant-loop-word l = AddsNames l.fn.names l.names (map text_of (take l.word-index l.words))
