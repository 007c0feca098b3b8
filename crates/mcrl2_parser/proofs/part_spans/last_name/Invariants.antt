use Rattle.std.proofs.Common.{◌≡◌, drop, map}
use Rattle.mcrl2_syntax.specs.Words.{last_of, word_of, word_span}
use Rattle.mcrl2_parser.proofs.part_spans.last_name.Given as goal

abbrev pub invariant-loop-name : goal.invariant-loop-name
invariant-loop-name l = last_of word_span l.span (map word_of (drop l.name-index l.names)) ≡ last_of word_span l.fn.here (map word_of l.names)
