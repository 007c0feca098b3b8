use Rattle.std.proofs.Common.{◌≡◌, drop, map}
use Rattle.mcrl2_syntax.specs.Words.{last_of}
use Rattle.mcrl2_syntax.specs.Declarations.{constructor_of}
use Rattle.mcrl2_syntax.specs.SpelledDeclarations.{constructor_span}
use Rattle.mcrl2_parser.proofs.part_spans.last_constructor.Given as goal

abbrev pub invariant-loop-constructor : goal.invariant-loop-constructor
invariant-loop-constructor l = last_of constructor_span l.span (map constructor_of (drop l.constructor-index l.constructors)) ≡ last_of constructor_span l.fn.here (map constructor_of l.constructors)
