use Rattle.std.proofs.Common.{◌≡◌, drop, map}
use Rattle.mcrl2_syntax.specs.Words.{last_of}
use Rattle.mcrl2_syntax.specs.ProcessParts.{var_group_of}
use Rattle.mcrl2_syntax.specs.SpelledDeclarations.{group_span}
use Rattle.mcrl2_parser.proofs.part_spans.last_group.Given as goal

abbrev pub invariant-loop-group : goal.invariant-loop-group
invariant-loop-group l = last_of group_span l.span (map var_group_of (drop l.group-index l.groups)) ≡ last_of group_span l.fn.here (map var_group_of l.groups)
