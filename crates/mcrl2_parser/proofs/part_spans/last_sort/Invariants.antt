use Rattle.std.proofs.Common.{◌≡◌, drop, map}
use Rattle.mcrl2_syntax.specs.Words.{last_of}
use Rattle.mcrl2_syntax.specs.SortTrees.{plain_sort, sort_span}
use Rattle.mcrl2_parser.proofs.part_spans.last_sort.Given as goal

abbrev pub invariant-loop-sort : goal.invariant-loop-sort
invariant-loop-sort l = last_of sort_span l.span (map plain_sort (drop l.sort-index l.sorts)) ≡ last_of sort_span l.fn.here (map plain_sort l.sorts)
