use Rattle.sort_table.specs.Repeats.{marks_of, Meets, IsLeastPair, KnowsLeast}
use Rattle.sort_table.proofs.repeats.first_repeat.Given as goal

abbrev pub invariant-loop-entry : goal.invariant-loop-entry
invariant-loop-entry l = record {
  known : KnowsLeast l.least (marks_of l.entries) l.entry-index;
  least : IsLeastPair (Meets (marks_of l.entries) l.entry-index) l.found;
}
