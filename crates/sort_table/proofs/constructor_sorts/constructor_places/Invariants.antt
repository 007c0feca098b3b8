use Rattle.sort_table.specs.ConstructorMarks.{ArePlaces}
use Rattle.sort_table.proofs.constructor_sorts.constructor_places.Given as goal

abbrev pub invariant-loop-place : goal.invariant-loop-place
invariant-loop-place l = ArePlaces l.signature l.marks l.place l.places.items
