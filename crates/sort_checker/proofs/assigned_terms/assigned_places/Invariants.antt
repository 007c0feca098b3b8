use Rattle.std.proofs.Common.{map}
use Rattle.sort_checker.specs.AssignedTrees.{assigned_value}
use Rattle.sort_checker.proofs.AssignedLists.{HasPlacesUpTo}
use Rattle.sort_checker.proofs.assigned_terms.assigned_places.Given as goal

abbrev pub invariant-loop-place : goal.invariant-loop-place
invariant-loop-place l = HasPlacesUpTo (map assigned_value l.assignments) l.place l.places
