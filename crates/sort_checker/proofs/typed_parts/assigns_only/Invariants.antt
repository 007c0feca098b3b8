use Rattle.std.proofs.Common.{◌≡◌, true, take}
use Rattle.std.specs.List.{list_all}
use Rattle.sort_checker.specs.FreeTrees.{assigned}
use Rattle.sort_checker.specs.NameNumbers.{has_name}
use Rattle.sort_checker.specs.PartTypings.{assigned_names}
use Rattle.sort_checker.proofs.typed_parts.assigns_only.Given as goal

abbrev pub invariant-loop-assignment : goal.invariant-loop-assignment
invariant-loop-assignment l = list_all (has_name l.names) (assigned_names (assigned (take l.assignment-index l.assignments))) ≡ true
