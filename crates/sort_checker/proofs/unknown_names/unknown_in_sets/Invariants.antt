use Rattle.std.proofs.Common.{◌≡◌, None, map, take}
use Rattle.mcrl2_syntax.specs.ProcessParts.{name_set_of}
use Rattle.sort_checker.specs.UnknownTrees.{unknown_action, names_in_sets}
use Rattle.sort_checker.proofs.unknown_names.unknown_in_sets.Given as goal

abbrev pub invariant-loop-set : goal.invariant-loop-set
invariant-loop-set l = unknown_action l.known (names_in_sets (map name_set_of (take l.set-index l.sets))) ≡ None
