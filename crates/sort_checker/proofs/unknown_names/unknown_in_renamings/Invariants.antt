use Rattle.std.proofs.Common.{◌≡◌, None, map, take}
use Rattle.std.specs.List.{flat_map}
use Rattle.mcrl2_syntax.specs.ProcessParts.{renaming_of}
use Rattle.sort_table.specs.Identifiers.{in_renaming}
use Rattle.sort_checker.specs.UnknownTrees.{unknown_action}
use Rattle.sort_checker.proofs.unknown_names.unknown_in_renamings.Given as goal

abbrev pub invariant-loop-renaming : goal.invariant-loop-renaming
invariant-loop-renaming l = unknown_action l.known (flat_map in_renaming (map renaming_of (take l.renaming-index l.renamings))) ≡ None
