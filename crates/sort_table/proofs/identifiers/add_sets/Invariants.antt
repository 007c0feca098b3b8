use Rattle.std.proofs.Common.{◌≡◌, ◌++◌, map, take}
use Rattle.std.specs.List.{flat_map}
use Rattle.mcrl2_syntax.specs.ProcessParts.{name_set_of}
use Rattle.sort_table.specs.Identifiers.{in_set}
use Rattle.sort_table.specs.LentTexts.{texts_of}
use Rattle.sort_table.proofs.identifiers.add_sets.Given as goal

abbrev pub invariant-loop-set : goal.invariant-loop-set
invariant-loop-set l = texts_of l.list.items ≡ texts_of l.fn.list.items ++ flat_map in_set (map name_set_of (take l.set-index l.sets))
