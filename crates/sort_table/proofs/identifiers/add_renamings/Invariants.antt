use Rattle.std.proofs.Common.{◌≡◌, ◌++◌, map, take}
use Rattle.std.specs.List.{flat_map}
use Rattle.mcrl2_syntax.specs.ProcessParts.{renaming_of}
use Rattle.sort_table.specs.Identifiers.{in_renaming}
use Rattle.sort_table.specs.LentTexts.{texts_of}
use Rattle.sort_table.proofs.identifiers.add_renamings.Given as goal

abbrev pub invariant-loop-renaming : goal.invariant-loop-renaming
invariant-loop-renaming l = texts_of l.list.items ≡ texts_of l.fn.list.items ++ flat_map in_renaming (map renaming_of (take l.renaming-index l.renamings))
