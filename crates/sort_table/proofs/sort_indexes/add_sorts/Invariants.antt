use Rattle.std.proofs.Common.{◌≡◌, ◌++◌, map, take}
use Rattle.mcrl2_syntax.specs.declared.word.Word.{Word}
use Rattle.sort_table.specs.SortMeanings.{alone}
use Rattle.sort_table.specs.IndexedKinds.{kinds_of_index}
use Rattle.sort_table.proofs.sort_indexes.add_sorts.Given as goal

abbrev pub invariant-loop-name : goal.invariant-loop-name
invariant-loop-name l = kinds_of_index l.index ≡ kinds_of_index l.fn.index ++ map (λ (w : Word). (w.bytes.items, alone)) (take l.name-index l.names)
