-- What an index of sort names says of them.
use Rattle.std.specs.Prelude.{List}
use Rattle.sort_table.specs.declared.sort_entries.SortIndex.{SortIndex}
use Rattle.sort_table.specs.Expressions.{Name}
use Rattle.sort_table.specs.SortMeanings.{Kind}
use Rattle.sort_table.specs.SortIndexes.{entries_of}

-- the sort names, each with what it is declared as, in the order of the text
abbrev pub kinds_of_index : SortIndex → List (Name × Kind)
kinds_of_index index = entries_of index.entries.items
