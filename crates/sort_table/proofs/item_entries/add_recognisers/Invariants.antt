use Rattle.std.proofs.Common.{◌≡◌, ◌++◌, take}
use Rattle.std.specs.Prelude.{option_map}
use Rattle.sort_table.specs.Domains.{domain_under}
use Rattle.sort_table.specs.Repeats.{marks_of}
use Rattle.sort_table.specs.ItemMarks.{marks_of_recognisers}
use Rattle.sort_table.proofs.item_entries.add_recognisers.Given as goal

abbrev pub invariant-loop-constructor : goal.invariant-loop-constructor
invariant-loop-constructor l = marks_of l.entries.items ≡ marks_of l.fn.entries.items ++ marks_of_recognisers l.number (option_map domain_under l.domain) (take l.constructor-index l.constructors)
