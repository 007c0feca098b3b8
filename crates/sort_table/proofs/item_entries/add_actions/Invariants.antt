use Rattle.std.proofs.Common.{◌≡◌, ◌++◌, take}
use Rattle.std.specs.Prelude.{option_map}
use Rattle.sort_table.specs.Domains.{domain_under}
use Rattle.sort_table.specs.Repeats.{marks_of}
use Rattle.sort_table.specs.ItemMarks.{marks_of_actions}
use Rattle.sort_table.proofs.item_entries.add_actions.Given as goal

abbrev pub invariant-loop-name : goal.invariant-loop-name
invariant-loop-name l = marks_of l.entries.items ≡ marks_of l.fn.entries.items ++ marks_of_actions l.number (option_map domain_under l.domain) (take l.name-index l.names)
