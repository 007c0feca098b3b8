use Rattle.std.proofs.Common.{◌≡◌, ◌++◌, take}
use Rattle.std.specs.Prelude.{option_map}
use Rattle.sort_table.specs.Domains.{domain_under}
use Rattle.sort_table.specs.Repeats.{marks_of}
use Rattle.sort_table.specs.ItemMarks.{marks_of_fields}
use Rattle.sort_table.proofs.item_entries.add_fields.Given as goal

abbrev pub invariant-loop-field : goal.invariant-loop-field
invariant-loop-field l = marks_of l.entries.items ≡ marks_of l.fn.entries.items ++ marks_of_fields l.number (option_map domain_under l.domain) (take l.field-index l.fields)
