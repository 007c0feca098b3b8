use Rattle.std.proofs.Common.{◌≡◌, ◌++◌, map, take}
use Rattle.std.specs.List.{flat_map}
use Rattle.mcrl2_syntax.specs.Declarations.{field_of}
use Rattle.sort_table.specs.Identifiers.{in_field}
use Rattle.sort_table.specs.LentTexts.{texts_of}
use Rattle.sort_table.proofs.identifiers.add_fields.Given as goal

abbrev pub invariant-loop-field : goal.invariant-loop-field
invariant-loop-field l = texts_of l.list.items ≡ texts_of l.fn.list.items ++ flat_map in_field (map field_of (take l.field-index l.fields))
