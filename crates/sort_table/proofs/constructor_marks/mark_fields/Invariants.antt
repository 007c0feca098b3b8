use Rattle.std.proofs.Common.{◌≡◌, ◌++◌, map, take}
use Rattle.mcrl2_syntax.specs.Declarations.{field_of}
use Rattle.sort_table.specs.BareDeclarations.{bare_field}
use Rattle.sort_table.specs.ConstructorMarks.{field_marks}
use Rattle.sort_table.proofs.constructor_marks.mark_fields.Given as goal

abbrev pub invariant-loop-field : goal.invariant-loop-field
invariant-loop-field l = l.marks.items ≡ l.fn.marks.items ++ field_marks (map bare_field (map field_of (take l.field-index l.fields)))
