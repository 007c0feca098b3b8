use Rattle.std.proofs.Common.{◌≡◌, map, drop}
use Rattle.mcrl2_syntax.specs.Declarations.{field_of}
use Rattle.lps_printer.specs.AddedDeclarations.{behind_all, behind_field}
use Rattle.lps_printer.proofs.added_functions.behind_fields.Given as goal

abbrev pub invariant-loop-field : goal.invariant-loop-field
invariant-loop-field l = behind_all behind_field (map field_of (drop l.field-index l.fields)) l.rest ≡ behind_all behind_field (map field_of l.fields) l.fn.funs
