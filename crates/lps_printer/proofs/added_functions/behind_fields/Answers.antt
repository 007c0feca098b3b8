use Rattle.std.proofs.Common.{map}
use Rattle.mcrl2_syntax.specs.Declarations.{field_of}
use Rattle.lps_printer.specs.AddedDeclarations.{behind_all, behind_field}
use Rattle.lps_printer.proofs.AddedFunctions.{behind_step, behind_end}
use Rattle.lps_printer.proofs.added_functions.behind_fields.Goals as goal

pub loop-field-preserved : goal.loop-field-preserved
loop-field-preserved c =
    behind_step behind_field field_of c.args.fields.now c.loop-field.field-index c.loop-field.rest.now (behind_all behind_field (map field_of c.args.fields.now) c.args.funs.now) c.field-item.result c.loop-field-test.true c.field-item.is c.behind_name-rest.result.now c.behind_name-rest.ensures c.loop-field.invariant

pub returns : goal.returns
returns c = behind_end behind_field field_of c.args.fields.now c.loop-field.field-index c.loop-field.rest.now (behind_all behind_field (map field_of c.args.fields.now) c.args.funs.now) c.loop-field-test.false c.loop-field.auto.field-index-end c.loop-field.invariant
