use Rattle.std.proofs.Common.{rules}
use Rattle.mcrl2_syntax.specs.Declarations.{field_of}
use Rattle.sort_table.specs.BareDeclarations.{bare_field}
use Rattle.sort_table.specs.EnteredFunctions.{IsFieldOf, IsReadyField}
use Rattle.sort_table.proofs.KeptFunctions.{nothing_yet, next_pair, pair_read}
use Rattle.sort_table.proofs.sort_declaring.SortNames.fields.Goals as goal

pub loop-field-init : goal.loop-field-init
loop-field-init c = nothing_yet (IsFieldOf c.args.signature.now) c.new-made.result.items (search rules)

pub optional_id-name-requires : goal.optional_id-name-requires
optional_id-name-requires c = (pair_read (IsReadyField c.args.signature.now) field_of bare_field c.args.fields.now c.loop-field.field-index c.field-item.result c.loop-field-test.true c.field-item.is c.requires.ready).0

pub sort_there-sort-requires-clause-there : goal.sort_there-sort-requires-clause-there
sort_there-sort-requires-clause-there c = (pair_read (IsReadyField c.args.signature.now) field_of bare_field c.args.fields.now c.loop-field.field-index c.field-item.result c.loop-field-test.true c.field-item.is c.requires.ready).1

pub loop-field-preserved : goal.loop-field-preserved
loop-field-preserved c =
    next_pair (IsFieldOf c.args.signature.now) field_of bare_field c.args.fields.now c.loop-field.field-index c.field-item.result c.loop-field.made.items c.push.new.self.items (c.optional_id-name.result, c.sort_there-sort.result) c.loop-field-test.true c.field-item.is
    c.loop-field.invariant (c.optional_id-name.ensures, c.sort_there-sort.ensures) c.in_ok-push.ensures.items
