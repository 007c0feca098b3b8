use Rattle.std.proofs.Common.{refl}
use Rattle.std.specs.Prelude.{option_map}
use Rattle.mcrl2_syntax.specs.declared.declaration.Field.{Field}
use Rattle.mcrl2_syntax.specs.Declarations.{some_word}
use Rattle.sort_table.specs.BareDeclarations.{bare_word}
use Rattle.sort_table.specs.Domains.{domain_under}
use Rattle.sort_table.specs.Repeats.{marks_of}
use Rattle.sort_table.specs.ItemMarks.{marks_of_fields, where_marked}
use Rattle.sort_table.proofs.PushedMarks.{pushed}
use Rattle.sort_table.proofs.item_entries.add_fields.Goals as goal

pub loop-field-preserved : goal.loop-field-preserved
loop-field-preserved c =
    pushed (marks_of_fields c.args.number (option_map domain_under c.args.domain.now)) (λ (f : Field). where_marked c.args.number (option_map domain_under c.args.domain.now) (bare_word (some_word f.name))) (record { of_none = refl; of_more = λ x xs. refl }) c.args.fields.now c.loop-field.field-index c.field-item.result
    (marks_of c.args.entries.now.items) (marks_of c.loop-field.entries.items) (marks_of c.add_named.new.entries.items) c.loop-field-test.true c.field-item.is c.loop-field.invariant c.in_ok-add_named.ensures
