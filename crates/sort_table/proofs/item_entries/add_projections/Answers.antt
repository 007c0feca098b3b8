use Rattle.std.proofs.Common.{◌++◌, ◌∙◌, List, refl, ap}
use Rattle.std.specs.Prelude.{option_map}
use Rattle.mcrl2_syntax.specs.declared.declaration.Constructor.{Constructor}
use Rattle.mcrl2_syntax.specs.declared.declaration.Field.{Field}
use Rattle.sort_table.specs.Domains.{domain_under}
use Rattle.sort_table.specs.Repeats.{marks_of}
use Rattle.sort_table.specs.ItemMarks.{marks_of_fields, marks_of_projections}
use Rattle.sort_table.proofs.PushedMarks.{pushed}
use Rattle.sort_table.proofs.item_entries.add_projections.Goals as goal

pub loop-constructor-preserved : goal.loop-constructor-preserved
loop-constructor-preserved c =
    pushed (marks_of_projections c.args.number (option_map domain_under c.args.domain.now)) (λ (d : Constructor). marks_of_fields c.args.number (option_map domain_under c.args.domain.now) d.fields.items) (record { of_none = refl; of_more = λ x xs. refl }) c.args.constructors.now c.loop-constructor.constructor-index c.constructor-item.result
    (marks_of c.args.entries.now.items) (marks_of c.loop-constructor.entries.items) (marks_of c.add_fields.new.entries.items) c.loop-constructor-test.true c.constructor-item.is c.loop-constructor.invariant (c.in_ok-add_fields.ensures ∙ ap (λ (fs : List Field). marks_of c.loop-constructor.entries.items ++ marks_of_fields c.args.number (option_map domain_under c.args.domain.now) fs) c.as_slice.ensures.value)
