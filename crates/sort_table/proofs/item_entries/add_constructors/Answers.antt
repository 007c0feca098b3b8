use Rattle.std.proofs.Common.{◌++◌, ◌∙◌, ℕ, List, refl, ap}
use Rattle.std.specs.Prelude.{Option}
use Rattle.mcrl2_syntax.specs.declared.declaration.Constructor.{Constructor}
use Rattle.mcrl2_syntax.specs.declared.declaration.Field.{Field}
use Rattle.sort_table.specs.declared.flat_sorts.FlatSort.{FlatSort}
use Rattle.sort_table.specs.Domains.{domains_by, fields_in}
use Rattle.sort_table.specs.Repeats.{marks_of}
use Rattle.sort_table.specs.ItemMarks.{marks_of_constructors, function_marks}
use Rattle.sort_table.proofs.PushedMarks.{pushed}
use Rattle.sort_table.proofs.item_entries.add_constructors.Goals as goal

pub loop-constructor-preserved : goal.loop-constructor-preserved
loop-constructor-preserved c =
    pushed (marks_of_constructors (domains_by c.args.table.now) c.args.number)
    (λ (d : Constructor). function_marks c.args.number (domains_by c.args.table.now (fields_in d.fields.items)) d.name.bytes.items)
    (record { of_none = refl; of_more = λ x xs. refl }) c.args.constructors.now c.loop-constructor.constructor-index c.constructor-item.result
    (marks_of c.args.entries.now.items) (marks_of c.loop-constructor.entries.items) (marks_of c.add_typed.new.entries.items) c.loop-constructor-test.true c.constructor-item.is c.loop-constructor.invariant
    (c.in_ok-add_typed.ensures
    ∙ ap (λ (o : Option (ℕ × List FlatSort)). marks_of c.loop-constructor.entries.items ++ function_marks c.args.number o c.constructor-item.result.name.bytes.items)
    (c.in_ok-domain.ensures ∙ ap (λ (fs : List Field). domains_by c.args.table.now (fields_in fs)) c.as_slice.ensures.value))
