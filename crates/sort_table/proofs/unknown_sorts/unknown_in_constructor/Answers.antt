use Rattle.std.proofs.Common.{List, ap, ◌∙◌}
use Rattle.mcrl2_syntax.specs.declared.declaration.Field.{Field}
use Rattle.std.specs.Prelude.{not, is_some}
use Rattle.mcrl2_syntax.specs.SortTrees.{plain_sort}
use Rattle.sort_table.specs.NamedLists.{first_named}
use Rattle.sort_table.specs.BareSorts.{bare_sort}
use Rattle.sort_table.specs.UnknownSorts.{name_in}
use Rattle.sort_table.specs.IndexedKinds.{kinds_of_index}
use Rattle.sort_table.specs.UsedNames.{unknown_among, names_of_field_trees}
use Rattle.sort_table.proofs.Searches.{further, here}
use Rattle.sort_table.proofs.UsedNameLemmas.{fields_listed}
use Rattle.sort_table.proofs.unknown_sorts.unknown_in_constructor.Goals as goal

pub returns-in-Some : goal.returns-in-Some
returns-in-Some c =
    here names_of_field_trees (λ f. name_in (bare_sort (plain_sort f.sort))) (λ n. not (is_some (first_named n (kinds_of_index c.args.index.now)))) fields_listed c.deref-field-items.result.now c.loop-field.field-index c.field-item.result c.unknown_in_sort.result c.in-Some.name c.loop-field-test.true c.field-item.is c.loop-field.invariant c.unknown_in_sort.ensures c.in-Some.is
    ∙ ap (λ (fs : List Field). unknown_among (kinds_of_index c.args.index.now) (names_of_field_trees fs)) c.deref-field-items.ensures.value

pub loop-field-preserved : goal.loop-field-preserved
loop-field-preserved c =
    further names_of_field_trees (λ f. name_in (bare_sort (plain_sort f.sort))) (λ n. not (is_some (first_named n (kinds_of_index c.args.index.now)))) fields_listed c.deref-field-items.result.now c.loop-field.field-index c.field-item.result c.unknown_in_sort.result c.loop-field-test.true c.field-item.is c.loop-field.invariant c.unknown_in_sort.ensures c.in_default.is
