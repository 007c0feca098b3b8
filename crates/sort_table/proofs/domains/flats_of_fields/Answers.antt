use Rattle.std.proofs.Common.{◌∙◌, List, [], ◌∷◌, refl, sym, ap}
use Rattle.std.specs.Prelude.{Some}
use Rattle.mcrl2_syntax.specs.declared.declaration.Field.{Field}
use Rattle.sort_table.specs.declared.flat_sorts.FlatSort.{FlatSort}
use Rattle.sort_table.specs.IndexedKinds.{kinds_of_index}
use Rattle.sort_table.specs.FlatSorts.{flat_in, expression_of}
use Rattle.sort_table.specs.Domains.{fields_in}
use Rattle.sort_table.proofs.Searches.{IsListed}
use Rattle.sort_table.proofs.FlatSortLemmas.{flats_further, flats_stop}
use Rattle.sort_table.proofs.domains.flats_of_fields.Goals as goal

listed : IsListed fields_in (λ (f : Field). expression_of f.sort ∷ [])
listed = record { of_none = refl; of_more = λ f fs. refl }

pub returns-in_default : goal.returns-in_default
returns-in_default c =
    flats_stop (kinds_of_index c.args.flats.now.index) c.args.flats.now.sorts.items fields_in (λ (f : Field). expression_of f.sort) listed c.args.fields.now c.loop-field.field-index c.field-item.result c.loop-field.list.items c.loop-field-test.true c.field-item.is c.loop-field.invariant
    (sym c.in_default.is ∙ (c.in_ok-sort.ensures ∙ ap (λ (ts : List FlatSort). flat_in (kinds_of_index c.args.flats.now.index) ts (expression_of c.field-item.result.sort)) c.as_slice.ensures.value))

pub loop-field-preserved : goal.loop-field-preserved
loop-field-preserved c =
    flats_further (kinds_of_index c.args.flats.now.index) c.args.flats.now.sorts.items fields_in (λ (f : Field). expression_of f.sort) listed c.args.fields.now c.loop-field.field-index c.field-item.result c.in-Some.sort c.loop-field.list.items c.loop-field-test.true c.field-item.is c.loop-field.invariant
    (sym c.in-Some.is ∙ (c.in_ok-sort.ensures ∙ ap (λ (ts : List FlatSort). flat_in (kinds_of_index c.args.flats.now.index) ts (expression_of c.field-item.result.sort)) c.as_slice.ensures.value)) ∙ ap (λ (ss : List FlatSort). Some ss) (sym c.in_ok-push.ensures.items)
