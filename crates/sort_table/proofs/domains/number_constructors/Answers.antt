use Rattle.std.proofs.Common.{◌∙◌, List, [], ◌∷◌, refl, ap}
use Rattle.std.specs.Prelude.{option_map}
use Rattle.std.specs.Global.{Vec}
use Rattle.mcrl2_syntax.specs.declared.declaration.Constructor.{Constructor}
use Rattle.mcrl2_syntax.specs.declared.declaration.Field.{Field}
use Rattle.sort_table.specs.declared.flat_sorts.FlatSort.{FlatSort}
use Rattle.sort_table.specs.Domains.{flats_by, fields_in, domains_of_constructors}
use Rattle.sort_table.proofs.DomainLemmas.{adds_list, adds_more}
use Rattle.sort_table.proofs.domains.number_constructors.Goals as goal

pub loop-constructor-preserved : goal.loop-constructor-preserved
loop-constructor-preserved c =
    adds_more (flats_by c.args.flats.now) domains_of_constructors (λ (d : Constructor). fields_in d.fields.items ∷ []) (record { of_none = refl; of_more = λ x xs. refl }) c.args.constructors.now c.loop-constructor.constructor-index c.constructor-item.result
    c.args.numbers.now c.loop-constructor.numbers c.number_where_known.new.numbers c.loop-constructor-test.true c.constructor-item.is c.loop-constructor.invariant
    (adds_list (flats_by c.args.flats.now) (option_map (λ (l : Vec FlatSort). l.items) c.in_ok-sorts.sorts) (fields_in c.constructor-item.result.fields.items) c.loop-constructor.numbers c.number_where_known.new.numbers
    (c.in_ok-sorts.ensures ∙ ap (λ (fs : List Field). flats_by c.args.flats.now (fields_in fs)) c.as_slice.ensures.value) c.in_ok-number_where_known.ensures)
