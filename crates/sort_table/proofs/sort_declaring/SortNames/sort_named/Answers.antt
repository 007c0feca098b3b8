use Rattle.std.proofs.Common.{◌≡◌, ◌<◌, ◌∙◌, length, sym, ap, arith}
use Rattle.std.specs.Prelude.{Some, is_some}
use Rattle.std.proofs.lemmas.Option.{none-some}
use Rattle.sort_table.specs.NamedLists.{first_named}
use Rattle.sort_table.specs.SortMeanings.{Kind}
use Rattle.sort_table.specs.IndexedKinds.{kinds_of_index}
use Rattle.sort_table.proofs.AliasPlaces.{declared_place, entry_at, place_within}
use Rattle.sort_table.proofs.NamedSignatures.{id_of_place, as_many_ids, named_is_name, name_is_named}
use Rattle.sort_table.proofs.DeclaringLemmas.{id_there}
use Rattle.sort_table.proofs.sort_declaring.SortNames.sort_named.Goals as goal

pub unreachable-requires : goal.unreachable-requires
unreachable-requires c =
    let k : (k : Kind) × (first_named c.args.name.now (kinds_of_index c.args.self.now.index) ≡ Some k) = c.requires.reads.declared c.args.name.now c.requires.named in
    none-some _ (sym c.in_default.is ∙ (c.find.ensures ∙ declared_place c.args.name.now (kinds_of_index c.args.self.now.index) (ap is_some k.1)))

pub index-requires : goal.index-requires
index-requires c =
    omega (arith, place_within c.args.name.now (kinds_of_index c.args.self.now.index) c.in-Some.place (sym c.find.ensures ∙ c.in-Some.is), as_many_ids c.args.signature.now.texts (kinds_of_index c.args.self.now.index) c.args.self.now.ids.items c.requires.reads.ids_are, c.args.self.now.ids.ok.0)

pub unreachable-requires-in_default-sort : goal.unreachable-requires-in_default-sort
unreachable-requires-in_default-sort c =
    let at = sym c.find.ensures ∙ c.in-Some.is in
    let e = entry_at c.args.name.now (kinds_of_index c.args.self.now.index) c.in-Some.place at in
    let l : c.in-Some.place < length c.args.self.now.ids.items = omega (arith, place_within c.args.name.now (kinds_of_index c.args.self.now.index) c.in-Some.place at, as_many_ids c.args.signature.now.texts (kinds_of_index c.args.self.now.index) c.args.self.now.ids.items c.requires.reads.ids_are) in
    let text = id_of_place c.args.signature.now.texts (kinds_of_index c.args.self.now.index) c.args.self.now.ids.items c.in-Some.place c.args.name.now e.0 c.index.result.now c.requires.reads.ids_are e.1 (id_there c.args.self.now.ids.items c.in-Some.place c.index.result.now l c.index.ensures) in
    c.in_default-sort.ensures (named_is_name c.args.signature.now c.names.ensures.stands c.index.result.now c.args.name.now text c.requires.named)

pub returns-clause-sort : goal.returns-clause-sort
returns-clause-sort c =
    let at = sym c.find.ensures ∙ c.in-Some.is in
    let e = entry_at c.args.name.now (kinds_of_index c.args.self.now.index) c.in-Some.place at in
    let l : c.in-Some.place < length c.args.self.now.ids.items = omega (arith, place_within c.args.name.now (kinds_of_index c.args.self.now.index) c.in-Some.place at, as_many_ids c.args.signature.now.texts (kinds_of_index c.args.self.now.index) c.args.self.now.ids.items c.requires.reads.ids_are) in
    let text = id_of_place c.args.signature.now.texts (kinds_of_index c.args.self.now.index) c.args.self.now.ids.items c.in-Some.place c.args.name.now e.0 c.index.result.now c.requires.reads.ids_are e.1 (id_there c.args.self.now.ids.items c.in-Some.place c.index.result.now l c.index.ensures) in
    name_is_named c.args.signature.now c.names.ensures.stands c.index.result.now c.args.name.now text c.in-Some-sort.sort c.in-Some-sort.ensures
