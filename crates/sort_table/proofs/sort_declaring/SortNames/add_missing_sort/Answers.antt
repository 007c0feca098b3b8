use Rattle.std.proofs.Common.{◌<◌, length, sym, subst, arith}
use Rattle.std.proofs.lemmas.Option.{slice_get_within}
use Rattle.data_theory.specs.Signature.{Sig}
use Rattle.data_theory.specs.IdTerms.{sort_under}
use Rattle.sort_table.specs.NamedSorts.{IsNamed}
use Rattle.sort_table.specs.DeclaringSorts.{GoesOn}
use Rattle.sort_table.specs.IndexedKinds.{kinds_of_index}
use Rattle.sort_table.proofs.NamedSignatures.{as_many_ids, name_is_named}
use Rattle.sort_table.proofs.DeclaringLemmas.{id_there, first_within, text_at_first, goes_nowhere, own_goes_on, own_now}
use Rattle.sort_table.proofs.sort_declaring.SortNames.add_missing_sort.Goals as goal

pub index-id-requires : goal.index-id-requires
index-id-requires c =
    omega (arith, first_within (kinds_of_index c.args.self.now.index) c.args.place c.requires.own.0 c.requires.own.1 c.requires.own.2, as_many_ids c.args.signature.now.texts (kinds_of_index c.args.self.now.index) c.args.self.now.ids.items c.requires.state.ids_are, c.args.self.now.ids.ok.0)

pub add_sort-requires-clause-name : goal.add_sort-requires-clause-name
add_sort-requires-clause-name c =
    let l : c.args.place < length c.args.self.now.ids.items = omega (arith, first_within (kinds_of_index c.args.self.now.index) c.args.place c.requires.own.0 c.requires.own.1 c.requires.own.2, as_many_ids c.args.signature.now.texts (kinds_of_index c.args.self.now.index) c.args.self.now.ids.items c.requires.state.ids_are) in
    slice_get_within c.args.signature.now.texts c.index-id.result.now.0 c.requires.own.0 (text_at_first (kinds_of_index c.args.self.now.index) c.args.self.now.ids.items c.args.signature.now c.args.place c.requires.own.0 c.requires.own.1 c.index-id.result.now c.requires.state c.requires.own.2 (id_there c.args.self.now.ids.items c.args.place c.index-id.result.now l c.index-id.ensures))

pub returns-in-Some-clause-goes_on : goal.returns-in-Some-clause-goes_on
returns-in-Some-clause-goes_on c = goes_nowhere (kinds_of_index c.args.self.now.index) c.args.self.now.ids.items c.args.signature.now c.requires.state

pub returns-in-Some-clause-named : goal.returns-in-Some-clause-named
returns-in-Some-clause-named c = λ n k first own.
    let l : c.args.place < length c.args.self.now.ids.items = omega (arith, first_within (kinds_of_index c.args.self.now.index) c.args.place n k first, as_many_ids c.args.signature.now.texts (kinds_of_index c.args.self.now.index) c.args.self.now.ids.items c.requires.state.ids_are) in
    let text = text_at_first (kinds_of_index c.args.self.now.index) c.args.self.now.ids.items c.args.signature.now c.args.place n k c.index-id.result.now c.requires.state first (id_there c.args.self.now.ids.items c.args.place c.index-id.result.now l c.index-id.ensures) in
    (sort_under c.args.signature.now c.in-Some.field-0, name_is_named c.args.signature.now c.names.ensures.stands c.index-id.result.now n text c.in-Some.field-0 c.in-Some.ensures)

pub returns-in_ok-add_sort-in-None-clause-goes_on : goal.returns-in_ok-add_sort-in-None-clause-goes_on
returns-in_ok-add_sort-in-None-clause-goes_on c =
    let ks = kinds_of_index c.args.self.now.index in
    let n = c.requires.own.0 in
    let k = c.requires.own.1 in
    let l : c.args.place < length c.args.self.now.ids.items = omega (arith, first_within ks c.args.place n k c.requires.own.2, as_many_ids c.args.signature.now.texts ks c.args.self.now.ids.items c.requires.state.ids_are) in
    let text = text_at_first ks c.args.self.now.ids.items c.args.signature.now c.args.place n k c.index-id.result.now c.requires.state c.requires.own.2 (id_there c.args.self.now.ids.items c.args.place c.index-id.result.now l c.index-id.ensures) in
    subst (λ (h : Sig). GoesOn ks c.args.self.now.ids.items c.args.signature.now h) (sym c.in_ok-add_sort-in-None.ensures.added)
    (own_goes_on ks c.args.self.now.ids.items c.args.signature.now c.args.place n c.index-id.result.now c.names.ensures.stands c.requires.state text (slice_get_within c.args.signature.now.texts c.index-id.result.now.0 n text) c.in-None.ensures k c.requires.own.2 c.requires.own.3)

pub returns-in_ok-add_sort-in-None-clause-named : goal.returns-in_ok-add_sort-in-None-clause-named
returns-in_ok-add_sort-in-None-clause-named c = λ n k first own.
    let ks = kinds_of_index c.args.self.now.index in
    let l : c.args.place < length c.args.self.now.ids.items = omega (arith, first_within ks c.args.place n k first, as_many_ids c.args.signature.now.texts ks c.args.self.now.ids.items c.requires.state.ids_are) in
    let text = text_at_first ks c.args.self.now.ids.items c.args.signature.now c.args.place n k c.index-id.result.now c.requires.state first (id_there c.args.self.now.ids.items c.args.place c.index-id.result.now l c.index-id.ensures) in
    subst (λ (h : Sig). IsNamed h n) (sym c.in_ok-add_sort-in-None.ensures.added)
    (own_now ks c.args.self.now.ids.items c.args.signature.now c.args.place n c.index-id.result.now c.names.ensures.stands c.requires.state text (slice_get_within c.args.signature.now.texts c.index-id.result.now.0 n text) c.in-None.ensures)
