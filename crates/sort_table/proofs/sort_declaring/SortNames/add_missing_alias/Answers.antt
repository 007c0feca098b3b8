use Rattle.std.proofs.Common.{◌<◌, ◌∙◌, length, sym, ap, arith}
use Rattle.std.proofs.lemmas.Option.{slice_get_within, same_Some}
use Rattle.std.proofs.lemmas.Result.{on_ok_weaker}
use Rattle.mcrl2_syntax.specs.SortTrees.{plain_sort}
use Rattle.data_theory.specs.IdTerms.{sort_under}
use Rattle.sort_table.specs.Expressions.{Name}
use Rattle.sort_table.specs.NamedLists.{first_named}
use Rattle.sort_table.specs.BareSorts.{bare_sort}
use Rattle.sort_table.specs.SortMeanings.{equal_to}
use Rattle.sort_table.specs.IndexedKinds.{kinds_of_index}
use Rattle.sort_table.proofs.NamedSignatures.{as_many_ids, name_is_named}
use Rattle.sort_table.proofs.DeclaringLemmas.{id_there, first_within, text_at_first, goes_nowhere}
use Rattle.sort_table.proofs.sort_declaring.SortNames.add_missing_alias.Goals as goal

pub index-id-requires : goal.index-id-requires
index-id-requires c =
    omega (arith, first_within (kinds_of_index c.args.self.now.index) c.args.place c.requires.alias.0 (equal_to (bare_sort (plain_sort c.args.tree.now))) c.requires.alias.1, as_many_ids c.args.signature.now.texts (kinds_of_index c.args.self.now.index) c.args.self.now.ids.items c.requires.state.ids_are, c.args.self.now.ids.ok.0)

pub returns-in-Some-clause-goes_on : goal.returns-in-Some-clause-goes_on
returns-in-Some-clause-goes_on c = goes_nowhere (kinds_of_index c.args.self.now.index) c.args.self.now.ids.items c.args.signature.now c.requires.state

pub returns-in-Some-clause-named : goal.returns-in-Some-clause-named
returns-in-Some-clause-named c = λ n e first.
    let ks = kinds_of_index c.args.self.now.index in
    let l : c.args.place < length c.args.self.now.ids.items = omega (arith, first_within ks c.args.place n (equal_to e) first, as_many_ids c.args.signature.now.texts ks c.args.self.now.ids.items c.requires.state.ids_are) in
    let text = text_at_first ks c.args.self.now.ids.items c.args.signature.now c.args.place n (equal_to e) c.index-id.result.now c.requires.state first (id_there c.args.self.now.ids.items c.args.place c.index-id.result.now l c.index-id.ensures) in
    (sort_under c.args.signature.now c.in-Some.field-0, name_is_named c.args.signature.now c.names.ensures.stands c.index-id.result.now n text c.in-Some.field-0 c.in-Some.ensures)

pub put_alias-requires-clause-alias : goal.put_alias-requires-clause-alias
put_alias-requires-clause-alias c = λ n at.
    let ks = kinds_of_index c.args.self.now.index in
    let k = equal_to (bare_sort (plain_sort c.args.tree.now)) in
    let l : c.args.place < length c.args.self.now.ids.items = omega (arith, first_within ks c.args.place c.requires.alias.0 k c.requires.alias.1, as_many_ids c.args.signature.now.texts ks c.args.self.now.ids.items c.requires.state.ids_are) in
    let text = text_at_first ks c.args.self.now.ids.items c.args.signature.now c.args.place c.requires.alias.0 k c.index-id.result.now c.requires.state c.requires.alias.1 (id_there c.args.self.now.ids.items c.args.place c.index-id.result.now l c.index-id.ensures) in
    ap (λ (m : Name). first_named m ks) (same_Some n c.requires.alias.0 (sym at ∙ text)) ∙ c.requires.alias.1.kind_is

pub put_alias-requires-clause-text : goal.put_alias-requires-clause-text
put_alias-requires-clause-text c =
    let ks = kinds_of_index c.args.self.now.index in
    let k = equal_to (bare_sort (plain_sort c.args.tree.now)) in
    let l : c.args.place < length c.args.self.now.ids.items = omega (arith, first_within ks c.args.place c.requires.alias.0 k c.requires.alias.1, as_many_ids c.args.signature.now.texts ks c.args.self.now.ids.items c.requires.state.ids_are) in
    let text = text_at_first ks c.args.self.now.ids.items c.args.signature.now c.args.place c.requires.alias.0 k c.index-id.result.now c.requires.state c.requires.alias.1 (id_there c.args.self.now.ids.items c.args.place c.index-id.result.now l c.index-id.ensures) in
    slice_get_within c.args.signature.now.texts c.index-id.result.now.0 c.requires.alias.0 text

pub put_alias-requires-clause-named : goal.put_alias-requires-clause-named
put_alias-requires-clause-named c = λ m leaf. c.requires.ready c.requires.alias.0 (bare_sort (plain_sort c.args.tree.now)) c.requires.alias.1 m leaf

pub returns-in-None-clause-named : goal.returns-in-None-clause-named
returns-in-None-clause-named c =
    let ks = kinds_of_index c.args.self.now.index in
    on_ok_weaker c.put_alias.result (λ named. λ n e first.
    let l : c.args.place < length c.args.self.now.ids.items = omega (arith, first_within ks c.args.place n (equal_to e) first, as_many_ids c.args.signature.now.texts ks c.args.self.now.ids.items c.requires.state.ids_are) in
    named n (text_at_first ks c.args.self.now.ids.items c.args.signature.now c.args.place n (equal_to e) c.index-id.result.now c.requires.state first (id_there c.args.self.now.ids.items c.args.place c.index-id.result.now l c.index-id.ensures))) c.put_alias.ensures.named
