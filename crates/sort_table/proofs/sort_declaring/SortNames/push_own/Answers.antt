use Rattle.std.proofs.Common.{◌<◌, ◌∙◌, length, sym, arith}
use Rattle.sort_table.specs.NamedLists.{first_named}
use Rattle.sort_table.specs.IndexedKinds.{kinds_of_index}
use Rattle.data_theory.proofs.IdSortLemmas.{read_within}
use Rattle.sort_table.proofs.NamedSignatures.{id_of_place}
use Rattle.sort_table.proofs.DeclaringLemmas.{id_there}
use Rattle.sort_table.proofs.OwnNames.{own_next, alias_next}
use Rattle.sort_table.proofs.sort_declaring.SortNames.push_own.Goals as goal

pub returns-then-not-is_own : goal.returns-then-not-is_own
returns-then-not-is_own c = λ texts are so.
    let ks = kinds_of_index c.args.self.now.index in
    let r = read_within ks c.args.place c.requires.place in
    alias_next (λ n. first_named n ks) ks c.args.place r.0.0 r.0.1 r.1 texts c.args.own.now.items (sym (c.is_own.ensures r.0.0 r.0.1 r.1) ∙ c.if-not-is_own.true) so

pub returns : goal.returns
returns c = λ texts are so.
    let ks = kinds_of_index c.args.self.now.index in
    let r = read_within ks c.args.place c.requires.place in
    let l : c.args.place < length c.args.self.now.ids.items = omega (arith, c.requires.place, c.requires.ids) in
    own_next (λ n. first_named n ks) ks c.args.place r.0.0 r.0.1 r.1 texts c.index.result.now c.args.own.now.items c.push.new.self.items
    (id_of_place texts ks c.args.self.now.ids.items c.args.place r.0.0 r.0.1 c.index.result.now are r.1 (id_there c.args.self.now.ids.items c.args.place c.index.result.now l c.index.ensures))
    (sym (c.is_own.ensures r.0.0 r.0.1 r.1) ∙ c.if-not-is_own.false) c.in_ok-push.ensures.items so
