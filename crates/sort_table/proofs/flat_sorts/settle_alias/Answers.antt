use Rattle.std.proofs.Common.{◌∙◌, sym, ap, List, subst}
use Rattle.std.proofs.lemmas.Option.{none-some}
use Rattle.sort_table.specs.declared.flat_sorts.FlatSort.{FlatSort}
use Rattle.sort_table.specs.IndexedKinds.{kinds_of_index}
use Rattle.sort_table.specs.FlatSorts.{flat_in, expression_of, IsSettled}
use Rattle.sort_table.proofs.FlatSortLemmas.{HasFlat, has_flat, alias_settled, alias_keeps, name_at_place}
use Rattle.sort_table.proofs.flat_sorts.settle_alias.Goals as goal

pub unreachable-requires : goal.unreachable-requires
unreachable-requires c =
    let ks = kinds_of_index c.args.index.now in
    let table = c.args.sorts.now.items in
    let h : HasFlat ks table (expression_of c.args.tree.now) = has_flat ks table (expression_of c.args.tree.now) (c.requires.ready c.requires.alias.0 (expression_of c.args.tree.now) c.requires.alias.1) in
    none-some h.sort (sym c.in_default.is ∙ (c.in_ok-found.ensures ∙ (ap (λ (ts : List FlatSort). flat_in ks ts (expression_of c.args.tree.now)) c.as_slice.ensures.value ∙ h.read)))

pub returns-clause-keeps : goal.returns-clause-keeps
returns-clause-keeps c =
    let ks = kinds_of_index c.args.index.now in
    let table = c.args.sorts.now.items in
    alias_keeps ks table c.requires.alias.0 (expression_of c.args.tree.now) c.args.place c.in-Some.sort c.requires.size c.requires.alias.1 c.requires.ready
    (sym (ap (λ (ts : List FlatSort). flat_in ks ts (expression_of c.args.tree.now)) c.as_slice.ensures.value) ∙ (sym c.in_ok-found.ensures ∙ c.in-Some.is))

pub returns-clause-settled : goal.returns-clause-settled
returns-clause-settled c = λ n e first.
    let ks = kinds_of_index c.args.index.now in
    let table = c.args.sorts.now.items in
    subst (IsSettled ks _) (name_at_place ks c.requires.alias.0 n c.args.place c.requires.alias.1.place_is first.place_is)
    (alias_settled ks table c.requires.alias.0 (expression_of c.args.tree.now) c.args.place c.in-Some.sort c.requires.size c.requires.alias.1 c.requires.ready
    (sym (ap (λ (ts : List FlatSort). flat_in ks ts (expression_of c.args.tree.now)) c.as_slice.ensures.value) ∙ (sym c.in_ok-found.ensures ∙ c.in-Some.is)))
