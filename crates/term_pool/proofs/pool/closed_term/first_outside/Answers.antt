use Rattle.std.proofs.Common.{◌≡◌, true, take, get_or, sym, ◌∙◌, subst}
use Rattle.std.specs.List.{All, Contains}
use Rattle.std.proofs.lemmas.List.{take_more, take_all}
use Rattle.std.proofs.lemmas.List.Elements.{All-push}
use Rattle.data_theory.specs.declared.ids.SortId.{SortId}
use Rattle.term_pool.proofs.SortSearch.{is_among, among_contains}
use Rattle.term_pool.proofs.pool.closed_term.first_outside.Goals as goal

pub loop-sort-preserved : goal.loop-sort-preserved
loop-sort-preserved c =
    let d : SortId = record { 0 = 0 } in
    let sort : SortId = get_or c.args.sorts.now c.loop-sort.sort-index d in
    let has : is_among sort c.args.set.now.keys ≡ true = sym c.contains.ensures ∙ c.if-not-contains.false in
    subst (All (Contains c.args.set.now.keys)) (sym (take_more c.args.sorts.now c.loop-sort.sort-index d c.loop-sort-test.true)) (All-push (Contains c.args.set.now.keys) (take c.loop-sort.sort-index c.args.sorts.now) sort c.loop-sort.invariant (among_contains sort c.args.set.now.keys has))

pub returns : goal.returns
returns c = subst (All (Contains c.args.set.now.keys)) (take_all c.loop-sort.sort-index c.args.sorts.now c.loop-sort-test.false) c.loop-sort.invariant
