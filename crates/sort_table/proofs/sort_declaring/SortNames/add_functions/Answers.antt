use Rattle.std.proofs.Common.{map, sym, subst}
use Rattle.std.proofs.lemmas.Result.{on_ok_weaker}
use Rattle.mcrl2_syntax.specs.SortTrees.{plain_sort}
use Rattle.sort_table.specs.BareSorts.{bare_sort}
use Rattle.sort_table.specs.EnteredFunctions.{HaveSortsOf}
use Rattle.sort_table.proofs.EnteringFunctions.{some_can_enter}
use Rattle.sort_table.proofs.sort_declaring.SortNames.add_functions.Goals as goal

pub add_each-requires-clause-next : goal.add_each-requires-clause-next
add_each-requires-clause-next c =
    let g = c.args.signature.now in
    let es = map bare_sort (map plain_sort c.args.domain.now) in
    let r = c.requires.next in
    some_can_enter g es (bare_sort (plain_sort c.args.sort.now)) r.0 c.args.words.now c.as_slice.result.now c.sort_there-to.result r.1 (subst (HaveSortsOf g es) (sym c.as_slice.ensures.value) c.in_ok-args.ensures) c.sort_there-to.ensures r.2

pub returns-clause-entered : goal.returns-clause-entered
returns-clause-entered c =
    let es = map bare_sort (map plain_sort c.args.domain.now) in
    let e = bare_sort (plain_sort c.args.sort.now) in
    on_ok_weaker c.add_each.result (λ adds. λ r plain. adds es e r plain (subst (HaveSortsOf c.args.signature.now es) (sym c.as_slice.ensures.value) c.in_ok-args.ensures) c.sort_there-to.ensures) c.add_each.ensures.entered
