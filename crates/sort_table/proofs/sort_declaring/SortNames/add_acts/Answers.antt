use Rattle.std.proofs.Common.{map, sym, subst}
use Rattle.std.proofs.lemmas.Result.{on_ok_weaker}
use Rattle.mcrl2_syntax.specs.SortTrees.{plain_sort}
use Rattle.sort_table.specs.BareSorts.{bare_sort}
use Rattle.sort_table.specs.EnteredFunctions.{HaveSortsOf}
use Rattle.sort_table.proofs.sort_declaring.SortNames.add_acts.Goals as goal

pub add_each_act-requires-clause-sorts : goal.add_each_act-requires-clause-sorts
add_each_act-requires-clause-sorts c =
    let es = map bare_sort (map plain_sort c.args.domain.now) in
    (es, subst (HaveSortsOf c.args.signature.now es) (sym c.as_slice.ensures.value) c.in_ok-sorts.ensures)

pub returns : goal.returns
returns c =
    let es = map bare_sort (map plain_sort c.args.domain.now) in
    on_ok_weaker c.add_each_act.result (λ adds. adds es (subst (HaveSortsOf c.args.signature.now es) (sym c.as_slice.ensures.value) c.in_ok-sorts.ensures)) c.add_each_act.ensures
