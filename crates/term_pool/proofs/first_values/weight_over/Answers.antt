use Rattle.term_pool.proofs.FirstLoops.{next_left, weight_over_all, unsettled_at}
use Rattle.term_pool.proofs.first_values.weight_over.Goals as goal

pub returns-in_default : goal.returns-in_default
returns-in_default c =
    λ g sofar. (
    let i = c.loop-sort.sort-index in
    let within = c.requires i (record { 0 = 0 }) c.loop-sort-test.true in
    unsettled_at c.args.entries.now c.args.sorts.now i (record { 0 = 0 }) c.index-entries-sort.result c.loop-sort-test.true within c.index-entries-sort.is c.in_default.is
    )

pub loop-sort-preserved : goal.loop-sort-preserved
loop-sort-preserved c =
    λ g sofar. (
    let i = c.loop-sort.sort-index in
    let within = c.requires i (record { 0 = 0 }) c.loop-sort-test.true in
    next_left g c.args.entries.now sofar c.args.sorts.now i (record { 0 = 0 }) c.index-entries-sort.result c.in-Some.first c.loop-sort.weight c.in_ok-weight-2.weight c.loop-sort-test.true within c.index-entries-sort.is c.in-Some.is c.in_ok-weight-2.ensures (c.loop-sort.invariant g sofar)
    )

pub returns : goal.returns
returns c = λ g sofar. weight_over_all g c.args.entries.now c.args.sorts.now c.loop-sort.sort-index c.loop-sort.weight c.loop-sort-test.false (c.loop-sort.invariant g sofar)
