use Rattle.std.proofs.Common.{◌+◌, ◌∷◌, length, ap, arith}
use Rattle.data_theory.specs.declared.ids.TermId.{TermId}
use Rattle.value_enum.specs.Levels.{plain_tuples, weighing_up_to, values_at, tuples_at}
use Rattle.value_enum.proofs.Capped.{cut_length}
use Rattle.value_enum.proofs.TupleLists.{plain_length}
use Rattle.value_enum.proofs.TupleSteps.{weighing_begins, weighing_goes_on, weighing_ends}
use Rattle.value_enum.proofs.levels.tuples_weighing.Goals as goal

pub loop-less-init : goal.loop-less-init
loop-less-init c = weighing_begins c.args.bound (plain_tuples c.new-found.result.items) (ap plain_tuples c.new-found.ensures.items)

pub add_all_in_front-requires : goal.add_all_in_front-requires
add_all_in_front-requires c =
    let e = plain_length c.loop-less.found.items in
    let all = weighing_up_to (λ (id : TermId) ids. id ∷ ids) (λ w. values_at c.args.values.now w c.args.sort) (λ w. plain_tuples (tuples_at c.args.tuples.now w c.args.rest)) (length c.args.tuples.now) c.loop-less.less in
    let m = ap length c.loop-less.invariant in
    let l = cut_length (c.args.bound + 1) all in
    omega (arith, e, m, l)

pub loop-less-preserved : goal.loop-less-preserved
loop-less-preserved c =
    weighing_goes_on c.args.bound (λ w. values_at c.args.values.now w c.args.sort) (λ w. plain_tuples (tuples_at c.args.tuples.now w c.args.rest)) (length c.args.tuples.now) c.loop-less.less (plain_tuples c.loop-less.found.items) (plain_tuples c.add_all_in_front.new.tuples.items)
    c.values_of_weight-firsts.result.now c.tuples_of_weight-rests.result.now c.loop-less.invariant c.values_of_weight-firsts.ensures (ap plain_tuples c.tuples_of_weight-rests.ensures) c.in_ok-add_all_in_front.ensures

pub returns : goal.returns
returns c = weighing_ends c.args.bound (λ w. values_at c.args.values.now w c.args.sort) (λ w. plain_tuples (tuples_at c.args.tuples.now w c.args.rest)) (length c.args.tuples.now) c.loop-less.less (plain_tuples c.loop-less.found.items) (omega arith) c.loop-less.invariant
