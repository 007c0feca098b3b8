use Rattle.std.proofs.Common.{◌∷◌, map, arith}
use Rattle.data_theory.specs.declared.ids.TermId.{TermId}
use Rattle.value_enum.specs.Levels.{plain_tuples}
use Rattle.value_enum.proofs.CappedLoops.{joining_begins, joining_goes_on, joining_stops, joining_ends}
use Rattle.value_enum.proofs.TupleLists.{plain_length}
use Rattle.value_enum.proofs.levels.add_all_in_front.Goals as goal

pub loop-first-init : goal.loop-first-init
loop-first-init c =
    joining_begins (λ (id : TermId). map (λ ids. id ∷ ids) (plain_tuples c.args.rests.now)) c.args.bound (plain_tuples c.args.tuples.now.items) c.args.firsts.now (let e = plain_length c.args.tuples.now.items in omega (arith, e, c.requires))

pub returns-then-len-bound : goal.returns-then-len-bound
returns-then-len-bound c =
    joining_stops (λ (id : TermId). map (λ ids. id ∷ ids) (plain_tuples c.args.rests.now)) c.args.bound (plain_tuples c.args.tuples.now.items) c.args.firsts.now c.loop-first.first-index (plain_tuples c.loop-first.tuples.items) c.loop-first.invariant
    (let e = plain_length c.loop-first.tuples.items in omega (arith, e))

pub loop-first-preserved : goal.loop-first-preserved
loop-first-preserved c =
    joining_goes_on (λ (id : TermId). map (λ ids. id ∷ ids) (plain_tuples c.args.rests.now)) c.args.bound (plain_tuples c.args.tuples.now.items) c.args.firsts.now c.loop-first.first-index (record { 0 = 0 }) (plain_tuples c.loop-first.tuples.items) (plain_tuples c.add_in_front.new.tuples.items)
    c.loop-first-test.true c.loop-first.invariant c.in_ok-add_in_front.ensures

pub returns : goal.returns
returns c =
    joining_ends (λ (id : TermId). map (λ ids. id ∷ ids) (plain_tuples c.args.rests.now)) c.args.bound (plain_tuples c.args.tuples.now.items) c.args.firsts.now c.loop-first.first-index (plain_tuples c.loop-first.tuples.items) c.loop-first.invariant c.loop-first-test.false
