use Rattle.std.proofs.Common.{◌++◌, ◌∷◌, [], ◌∙◌, List, sym, ap, arith}
use Rattle.data_theory.specs.declared.ids.TermId.{TermId}
use Rattle.value_enum.specs.Levels.{plain_tuples}
use Rattle.value_enum.proofs.CappedLoops.{pushing_begins, pushing_goes_on, pushing_stops, pushing_ends}
use Rattle.value_enum.proofs.TupleLists.{plain_length, plain_pushed, plain_read}
use Rattle.value_enum.proofs.levels.add_in_front.Goals as goal

pub loop-rest-init : goal.loop-rest-init
loop-rest-init c =
    pushing_begins (λ (ids : List TermId). c.args.first ∷ ids) c.args.bound (plain_tuples c.args.tuples.now.items) (plain_tuples c.args.rests.now) (let e = plain_length c.args.tuples.now.items in omega (arith, e, c.requires))

pub returns-then-len-bound : goal.returns-then-len-bound
returns-then-len-bound c =
    pushing_stops (λ (ids : List TermId). c.args.first ∷ ids) c.args.bound (plain_tuples c.args.tuples.now.items) (plain_tuples c.args.rests.now) c.loop-rest.rest-index (plain_tuples c.loop-rest.tuples.items) c.loop-rest.invariant
    (let e = plain_length c.loop-rest.tuples.items in omega (arith, e))

pub loop-rest-preserved : goal.loop-rest-preserved
loop-rest-preserved c =
    let i = c.loop-rest.rest-index in
    let d : List TermId = [] in
    let size = plain_length c.args.rests.now in
    let now = plain_length c.loop-rest.tuples.items in
    let read = plain_read c.args.rests.now i d c.rest-item.result c.loop-rest-test.true c.rest-item.is in
    pushing_goes_on (λ (ids : List TermId). c.args.first ∷ ids) c.args.bound (plain_tuples c.args.tuples.now.items) (plain_tuples c.args.rests.now) i d (plain_tuples c.loop-rest.tuples.items) (plain_tuples c.push.new.self.items) (omega (arith, size)) c.loop-rest.invariant (omega (arith, now))
    (plain_pushed c.loop-rest.tuples.items c.push.new.self.items c.in_ok-tuple.tuple c.in_ok-push.ensures.items ∙ ap (λ ids. plain_tuples c.loop-rest.tuples.items ++ ids ∷ []) (c.in_ok-tuple.ensures ∙ ap (λ ids. c.args.first ∷ ids) (sym read)))

pub returns : goal.returns
returns c =
    pushing_ends (λ (ids : List TermId). c.args.first ∷ ids) c.args.bound (plain_tuples c.args.tuples.now.items) (plain_tuples c.args.rests.now) c.loop-rest.rest-index (plain_tuples c.loop-rest.tuples.items) c.loop-rest.invariant
    (let size = plain_length c.args.rests.now in omega (arith, size))
