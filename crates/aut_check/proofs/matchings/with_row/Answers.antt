use Rattle.std.proofs.Common.{◌<◌, refl, sym, subst, ℕ, arith}
use Rattle.aut_check.proofs.TrialsInCode.{begun_search, ended_search, popped_filled, popped_inside, popped_long, popped_on, popped_trial}
use Rattle.aut_check.proofs.matchings.with_row.Goals as goal

pub loop-trial-init : goal.loop-trial-init
loop-trial-init c =
    begun_search c.args.marks.now c.args.row c.in_ok-moved.moved.items c.args.order.now c.new-waiting.result.items c.push.new.self.items (record { order = c.in_ok-from_slice.field-0; loose = c.args.row }) c.requires.begun (c.in_ok-moved.ensures.items_if_clones_equal (λ y e. e)) c.new-waiting.ensures.items c.in_ok-push.ensures.items
    c.in_ok-from_slice.ensures.items refl

pub free_place-requires-clause-loose : goal.free_place-requires-clause-loose
free_place-requires-clause-loose c = popped_inside c.args.marks.now c.args.row c.args.order.now c.loop-trial.moved.items c.loop-trial.waiting.items c.pop.new.self.items c.in-Some.trial c.in-Some.ensures.items c.loop-trial.invariant

pub filled-requires-clause-loose : goal.filled-requires-clause-loose
filled-requires-clause-loose c =
    subst (λ (n : ℕ). c.in-Some.trial.loose < n) (sym (popped_long c.args.marks.now c.args.row c.args.order.now c.loop-trial.moved.items c.loop-trial.waiting.items c.pop.new.self.items c.in-Some.trial c.in-Some.ensures.items c.loop-trial.invariant))
    (popped_inside c.args.marks.now c.args.row c.args.order.now c.loop-trial.moved.items c.loop-trial.waiting.items c.pop.new.self.items c.in-Some.trial c.in-Some.ensures.items c.loop-trial.invariant)

pub filled-requires-clause-place : goal.filled-requires-clause-place
filled-requires-clause-place c =
    subst (λ (n : ℕ). c.in-Some-free_place.place < n) (sym (popped_long c.args.marks.now c.args.row c.args.order.now c.loop-trial.moved.items c.loop-trial.waiting.items c.pop.new.self.items c.in-Some.trial c.in-Some.ensures.items c.loop-trial.invariant)) c.in-Some-free_place.ensures.found.1

pub returns-in-Some-free_place-clause-found : goal.returns-in-Some-free_place-clause-found
returns-in-Some-free_place-clause-found c =
    popped_filled c.args.marks.now c.args.row c.args.order.now c.loop-trial.moved.items c.loop-trial.waiting.items c.pop.new.self.items c.in-Some.trial c.in-Some.ensures.items c.loop-trial.invariant c.in-Some-free_place.place c.in_ok-next.next.items c.in-Some-free_place.ensures.found.0
    c.in-Some-free_place.ensures.found.1 c.in-Some-free_place.ensures.found.2 c.in_ok-next.ensures.row c.in_ok-next.ensures.other

pub add_trials-requires-clause-trial : goal.add_trials-requires-clause-trial
add_trials-requires-clause-trial c = popped_trial c.args.marks.now c.args.row c.args.order.now c.loop-trial.moved.items c.loop-trial.waiting.items c.pop.new.self.items c.in-Some.trial c.in-Some.ensures.items c.loop-trial.invariant

pub loop-trial-preserved : goal.loop-trial-preserved
loop-trial-preserved c =
    popped_on c.args.marks.now c.args.row c.args.order.now c.loop-trial.moved.items c.loop-trial.waiting.items c.pop.new.self.items c.in-Some.trial c.in-Some.ensures.items c.loop-trial.invariant c.add_trials.new.moved.items c.add_trials.new.waiting.items c.in_default-free_place.ensures.none c.in_ok-add_trials.ensures

pub returns-clause-none : goal.returns-clause-none
returns-clause-none c =
    ended_search c.args.marks.now c.args.row c.args.order.now c.loop-trial.moved.items c.loop-trial.waiting.items c.requires.begun (λ some. let wrong = c.in_default.ensures.variant.1 (omega (arith, some, c.loop-trial.waiting.ok.0)) in cc) c.loop-trial.invariant
