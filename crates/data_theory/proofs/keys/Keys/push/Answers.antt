use Rattle.std.proofs.Common.{◌∙◌, ap}
use Rattle.data_theory.specs.Keys.{key, keys_at}
use Rattle.data_theory.proofs.KeyLemmas.{IsPushed, key_pushed, keys_stay, on_err}
use Rattle.data_theory.proofs.keys.Keys.push.Goals as goal
use Rattle.data_theory.proofs.keys.Keys.push.Goals.{In_ok-insert}

pub returns-in_err-insert-clause-unchanged : goal.returns-in_err-insert-clause-unchanged
returns-in_err-insert-clause-unchanged c =
    on_err c.from_residual-in_err-insert.result
    (ap (keys_at c.enter.new.self) c.in_err-insert.ensures.err
    ∙ keys_stay c.self.inside.lists c.enter.new.self c.args.sorts.now c.in_ok-list.ensures.entered c.self.inside.places.keys c.self.invariant.within
    ∙ c.self.view_is)

pushed : (c : In_ok-insert) → IsPushed c.enter.new.self c.insert.new.self.keys c.args.self.now (key c.args.name c.args.sorts.now)
pushed c =
    key_pushed c.self.inside.lists c.enter.new.self c.args.sorts.now c.args.name c.in_ok-list.list c.self.inside.places.keys c.insert.new.self.keys c.args.self.now
    c.self.invariant (record { different = c.in_ok-list.ensures.different; within = λ i p e. cc }) c.in_ok-list.ensures.entered c.in_ok-list.ensures.place c.self.view_is c.requires c.in_ok-insert.ensures.keys

pub invariant_of-self-2 : goal.invariant_of-self-2
invariant_of-self-2 c = (pushed c).are

pub returns-clause-pushed : goal.returns-clause-pushed
returns-clause-pushed c = (pushed c).keys
