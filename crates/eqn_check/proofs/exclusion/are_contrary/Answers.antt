use Rattle.data_theory.specs.IdData.{data_meant}
use Rattle.eqn_check.specs.Fillings.{filled_at}
use Rattle.eqn_check.proofs.Deciding.{either_yes, either_so}
use Rattle.eqn_check.proofs.ExcludedPairLemmas.{no_first_reading, no_second_reading, both_readings}
use Rattle.eqn_check.proofs.exclusion.are_contrary.Goals as goal

pub returns-then-negated : goal.returns-then-negated
returns-then-negated c = either_yes c.in_ok-negated.negated c.in_ok-negated.ensures c.if-negated.true

pub returns-in_default : goal.returns-in_default
returns-in_default c =
    either_so c.in_ok-negated.negated _ c.in_ok-negated.ensures c.if-negated.false
    (no_first_reading (data_meant c.args.sig.now) (filled_at c.args.sig.now c.args.pool.now.trees c.args.opposites.now c.args.part) (filled_at c.args.sig.now c.args.pool.now.trees c.args.opposites.now c.args.other) c.in_default.ensures)

pub returns-in_default-what_is_said : goal.returns-in_default-what_is_said
returns-in_default-what_is_said c =
    either_so c.in_ok-negated.negated _ c.in_ok-negated.ensures c.if-negated.false
    (no_second_reading (data_meant c.args.sig.now) (filled_at c.args.sig.now c.args.pool.now.trees c.args.opposites.now c.args.part) (filled_at c.args.sig.now c.args.pool.now.trees c.args.opposites.now c.args.other) c.in_default-what_is_said.ensures)

pub returns : goal.returns
returns c =
    either_so c.in_ok-negated.negated c.in_ok-contrary.contrary c.in_ok-negated.ensures c.if-negated.false
    (both_readings (filled_at c.args.sig.now c.args.pool.now.trees c.args.opposites.now c.args.part) (filled_at c.args.sig.now c.args.pool.now.trees c.args.opposites.now c.args.other) _ _
    c.in-Some.ensures.reads c.in-Some-what_is_said.ensures.reads c.in_ok-contrary.contrary c.in_ok-contrary.ensures)
