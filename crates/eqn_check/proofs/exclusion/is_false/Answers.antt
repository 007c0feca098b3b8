use Rattle.data_theory.specs.IdData.{data_meant}
use Rattle.eqn_check.specs.Fillings.{filled_at}
use Rattle.eqn_check.proofs.Deciding.{either_yes, either_so}
use Rattle.eqn_check.proofs.ExcludedPairLemmas.{no_false_reading, false_reading}
use Rattle.eqn_check.proofs.exclusion.is_false.Goals as goal

pub returns-then-is_falsity : goal.returns-then-is_falsity
returns-then-is_falsity c = either_yes c.is_falsity.result c.is_falsity.ensures c.if-is_falsity.true

pub returns-in_default : goal.returns-in_default
returns-in_default c =
    either_so c.is_falsity.result _ c.is_falsity.ensures c.if-is_falsity.false
    (no_false_reading (data_meant c.args.sig.now) (filled_at c.args.sig.now c.args.pool.now.trees c.args.opposites.now c.args.part) c.in_default.ensures)

pub returns : goal.returns
returns c =
    either_so c.is_falsity.result c.in_ok-wrong.wrong c.is_falsity.ensures c.if-is_falsity.false
    (false_reading (data_meant c.args.sig.now) (filled_at c.args.sig.now c.args.pool.now.trees c.args.opposites.now c.args.part) _ c.in-Some.ensures.reads c.in_ok-wrong.wrong c.in_ok-wrong.ensures)
