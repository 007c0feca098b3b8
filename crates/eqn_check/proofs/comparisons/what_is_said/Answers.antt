use Rattle.eqn_check.proofs.ComparisonLemmas.{sides_within, not_compared, compared}
use Rattle.eqn_check.proofs.comparisons.what_is_said.Goals as goal

pub returns-in_default : goal.returns-in_default
returns-in_default c = not_compared c.args.sig.now c.args.pool.now.trees c.args.opposites.now c.args.part c.resolved-at.result c.resolved-at.ensures c.in_default.ensures

pub sign_of_function-requires : goal.sign_of_function-requires
sign_of_function-requires c = (sides_within c.args.sig.now c.args.pool.now.trees c.resolved-at.result.term c.in-Some.fun c.in-Some.one c.in-Some.other c.resolved-at.ensures.term c.in-Some.ensures).0

pub returns : goal.returns
returns c =
    compared c.args.sig.now c.args.pool.now.trees c.args.opposites.now c.args.part c.resolved-at.result c.resolved-at.ensures c.in-Some.fun c.in-Some.one c.in-Some.other c.in-Some.ensures
    c.sign_of_function.result c.sign_of_function.ensures c.compared_by.result c.compared_by.ensures
