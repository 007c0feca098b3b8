use Rattle.eqn_check.proofs.ComparisonLemmas.{sides_within}
use Rattle.eqn_check.proofs.ExcludedPairLemmas.{not_binary, conjuncts_are, no_conjuncts}
use Rattle.eqn_check.proofs.exclusion.conjuncts.Goals as goal

pub returns-in_default : goal.returns-in_default
returns-in_default c = not_binary c.args.sig.now c.args.pool.now.trees c.args.term c.in_default.ensures

pub sign_of_function-requires : goal.sign_of_function-requires
sign_of_function-requires c = (sides_within c.args.sig.now c.args.pool.now.trees c.args.term c.in-Some.fun c.in-Some.one c.in-Some.other c.requires c.in-Some.ensures).0

pub returns-in_default-sign_of_function : goal.returns-in_default-sign_of_function
returns-in_default-sign_of_function c = no_conjuncts c.args.sig.now c.args.pool.now.trees c.args.term c.in-Some.fun c.in-Some.one c.in-Some.other c.in-Some.ensures c.sign_of_function.result c.sign_of_function.ensures c.in_default-sign_of_function.not-And

pub returns : goal.returns
returns c = conjuncts_are c.args.sig.now c.args.pool.now.trees c.args.term c.in-Some.fun c.in-Some.one c.in-Some.other c.in-Some.ensures c.sign_of_function.result c.sign_of_function.ensures c.requires c.in-And.is
