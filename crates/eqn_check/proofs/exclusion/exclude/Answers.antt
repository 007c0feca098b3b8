use Rattle.eqn_check.proofs.JudgedLemmas.{not_so}
use Rattle.eqn_check.proofs.ExcludedPairLemmas.{opposites_over, same_rights_told, conditions_told}
use Rattle.eqn_check.proofs.exclusion.exclude.Goals as goal

pub are_same-requires-clause-opposites : goal.are_same-requires-clause-opposites
are_same-requires-clause-opposites c = opposites_over c.args.sig.now c.args.pool.now.trees c.args.one.now c.args.other.now c.in_ok-opposites.opposites c.in_ok-opposites.ensures

pub returns-then-same : goal.returns-then-same
returns-then-same c = same_rights_told c.args.sig.now c.args.pool.now.trees c.args.one.now c.args.other.now c.in_ok-opposites.opposites c.in_ok-opposites.ensures (c.in_ok-same.ensures.0 c.if-same.true)

pub have_contrary_conditions-requires-clause-opposites : goal.have_contrary_conditions-requires-clause-opposites
have_contrary_conditions-requires-clause-opposites c = opposites_over c.args.sig.now c.args.pool.now.trees c.args.one.now c.args.other.now c.in_ok-opposites.opposites c.in_ok-opposites.ensures

pub returns : goal.returns
returns c =
    conditions_told c.args.sig.now c.args.pool.now.trees c.args.one.now c.args.other.now c.in_ok-opposites.opposites c.in_ok-opposites.ensures
    (not_so c.in_ok-same.same c.in_ok-same.ensures c.if-same.false) c.in_ok-contrary.contrary c.in_ok-contrary.ensures
