use Rattle.std.proofs.Common.{ap, sym}
use Rattle.process_terms.specs.PlainProcesses.{items_of_each, plain_rules}
use Rattle.lin_driver.specs.NetworkScopes.{below_comm, plain_scope, within_rules}
use Rattle.lin_driver.proofs.NetworkScopes.{scope_is}
use Rattle.lin_driver.proofs.scopes.below_comm.Goals as goal

pub returns-in-Everything : goal.returns-in-Everything
returns-in-Everything c = sym (ap (λ w. below_comm (plain_rules c.args.rules.now) (plain_scope w)) c.in-Everything.is)

pub returns-in-Completable : goal.returns-in-Completable
returns-in-Completable c =
    scope_is c.within_rules.result (within_rules (plain_rules c.args.rules.now) (plain_rules c.in-Completable.allowed.rules) (items_of_each c.in-Completable.allowed.sets.items)) (below_comm (plain_rules c.args.rules.now) (plain_scope c.args.within.now))
    (sym (ap (λ w. below_comm (plain_rules c.args.rules.now) (plain_scope w)) c.in-Completable.is)) c.within_rules.ensures
