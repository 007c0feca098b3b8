use Rattle.std.proofs.Common.{ap, sym, ◌∙◌}
use Rattle.process_terms.specs.PlainProcesses.{items_of_each, plain_rules}
use Rattle.proc_unfold.specs.Networks.{plain_operator}
use Rattle.lin_driver.specs.NetworkScopes.{below, below_comm, plain_scope, within_sets}
use Rattle.lin_driver.proofs.NetworkScopes.{scope_is}
use Rattle.lin_driver.proofs.scopes.below.Goals as goal

pub returns-in-Allow : goal.returns-in-Allow
returns-in-Allow c =
    scope_is c.within_sets.result (within_sets (items_of_each c.as_slice.result.now)) (below (plain_operator c.args.operator.now) (plain_scope c.args.within.now))
    (ap (λ sets. within_sets (items_of_each sets)) c.as_slice.ensures.value ∙ sym (ap (λ o. below (plain_operator o) (plain_scope c.args.within.now)) c.in-Allow.is)) c.within_sets.ensures

pub returns-in-Comm : goal.returns-in-Comm
returns-in-Comm c =
    scope_is c.below_comm.result (below_comm (plain_rules c.in-Comm.rules) (plain_scope c.args.within.now)) (below (plain_operator c.args.operator.now) (plain_scope c.args.within.now)) (sym (ap (λ o. below (plain_operator o) (plain_scope c.args.within.now)) c.in-Comm.is)) c.below_comm.ensures

pub returns-in-Block : goal.returns-in-Block
returns-in-Block c = sym (ap (λ o. below (plain_operator o) (plain_scope c.args.within.now)) c.in-Block.is)

pub returns-in-Hide : goal.returns-in-Hide
returns-in-Hide c = sym (ap (λ o. below (plain_operator o) (plain_scope c.args.within.now)) c.in-Hide.is)

pub returns-in-Rename : goal.returns-in-Rename
returns-in-Rename c = sym (ap (λ o. below (plain_operator o) (plain_scope c.args.within.now)) c.in-Rename.is)
