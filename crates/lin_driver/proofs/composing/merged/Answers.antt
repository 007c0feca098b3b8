use Rattle.std.proofs.Common.{ap, sym, subst}
use Rattle.lps_core.specs.PlainLinears.{plain_linear}
use Rattle.summand_expander.specs.PlainAllowed.{plain_allowed}
use Rattle.lin_driver.specs.NetworkScopes.{plain_scope, ScopeFits}
use Rattle.lin_driver.proofs.JointLinears.{product_is_joint, product_joins, part_is_joint, part_joins}
use Rattle.lin_driver.proofs.composing.merged.Goals as goal

pub returns-in-Everything-clause-joint : goal.returns-in-Everything-clause-joint
returns-in-Everything-clause-joint c =
    product_is_joint c.product.new.sig c.product.new.pool.trees (plain_linear c.args.left.now) (plain_linear c.args.right.now) (plain_scope c.args.within.now) c.args.sig.now c.product.result (ap plain_scope c.in-Everything.is) c.product.ensures.made

pub returns-in-Everything-clause-bisimilar : goal.returns-in-Everything-clause-bisimilar
returns-in-Everything-clause-bisimilar c =
    product_joins c.product.new.sig c.product.new.pool.trees (plain_linear c.args.left.now) (plain_linear c.args.right.now) (plain_scope c.args.within.now) c.product.result (ap plain_scope c.in-Everything.is) c.product.ensures.bisimilar

pub product_within-requires-clause-allowed : goal.product_within-requires-clause-allowed
product_within-requires-clause-allowed c = subst (ScopeFits c.args.sig.now) (ap plain_scope c.in-Completable.is) c.requires.scope

pub returns-in-Completable-clause-joint : goal.returns-in-Completable-clause-joint
returns-in-Completable-clause-joint c =
    part_is_joint c.product_within.new.sig c.product_within.new.pool.trees (plain_linear c.args.left.now) (plain_linear c.args.right.now) (plain_scope c.args.within.now) c.args.sig.now (plain_allowed c.in-Completable.allowed) c.product_within.result
    (ap plain_scope c.in-Completable.is) c.product_within.ensures.made

pub returns-in-Completable-clause-bisimilar : goal.returns-in-Completable-clause-bisimilar
returns-in-Completable-clause-bisimilar c =
    part_joins c.product_within.new.sig c.product_within.new.pool.trees (plain_linear c.args.left.now) (plain_linear c.args.right.now) (plain_scope c.args.within.now) (plain_allowed c.in-Completable.allowed) c.product_within.result
    (ap plain_scope c.in-Completable.is) c.product_within.ensures.bisimilar
