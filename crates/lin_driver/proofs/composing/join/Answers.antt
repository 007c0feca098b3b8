use Rattle.std.proofs.Common.{ap, subst}
use Rattle.process_terms.specs.Processes as written
use Rattle.lps_core.specs.PlainLinears.{plain_linear}
use Rattle.lin_driver.specs.NetworkScopes.{merging, beginning, around_sign, plain_scope, plain_sign, ScopeFits}
use Rattle.lin_driver.proofs.JointLinears.{is_joint, joins, start_joins}
use Rattle.lin_driver.proofs.composing.join.Goals as goal

pub merged-requires-clause-scope : goal.merged-requires-clause-scope
merged-requires-clause-scope c = subst (λ b. ScopeFits c.args.sig.now (around_sign (plain_sign b))) c.in-Merge.is c.requires.scope

pub returns-in-Merge-clause-joint : goal.returns-in-Merge-clause-joint
returns-in-Merge-clause-joint c =
    is_joint c.merged.new.sig c.merged.new.pool.trees (plain_linear c.args.left.now) (plain_linear c.args.right.now) (plain_sign c.args.sign) (merging (plain_scope c.in-Merge.within.now)) c.args.sig.now c.merged.result (ap plain_sign c.in-Merge.is) c.merged.ensures.joint

pub returns-in-Merge-clause-bisimilar : goal.returns-in-Merge-clause-bisimilar
returns-in-Merge-clause-bisimilar c =
    joins c.merged.new.sig c.merged.new.pool.trees (plain_linear c.args.left.now) (plain_linear c.args.right.now) (plain_sign c.args.sign) (merging (plain_scope c.in-Merge.within.now)) c.merged.result (ap plain_sign c.in-Merge.is) c.merged.ensures.bisimilar

pub returns-in-Sync-clause-joint : goal.returns-in-Sync-clause-joint
returns-in-Sync-clause-joint c =
    is_joint c.product_from.new.sig c.product_from.new.pool.trees (plain_linear c.args.left.now) (plain_linear c.args.right.now) (plain_sign c.args.sign) (beginning written.sync) c.args.sig.now c.product_from.result (ap plain_sign c.in-Sync.is) c.product_from.ensures.made

pub returns-in-Sync-clause-bisimilar : goal.returns-in-Sync-clause-bisimilar
returns-in-Sync-clause-bisimilar c =
    let h = c.product_from.new.sig in
    let us = c.product_from.new.pool.trees in
    let l = plain_linear c.args.left.now in
    let r = plain_linear c.args.right.now in
    joins h us l r (plain_sign c.args.sign) (beginning written.sync) c.product_from.result (ap plain_sign c.in-Sync.is) (start_joins written.sync h us l r c.product_from.result c.product_from.ensures.bisimilar)
