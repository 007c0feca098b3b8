use Rattle.std.proofs.Common.{sym, ◌∙◌}
use Rattle.lin_driver.specs.NetworkScopes.{plain_sign}
use Rattle.lin_driver.proofs.NetworkScopes.{beside_a_merge, beside_a_leaf, beside_a_left_merge, beside_a_sync, beside_an_operator}
use Rattle.lin_driver.proofs.scopes.beside.Goals as goal

pub returns-in-Merge : goal.returns-in-Merge
returns-in-Merge c = c.of_a_merge.ensures ∙ sym (beside_a_merge (plain_sign c.args.sign) c.args.network.now c.in-Merge.field-0 c.in-Merge.is)

pub returns-in-Leaf : goal.returns-in-Leaf
returns-in-Leaf c = sym (beside_a_leaf (plain_sign c.args.sign) c.args.network.now c.in-Leaf.field-0 c.in-Leaf.is)

pub returns-in-LeftMerge : goal.returns-in-LeftMerge
returns-in-LeftMerge c = sym (beside_a_left_merge (plain_sign c.args.sign) c.args.network.now c.in-LeftMerge.field-0 c.in-LeftMerge.field-1 c.in-LeftMerge.is)

pub returns-in-Sync : goal.returns-in-Sync
returns-in-Sync c = sym (beside_a_sync (plain_sign c.args.sign) c.args.network.now c.in-Sync.field-0 c.in-Sync.is)

pub returns-in-Op : goal.returns-in-Op
returns-in-Op c = sym (beside_an_operator (plain_sign c.args.sign) c.args.network.now c.in-Op.field-0 c.in-Op.field-1 c.in-Op.is)
