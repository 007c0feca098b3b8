use Rattle.std.proofs.Common.{◌≡◌, arith, ap, sym, length}
use Rattle.lin_driver.proofs.NeededTrees.{two_are_and, others_are_not}
use Rattle.lin_driver.proofs.tidying.is_conjunction.Goals as goal

pub returns-in-len2 : goal.returns-in-len2
returns-in-len2 c =
    let e = ap length c.as_slice.ensures.value in
    let a = c.in-len2.len_at_least in
    let b = c.in-len2.len_below in
    let l : length c.node-node.result.now.args.items ≡ 2 = omega (arith, e, a, b) in
    sym (two_are_and _ c.node-node.result.now.args.items _ _ _ c.node-node.ensures.tree c.in-Fun.is c.if-fun.false l)

pub returns-in_default-as_slice : goal.returns-in_default-as_slice
returns-in_default-as_slice c = sym (others_are_not _ c.node-node.result.now.args.items _ _ _ c.node-node.ensures.tree c.in-Fun.is (λ l. let e = ap length c.as_slice.ensures.value in let b = c.in_default-as_slice.len_below in omega (arith, e, b, l)))

pub returns-in_default-as_slice-2 : goal.returns-in_default-as_slice-2
returns-in_default-as_slice-2 c = sym (others_are_not _ c.node-node.result.now.args.items _ _ _ c.node-node.ensures.tree c.in-Fun.is (λ l. let e = ap length c.as_slice.ensures.value in let b = c.in_default-as_slice.len_at_least in omega (arith, e, b, l)))
