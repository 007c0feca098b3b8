use Rattle.std.proofs.Common.{arith, ap, length}
use Rattle.lps_core.proofs.TreeParts.{not_two}
use Rattle.lps_invariant.proofs.parts.sides.Goals as goal

pub returns-in_default-as_slice : goal.returns-in_default-as_slice
returns-in_default-as_slice c = not_two _ c.node-node.result.now.args.items _ _ _ c.node-node.ensures.tree c.in-Fun.is c.if-fun.false (λ l. let e = ap length c.as_slice.ensures.value in let b = c.in_default-as_slice.len_below in omega (arith, e, b, l))

pub returns-in_default-as_slice-2 : goal.returns-in_default-as_slice-2
returns-in_default-as_slice-2 c = not_two _ c.node-node.result.now.args.items _ _ _ c.node-node.ensures.tree c.in-Fun.is c.if-fun.false (λ l. let e = ap length c.as_slice.ensures.value in let b = c.in_default-as_slice.len_at_least in omega (arith, e, b, l))
