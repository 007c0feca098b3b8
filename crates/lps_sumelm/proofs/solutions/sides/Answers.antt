use Rattle.std.proofs.Common.{length, ap, arith}
use Rattle.lps_sumelm.proofs.Equalities.{no_sides}
use Rattle.lps_sumelm.proofs.solutions.sides.Goals as goal

pub returns-in_default-as_slice : goal.returns-in_default-as_slice
returns-in_default-as_slice c =
    let w = c.is_equality.ensures.0 c.if-not-is_equality.false in
    let k = c.in_default-as_slice.len_below in
    let q = ap length c.as_slice.ensures.value in
    no_sides c.args.sig.now c.args.pool.now.trees c.args.part c.node-node.result.now.args.items c.node-node.result.now.head c.in-Fun.fun w.0 c.in-Fun.is c.node-node.ensures.tree w.1 (λ l. omega (arith, k, q, l))

pub returns-in_default-as_slice-2 : goal.returns-in_default-as_slice-2
returns-in_default-as_slice-2 c =
    let w = c.is_equality.ensures.0 c.if-not-is_equality.false in
    let k = c.in_default-as_slice.len_at_least in
    let q = ap length c.as_slice.ensures.value in
    no_sides c.args.sig.now c.args.pool.now.trees c.args.part c.node-node.result.now.args.items c.node-node.result.now.head c.in-Fun.fun w.0 c.in-Fun.is c.node-node.ensures.tree w.1 (λ l. omega (arith, k, q, l))
