use Rattle.std.proofs.Common.{rules, arith, ◌<◌, length}
use Rattle.term_pool.specs.HeadTrees.{trees_at}
use Rattle.eqn_check.proofs.EarlierLemmas.{apart_at_first}
use Rattle.eqn_check.proofs.earlier.begin_apart.Goals as goal

pub returns : goal.returns
returns c t a =
    let first : 0 < length c.node-node.result.now.args.items = (let n = c.if-len-eq0.false in let x = c.len.ensures in search (rules, arith, n, x)) in
    let second : 0 < length c.node-under.result.now.args.items = (let n = c.if-len-eq0-2.false in let x = c.len-2.ensures in search (rules, arith, n, x)) in
    apart_at_first c.args.sig.now c.next_sort.ensures.stands.table c.args.pool.now.trees c.args.one c.args.other c.requires.one c.requires.other
    c.node-node.result.now.head c.node-under.result.now.head c.node-node.result.now.args.items c.node-under.result.now.args.items
    c.node-node.ensures.tree c.node-under.ensures.tree c.node-node.ensures.stands c.node-under.ensures.stands c.index.result.now c.index-2.result.now first second c.index.ensures c.index-2.ensures
    c.node.result.now.head c.node-2.result.now.head (trees_at c.args.pool.now.trees c.node.result.now.args.items) (trees_at c.args.pool.now.trees c.node-2.result.now.args.items) c.node.ensures.tree c.node-2.ensures.tree
    (c.are_apart.ensures t) a
