use Rattle.std.proofs.Common.{get_or, [], arith}
use Rattle.data_rewriter.proofs.HeadNumbers.{items_of, step_passed, step_entered, no_head, other_head, head_is, rules_whole}
use Rattle.data_rewriter.proofs.building.numbers_by_head.Goals as goal

pub loop-number-preserved-in_default : goal.loop-number-preserved-in_default
loop-number-preserved-in_default c = step_passed c.args.pool.now.trees c.args.rules.now c.args.count c.loop-number.number c.loop-number.by_head.items _ c.loop-number-test.true (λ f l. no_head f _ c.node.result.now.head _ c.in_default.not-Fun c.node.ensures.tree) c.loop-number.invariant

pub loop-number-preserved-then-fun-len : goal.loop-number-preserved-then-fun-len
loop-number-preserved-then-fun-len c =
    let past = c.if-fun-len.true in
    let count = c.len.ensures in
    let same = c.loop-number.invariant.0 in
    step_passed c.args.pool.now.trees c.args.rules.now c.args.count c.loop-number.number c.loop-number.by_head.items _ c.loop-number-test.true (λ f l. other_head f c.in-Fun.fun _ c.node.result.now.head _ c.args.count l (omega (arith, past, count, same)) c.in-Fun.is c.node.ensures.tree) c.loop-number.invariant

pub loop-number-preserved : goal.loop-number-preserved
loop-number-preserved c = step_entered c.args.pool.now.trees c.args.rules.now c.args.count c.loop-number.number c.in-Fun.fun.0 c.loop-number.by_head.items c.add_number.new.lists.items _ c.loop-number-test.true (head_is c.in-Fun.fun _ c.node.result.now.head _ c.in-Fun.is c.node.ensures.tree) c.in_ok-add_number.ensures.count c.in_ok-add_number.ensures.added c.loop-number.invariant

pub returns : goal.returns
returns c = λ f l. rules_whole c.args.pool.now.trees c.args.rules.now f c.loop-number.number (get_or (items_of c.loop-number.by_head.items) f.0 []) c.loop-number-test.false (c.loop-number.invariant.1 f l)
