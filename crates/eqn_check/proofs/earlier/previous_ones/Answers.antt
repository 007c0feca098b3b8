use Rattle.std.proofs.Common.{rules, arith, ◌<◌, length}
use Rattle.eqn_check.proofs.EarlierLemmas.{read_or, passed}
use Rattle.eqn_check.proofs.earlier.previous_ones.Goals as goal

pub loop-number-preserved : goal.loop-number-preserved
loop-number-preserved c =
    let l : c.loop-number.number < length c.args.keys.now = search rules in
    let m : c.loop-number.number < length c.args.asked.now = (let e = c.requires in omega (arith, l, e)) in
    passed c.args.keys.now c.args.asked.now c.loop-number.number c.loop-number.last c.loop-number.previous.items c.loop-number.invariant _ _ (read_or c.args.keys.now c.loop-number.number l) (read_or c.args.asked.now c.loop-number.number m)
    c.last_with.result c.last_with.ensures c.push.new.self.items c.in_ok-push.ensures.items c.enter.new.last c.in_ok-enter.ensures
