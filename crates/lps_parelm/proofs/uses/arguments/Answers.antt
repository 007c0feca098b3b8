use Rattle.std.proofs.Common.{◌≡◌, length, arith}
use Rattle.lps_parelm.proofs.UseLoops.{no_arguments, more_arguments, all_arguments}
use Rattle.lps_parelm.proofs.uses.arguments.Goals as goal

pub loop-number-init : goal.loop-number-init
loop-number-init c = no_arguments _ _ c.new-arguments.ensures.items

pub loop-number-preserved : goal.loop-number-preserved
loop-number-preserved c = more_arguments _ _ _ _ c.in_ok-arguments_of.field-0 c.loop-number.invariant c.in_ok-arguments_of.ensures c.in_ok-push.ensures.items

pub returns : goal.returns
returns c =
    let n = c.loop-number-test.false in
    let m = c.loop-number.auto.number-end in
    let k = c.len-number-end.ensures.count in
    let l : c.loop-number.number ≡ length c.args.pool.now.trees = omega (arith, n, m, k) in
    all_arguments _ _ _ c.len-number-end.ensures.distinct c.loop-number.invariant l
