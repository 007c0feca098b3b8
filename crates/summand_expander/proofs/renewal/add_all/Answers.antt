use Rattle.std.proofs.Common.{◌≤◌, length, arith}
use Rattle.summand_expander.proofs.GivingWay.{adding_none, adding_more, adding_all}
use Rattle.summand_expander.proofs.renewal.add_all.Goals as goal

pub loop-var-init : goal.loop-var-init
loop-var-init c = adding_none c.args.vars.now c.args.set.now.keys

pub loop-var-preserved : goal.loop-var-preserved
loop-var-preserved c = adding_more c.args.vars.now c.args.set.now.keys c.loop-var.var-index c.loop-var.set.keys c.insert.new.self.keys (record { 0 = 0 }) c.loop-var.invariant c.loop-var-test.true c.in_ok-insert.ensures.keys

pub returns : goal.returns
returns c =
    let n = c.loop-var-test.false in
    let l : length c.args.vars.now ≤ c.loop-var.var-index = omega (arith, n) in
    adding_all c.args.vars.now c.args.set.now.keys c.loop-var.var-index c.loop-var.set.keys c.loop-var.invariant l
