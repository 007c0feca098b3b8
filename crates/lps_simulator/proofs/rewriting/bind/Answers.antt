use Rattle.std.proofs.Common.{arith}
use Rattle.lps_simulator.proofs.Bindings.{bound_none, bound_more, bound_all}
use Rattle.lps_simulator.proofs.rewriting.bind.Goals as goal

pub loop-number-init : goal.loop-number-init
loop-number-init c = bound_none c.args.by.now.items c.args.variables.now c.args.terms.now

pub loop-number-preserved : goal.loop-number-preserved
loop-number-preserved c =
    let first = c.least-count.ensures.first in
    let second = c.least-count.ensures.second in
    let test = c.loop-number-test.true in
    bound_more c.args.by.now.items c.loop-number.by.items c.push.new.self.items c.args.variables.now c.args.terms.now c.loop-number.number (record { 0 = 0 }) (record { 0 = 0 }) (omega (arith, first, test)) (omega (arith, second, test)) c.loop-number.invariant c.in_ok-push.ensures.items

pub returns : goal.returns
returns c = bound_all c.args.by.now.items c.loop-number.by.items c.args.variables.now c.args.terms.now c.least-count.result c.loop-number.number c.least-count.ensures.one c.loop-number-test.false c.loop-number.invariant
