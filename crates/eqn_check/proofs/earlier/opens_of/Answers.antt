use Rattle.std.proofs.Common.{rules, ◌<◌, length}
use Rattle.eqn_check.specs.Earlier.{IsOpenOf}
use Rattle.eqn_check.proofs.FallingLemmas.{zip_more}
use Rattle.eqn_check.proofs.earlier.opens_of.Goals as goal

pub loop-number-preserved : goal.loop-number-preserved
loop-number-preserved c =
    let l : c.loop-number.number < length c.args.theory.now.equations.items = search rules in
    zip_more (IsOpenOf c.args.pool.now.trees c.args.count) c.args.theory.now.equations.items c.loop-number.number c.index.result.now c.loop-number.keys.items c.open_of.result l c.index.ensures
    c.loop-number.invariant c.open_of.ensures c.push.new.self.items c.in_ok-push.ensures.items
