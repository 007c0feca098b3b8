use Rattle.eqn_check.proofs.ExcludedPairLemmas.{nothing_pushed, part_pushed, last_pushed}
use Rattle.eqn_check.proofs.exclusion.push_parts.Goals as goal

pub loop-one-init : goal.loop-one-init
loop-one-init c = nothing_pushed c.args.sig.now c.args.pool.now.trees c.args.condition c.args.by c.args.found.now.items c.requires

pub loop-one-preserved : goal.loop-one-preserved
loop-one-preserved c =
    part_pushed c.args.sig.now c.args.pool.now.trees c.args.condition c.loop-one.rest c.args.by c.args.found.now.items c.loop-one.found.items c.loop-one.invariant c.in-Some.one c.in-Some.other c.in-Some.ensures
    c.push.new.self.items c.in_ok-push.ensures.items

pub returns : goal.returns
returns c =
    last_pushed c.args.sig.now c.args.pool.now.trees c.args.condition c.loop-one.rest c.args.by c.args.found.now.items c.loop-one.found.items c.loop-one.invariant c.in_default.ensures c.push-2.new.self.items c.in_ok-push-2.ensures.items
