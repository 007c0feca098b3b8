use Rattle.std.proofs.Common.{subst}
use Rattle.lps_core.specs.TreeConditions.{AreSides}
use Rattle.lps_simulator.proofs.Levels.{splitting_none, splitting_more, splitting_done}
use Rattle.lps_simulator.proofs.leading_parts.leading_parts.Goals as goal

pub loop-left-init : goal.loop-left-init
loop-left-init c = splitting_none c.args.pool.now.trees c.args.cond c.new-parts.result.items c.new-parts.ensures.items c.requires

pub sides-requires : goal.sides-requires
sides-requires c = c.loop-left.invariant.rest_within

pub loop-left-preserved : goal.loop-left-preserved
loop-left-preserved c = splitting_more c.args.pool.now.trees c.args.cond c.loop-left.rest c.in-Some.left c.in-Some.right c.loop-left.parts.items c.push.new.self.items c.loop-left.invariant c.in-Some.ensures c.in_ok-push.ensures.items

pub returns-clause-chain : goal.returns-clause-chain
returns-clause-chain c = (splitting_done c.args.pool.now.trees c.args.cond c.loop-left.rest c.loop-left.parts.items c.push-2.new.self.items c.loop-left.invariant c.in_ok-push-2.ensures.items).0

pub returns-clause-within : goal.returns-clause-within
returns-clause-within c = (splitting_done c.args.pool.now.trees c.args.cond c.loop-left.rest c.loop-left.parts.items c.push-2.new.self.items c.loop-left.invariant c.in_ok-push-2.ensures.items).1
