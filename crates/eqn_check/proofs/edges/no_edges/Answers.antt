use Rattle.std.proofs.Common.{◌∷◌, [], ap, arith, length, length-append}
use Rattle.graphs.proofs.Kept.{none_more}
use Rattle.eqn_check.proofs.edges.no_edges.Goals as goal

pub loop-preserved : goal.loop-preserved
loop-preserved c = (omega (arith, ap length c.in_ok-push.ensures.items, length-append c.loop.edges.items (c.new.result ∷ [])), none_more _ _ _ c.loop.invariant.1 c.new.ensures.items c.in_ok-push.ensures.items)
