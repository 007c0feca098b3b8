use Rattle.std.proofs.Common.{◌∷◌, [], ap, arith, length, length-append}
use Rattle.aut_check.proofs.SortedEdges.{none_there}
use Rattle.aut_check.proofs.edges.empty_lists.Goals as goal

pub loop-preserved : goal.loop-preserved
loop-preserved c = (omega (arith, ap length c.in_ok-push.ensures.items, length-append c.loop.lists.items (c.new.result ∷ []), c.loop.invariant.0), none_there c.loop.lists.items c.push.new.self.items c.new.result c.loop.invariant.1 c.new.ensures.items c.in_ok-push.ensures.items)
