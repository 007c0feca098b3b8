use Rattle.std.proofs.Common.{◌∷◌, [], ap, arith, length, length-append}
use Rattle.term_pool.proofs.InhabitedSearch.{nothing_waits}
use Rattle.term_pool.proofs.inhabited.no_candidates.Goals as goal

pub loop-preserved : goal.loop-preserved
loop-preserved c = record {
  size = omega (arith, ap length c.in_ok-push.ensures.items, length-append c.loop.waiting.items (c.new.result ∷ []), c.loop.invariant.size);
  none = nothing_waits c.loop.waiting.items c.push.new.self.items c.new.result c.in_ok-push.ensures.items c.new.ensures.items c.loop.invariant.none;
}
