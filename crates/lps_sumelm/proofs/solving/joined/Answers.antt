use Rattle.lps_sumelm.proofs.Loops.{parts_more}
use Rattle.lps_sumelm.proofs.solving.joined.Goals as goal

pub loop-cond-preserved : goal.loop-cond-preserved
loop-cond-preserved c = (
  parts_more c.args.pool.now.trees c.args.conds.now c.loop-cond.cond-index (record { 0 = 0 }) c.loop-cond.parts.items c.parts_of.new.found.items c.loop-cond-test.true c.loop-cond.invariant.0 c.in_ok-parts_of.ensures.parts,
  c.in_ok-parts_of.ensures.within c.loop-cond.invariant.1,
)
