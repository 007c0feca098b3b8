use Rattle.lps_core.proofs.DoneSealing.{are_all_sealed}
use Rattle.lps_core.proofs.sealing.all_sealed.Goals as goal

pub returns-clause-sealed : goal.returns-clause-sealed
returns-clause-sealed c =
    are_all_sealed c.args.pool.now.trees c.seal_summands.new.pool.trees c.last_summand.new.pool.trees _ _ _ c.in_ok-sealed.sealed.items c.in_ok-last_summand.field-0 c.push.new.self.items _ _ c.in_ok-push.ensures.items c.last_summand.ensures.kept c.in_ok-sealed.ensures.within
    c.in_ok-last_summand.ensures.within c.params-params.ensures c.summands.ensures c.in_ok-sealed.ensures.sealed c.in_ok-last_summand.ensures.last
