use Rattle.communication.proofs.Stepping.{action_in}
use Rattle.communication.proofs.plans.action_at.Goals as goal

pub returns-clause-within : goal.returns-clause-within
returns-clause-within c = λ g h. action_in g c.args.actions.now c.args.place.index c.index-actions-place.result h c.requires c.index-actions-place.is
