use Rattle.communication.proofs.Stepping.{action_in}
use Rattle.communication.proofs.places.places_of.Goals as goal

pub place_of-requires-clause-action : goal.place_of-requires-clause-action
place_of-requires-clause-action c = action_in c.args.sig.now c.args.actions.now c.loop-index.index c.index-actions-index.result c.requires c.loop-index-test.true c.index-actions-index.is
