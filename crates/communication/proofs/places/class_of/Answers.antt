use Rattle.communication.proofs.Stepping.{action_in}
use Rattle.communication.proofs.places.class_of.Goals as goal

pub are_alike-requires-clause-action : goal.are_alike-requires-clause-action
are_alike-requires-clause-action c = action_in c.args.sig.now c.args.actions.now c.loop-index.index c.index-actions-index.result c.requires.actions c.loop-index-test.true c.index-actions-index.is
