use Rattle.greibach.specs.PlacesInCode.{plain_places}
use Rattle.greibach.proofs.TreeCalls.{none_onward}
use Rattle.greibach.proofs.calls.onward_calls.Goals as goal

pub returns-in-None-clause-calls : goal.returns-in-None-clause-calls
returns-in-None-clause-calls c = none_onward (plain_places c.args.places.now) c.args.pool.now.trees c.args.by.now c.args.rest c.args.met.now.keys c.new.result.items c.in-None.is c.new.ensures.items
