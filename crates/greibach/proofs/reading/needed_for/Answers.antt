use Rattle.std.proofs.Common.{map}
use Rattle.greibach.specs.PlacesInCode.{plain_place}
use Rattle.greibach.proofs.ReadPlaces.{needed_both}
use Rattle.greibach.proofs.reading.needed_for.Goals as goal

pub returns : goal.returns
returns c =
    needed_both c.args.source.pool.now.trees c.args.terms.now (map plain_place c.args.places.now) c.args.rest c.new-needed.result.keys c.add_terms.new.set.keys c.add_rest_params.new.set.keys c.new-needed.ensures.empty c.in_ok-add_terms.ensures c.in_ok-add_rest_params.ensures
