use Rattle.std.proofs.Common.{[], refl, sym, append-nil, rules}
use Rattle.term_pool.specs.Bindings.{listed_terms}
use Rattle.greibach.specs.PlacesInCode.{plain_places}
use Rattle.greibach.proofs.TreeCalls.{first_ok, within_ok, part_there}
use Rattle.greibach.proofs.calls.first_calls.Goals as goal

pub returns-in_default : goal.returns-in_default
returns-in_default c = record {
  kept = ([], sym (append-nil c.args.pool.now.trees));
  constants = refl;
  calls = first_ok c.rest_calls.result (plain_places c.args.places.now) c.args.pool.now.trees c.args.by.now c.args.first c.args.met.now.keys c.rest_calls.new.met.keys c.index-here.result.now.part (part_there c.args.places.now c.args.first c.index-here.result.now c.requires.place (search rules)) c.in_default.not-Call c.rest_calls.ensures.calls;
  within = within_ok c.rest_calls.result c.args.pool.now.trees (listed_terms c.args.by.now) c.requires.listed c.rest_calls.ensures.within;
}
