use Rattle.process_terms.specs.PlainProcesses.{plain_model}
use Rattle.proc_unfold.proofs.WellFormed.{well_formed_calls}
use Rattle.proc_unfold.proofs.ReadyLemmas.{init_ready, has_ready_bodies}
use Rattle.proc_unfold.proofs.UnfoldedLemmas.{opened, unfolded, same_network, components}
use Rattle.proc_unfold.proofs.unfolding.unfold.Goals as goal

pub outside_recursion-requires : goal.outside_recursion-requires
outside_recursion-requires c = well_formed_calls c.args.pool.now.trees (plain_model c.args.model.now) c.requires

pub open-requires-clause-bodies : goal.open-requires-clause-bodies
open-requires-clause-bodies c = has_ready_bodies (plain_model c.args.model.now) c.in_ok-found.found c.args.pool.now.trees c.in_ok-found.ensures.found c.in_ok-found.ensures.outside c.requires

pub open-requires-clause-within : goal.open-requires-clause-within
open-requires-clause-within c = (init_ready (plain_model c.args.model.now) c.in_ok-found.found c.args.pool.now.trees c.in_ok-found.ensures.found c.in_ok-found.ensures.outside c.requires).within

pub open-requires-clause-outside : goal.open-requires-clause-outside
open-requires-clause-outside c = (init_ready (plain_model c.args.model.now) c.in_ok-found.found c.args.pool.now.trees c.in_ok-found.ensures.found c.in_ok-found.ensures.outside c.requires).outside

pub open-requires-clause-reached : goal.open-requires-clause-reached
open-requires-clause-reached c = (init_ready (plain_model c.args.model.now) c.in_ok-found.found c.args.pool.now.trees c.in_ok-found.ensures.found c.in_ok-found.ensures.outside c.requires).reached

pub returns-clause-opened : goal.returns-clause-opened
returns-clause-opened c = opened (plain_model c.args.model.now) c.in_ok-found.found c.args.pool.now.trees c.open.new.pool.trees c.in_ok-open.field-0 c.in_ok-found.ensures.found c.open.ensures.kept c.in_ok-open.ensures.opens

pub returns-clause-unfolded : goal.returns-clause-unfolded
returns-clause-unfolded c = unfolded (plain_model c.args.model.now) c.in_ok-found.found c.args.pool.now.trees c.open.new.pool.trees c.in_ok-open.field-0 c.in_ok-found.ensures.found c.open.ensures.kept c.in_ok-open.ensures.opens

pub returns-clause-same : goal.returns-clause-same
returns-clause-same c = same_network (plain_model c.args.model.now) c.in_ok-found.found c.args.pool.now.trees c.open.new.pool.trees c.in_ok-open.field-0 c.in_ok-found.ensures.found c.open.ensures.kept c.in_ok-open.ensures.opens

pub returns-clause-components : goal.returns-clause-components
returns-clause-components c = components (plain_model c.args.model.now) c.in_ok-found.found c.args.pool.now.trees c.open.new.pool.trees c.in_ok-open.field-0 c.in_ok-found.ensures.found c.open.ensures.kept c.in_ok-open.ensures.opens
