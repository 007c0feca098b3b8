use Rattle.std.proofs.Common.{◌∙◌}
use Rattle.eqn_check.proofs.EdgeLemmas.{no_cycle}
use Rattle.eqn_check.proofs.edges.is_cyclic.Goals as goal

pub returns : goal.returns
returns c = no_cycle c.args.edges.now c.requires c.as_slice.result.now (c.as_slice.ensures.value ∙ c.in_ok-all.ensures.items_if_clones_equal (λ y e. e)) c.in_ok-found.found c.in_ok-found.ensures.acyclic c.is_none.result c.is_none.ensures
