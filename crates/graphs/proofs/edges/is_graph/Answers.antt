use Rattle.std.proofs.Common.{sym, ◌∙◌}
use Rattle.graphs.proofs.Below.{leads_told, leads_tell}
use Rattle.graphs.proofs.edges.is_graph.Goals as goal

pub returns : goal.returns
returns c = (λ told. leads_told _ _ (sym c.all_below.ensures ∙ told), λ graph. c.all_below.ensures ∙ leads_tell _ _ graph)
