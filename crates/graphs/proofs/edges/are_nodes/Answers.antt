use Rattle.std.proofs.Common.{sym, ◌∙◌}
use Rattle.graphs.proofs.Below.{list_told, list_tells}
use Rattle.graphs.proofs.edges.are_nodes.Goals as goal

pub returns : goal.returns
returns c = (λ told. list_told _ _ (sym c.are_below.ensures ∙ told), λ all. c.are_below.ensures ∙ list_tells _ _ all)
