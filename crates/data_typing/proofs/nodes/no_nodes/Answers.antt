use Rattle.std.proofs.Common.{sym, subst}
use Rattle.data_typing.specs.Nodes.{AreNodes}
use Rattle.data_typing.proofs.NodeLemmas.{no_nodes}
use Rattle.data_typing.proofs.nodes.no_nodes.Goals as goal

pub returns-clause-nodes : goal.returns-clause-nodes
returns-clause-nodes c = subst AreNodes (sym c.new.ensures.items) no_nodes
