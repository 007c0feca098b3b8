use Rattle.std.proofs.Common.{sym, subst}
use Rattle.data_typing.specs.Nodes.{AreNodes}
use Rattle.data_typing.proofs.NodeLemmas.{nodes_behind}
use Rattle.data_typing.proofs.nodes.add.Goals as goal

pub returns-clause-nodes : goal.returns-clause-nodes
returns-clause-nodes c = subst AreNodes (sym c.in_ok-push.ensures.items) (nodes_behind c.args.nodes.now.items c.args.node c.requires.nodes c.requires.below)
