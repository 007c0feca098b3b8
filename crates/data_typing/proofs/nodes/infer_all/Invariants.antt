use Rattle.std.proofs.Common.{◌≡◌, length}
use Rattle.data_typing.specs.Nodes.{AreKnown}
use Rattle.data_typing.proofs.nodes.infer_all.Given as goal

abbrev pub invariant-loop-node : goal.invariant-loop-node
invariant-loop-node l = AreKnown l.nodes l.known.items × (length l.known.items ≡ l.node-index)
