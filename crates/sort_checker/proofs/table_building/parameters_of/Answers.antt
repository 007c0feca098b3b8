use Rattle.mcrl2_syntax.specs.ProcessParts.{var_group_of}
use Rattle.sort_checker.specs.ReadyTrees.{IsReadyGroup}
use Rattle.sort_checker.proofs.ReadyLeaves.{holds_at}
use Rattle.sort_checker.proofs.table_building.parameters_of.Goals as goal

pub add_group-requires-clause-ready : goal.add_group-requires-clause-ready
add_group-requires-clause-ready c = holds_at var_group_of (IsReadyGroup c.args.sig.now.texts) c.args.groups.now c.requires.ready c.loop-group.group-index c.group-item.result c.loop-group-test.true c.group-item.is
