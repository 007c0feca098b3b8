use Rattle.mcrl2_syntax.specs.Declarations.{plain_decl}
use Rattle.sort_checker.specs.ReadyTrees.{IsReadyDeclaration}
use Rattle.sort_checker.proofs.ReadyLeaves.{holds_at}
use Rattle.sort_checker.proofs.parameter_tables.add_processes.Goals as goal

pub add_process-requires-clause-ready : goal.add_process-requires-clause-ready
add_process-requires-clause-ready c = holds_at plain_decl (IsReadyDeclaration c.args.sig.now.texts) c.args.declarations.now c.requires.ready c.loop-declaration.declaration-index c.declaration-item.result c.loop-declaration-test.true c.declaration-item.is
