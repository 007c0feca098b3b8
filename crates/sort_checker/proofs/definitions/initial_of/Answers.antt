use Rattle.std.proofs.Common.{sym, subst}
use Rattle.mcrl2_syntax.specs.declared.declaration.Decl.{Decl}
use Rattle.mcrl2_syntax.specs.declared.process_tree.ProcTree.{ProcTree}
use Rattle.mcrl2_syntax.specs.Declarations.{plain_decl}
use Rattle.mcrl2_syntax.specs.ProcessTrees.{plain_process}
use Rattle.sort_checker.specs.ElaboratedTexts.{IsReadyProcess}
use Rattle.sort_checker.specs.ReadyTrees.{IsReadyDeclaration}
use Rattle.sort_checker.proofs.ReadyLeaves.{process_ready}
use Rattle.sort_checker.proofs.definitions.initial_of.Goals as goal

pub returns-in-Init-clause-ready : goal.returns-in-Init-clause-ready
returns-in-Init-clause-ready c = λ texts ready.
    let here = subst (λ (d : Decl). IsReadyDeclaration texts (plain_decl d)) c.in-Init.is ready in
    subst (IsReadyProcess texts) (sym c.deref.ensures) (here.0, process_ready texts (plain_process c.in-Init.process.value) here.0 here.1)
