use Rattle.std.proofs.Common.{◌≡◌, ◌++◌, List, take, sym, ap, ◌∙◌, subst}
use Rattle.std.proofs.lemmas.List.{take_all}
use Rattle.sort_table.specs.DeclarationTrees.{declaration_of}
use Rattle.sort_checker.specs.declared.scoped_declarations.ScopedDecl.{ScopedDecl}
use Rattle.sort_checker.specs.FullVocabularies.{Written, process_by, processes_in}
use Rattle.sort_checker.specs.ElaboratedTexts.{IsReadyScoped, declarations_listed}
use Rattle.sort_checker.specs.TextProcesses.{ListsProcesses}
use Rattle.sort_checker.proofs.ListedDeclarations.{listed_more, flat_more}
use Rattle.sort_checker.proofs.ReadLists.{at_one}
use Rattle.sort_checker.proofs.table_building.process_table.Goals as goal

pub add_process-requires-clause-ready : goal.add_process-requires-clause-ready
add_process-requires-clause-ready c = (at_one (IsReadyScoped c.args.sig.now.texts) c.args.list.now c.loop-item.item-index c.item-item.result c.loop-item-test.true c.item-item.is c.requires.ready).1

pub loop-item-preserved : goal.loop-item-preserved
loop-item-preserved c = record {
  lists =
      subst (λ (ws : List Written). ListsProcesses c.args.sig.now ws c.add_process.new.table)
      (sym (ap processes_in (listed_more c.args.list.now c.loop-item.item-index c.item-item.result c.loop-item-test.true c.item-item.is) ∙ flat_more process_by (declarations_listed (take c.loop-item.item-index c.args.list.now)) (declaration_of c.item-item.result.declaration.now)))
      (c.in_ok-add_process.ensures.lists (processes_in (declarations_listed (take c.loop-item.item-index c.args.list.now))) c.loop-item.invariant.lists);
  over = c.in_ok-add_process.ensures.over c.loop-item.invariant.over;
}

pub returns-clause-lists : goal.returns-clause-lists
returns-clause-lists c =
    subst (λ (ds : List ScopedDecl). ListsProcesses c.args.sig.now (processes_in (declarations_listed ds)) c.loop-item.table) (take_all c.loop-item.item-index c.args.list.now c.loop-item-test.false) c.loop-item.invariant.lists
