use Rattle.std.proofs.Common.{[], ◌∷◌, ◌++◌, List, take, sym, subst}
use Rattle.std.proofs.lemmas.List.{take_all}
use Rattle.mcrl2_syntax.specs.declared.declaration.Decl.{Decl}
use Rattle.mcrl2_syntax.specs.Declarations.{plain_decl}
use Rattle.sort_table.specs.DeclarationTrees.{declaration_of}
use Rattle.sort_table.specs.SignatureVocabularies.{vocabulary_of}
use Rattle.sort_table.specs.BareProcesses.{Variables}
use Rattle.sort_table.specs.Expressions.{Name}
use Rattle.sort_checker.specs.Parts.{variables_by}
use Rattle.sort_checker.specs.ReadyTrees.{IsReadyDeclaration, AreReadyDeclarations}
use Rattle.sort_checker.specs.ScopedTrees.{variables_under}
use Rattle.sort_checker.specs.CodeContexts.{AreBound, EnterBehind}
use Rattle.sort_checker.proofs.Adding.{goes_nowhere, goes_then, texts_stay}
use Rattle.sort_checker.proofs.Binding.{enter_none, enter_then}
use Rattle.sort_checker.proofs.EnteringGroups.{have_still, all_entered}
use Rattle.sort_checker.proofs.ListedDeclarations.{variables_more, variables_part}
use Rattle.sort_checker.proofs.ReadLists.{at_mapped}
use Rattle.sort_checker.proofs.equation_elaborating.enter_section.Goals as goal

pub loop-declaration-init : goal.loop-declaration-init
loop-declaration-init c = record {
  kept = goes_nowhere c.args.sig.now c.args.pool.now;
  ready = c.requires.ready;
  bound = subst (EnterBehind c.args.sig.now c.args.scope.now [] [] c.args.sig.now c.args.scope.now) (sym c.new-variables.ensures.items) (enter_none c.args.sig.now c.args.scope.now []);
}

pub enter_declaration-requires-clause-words : goal.enter_declaration-requires-clause-words
enter_declaration-requires-clause-words c =
    subst (λ (ts : List Name). IsReadyDeclaration ts (plain_decl c.declaration-item.result)) (sym (texts_stay c.args.sig.now c.loop-declaration.sig c.requires.ready.signature c.loop-declaration.invariant.kept.added))
    (at_mapped (IsReadyDeclaration c.args.sig.now.texts) plain_decl c.args.declarations.now c.loop-declaration.declaration-index c.declaration-item.result c.loop-declaration-test.true c.declaration-item.is c.requires.words)

pub enter_declaration-requires-clause-sorts : goal.enter_declaration-requires-clause-sorts
enter_declaration-requires-clause-sorts c =
    have_still c.args.sig.now c.requires.ready.signature c.args.pool.now c.loop-declaration.sig c.loop-declaration.invariant.kept (variables_by (declaration_of c.declaration-item.result))
    (variables_part _ c.args.declarations.now c.loop-declaration.declaration-index c.declaration-item.result c.loop-declaration-test.true c.declaration-item.is c.requires.sorts)

pub returns-in_err-enter_declaration-clause-kept : goal.returns-in_err-enter_declaration-clause-kept
returns-in_err-enter_declaration-clause-kept c = goes_then c.args.sig.now c.args.pool.now c.loop-declaration.sig c.args.pool.now c.enter_declaration.new.sig c.args.pool.now c.loop-declaration.invariant.kept c.enter_declaration.ensures.kept

pub loop-declaration-preserved : goal.loop-declaration-preserved
loop-declaration-preserved c = record {
  kept = goes_then c.args.sig.now c.args.pool.now c.loop-declaration.sig c.args.pool.now c.enter_declaration.new.sig c.args.pool.now c.loop-declaration.invariant.kept c.enter_declaration.ensures.kept;
  ready = c.in_ok-enter_declaration.ensures.ready;
  bound =
      subst (λ (xs : Variables). EnterBehind c.args.sig.now c.args.scope.now [] xs c.enter_declaration.new.sig c.enter_declaration.new.scope c.enter_declaration.new.variables.items)
      (sym (variables_more c.args.declarations.now c.loop-declaration.declaration-index c.declaration-item.result c.loop-declaration-test.true c.declaration-item.is))
      (enter_then c.args.sig.now c.requires.ready.signature c.args.pool.now c.loop-declaration.sig c.enter_declaration.new.sig c.loop-declaration.invariant.kept c.enter_declaration.ensures.kept c.args.scope.now c.loop-declaration.scope c.enter_declaration.new.scope
      [] c.loop-declaration.variables.items c.enter_declaration.new.variables.items (variables_under (take c.loop-declaration.declaration-index c.args.declarations.now)) (variables_by (declaration_of c.declaration-item.result)) c.loop-declaration.invariant.bound c.in_ok-enter_declaration.ensures.bound);
}

pub returns-clause-bound : goal.returns-clause-bound
returns-clause-bound c =
    subst (λ (ds : List Decl). AreBound c.args.sig.now c.args.scope.now (variables_under ds) c.loop-declaration.sig c.loop-declaration.scope c.loop-declaration.variables.items) (take_all c.loop-declaration.declaration-index c.args.declarations.now c.loop-declaration-test.false)
    (all_entered c.args.sig.now c.args.scope.now (variables_under (take c.loop-declaration.declaration-index c.args.declarations.now)) c.loop-declaration.sig c.loop-declaration.scope c.loop-declaration.variables.items c.loop-declaration.invariant.bound)
