use Rattle.std.proofs.Common.{◌≡◌, ◌<◌, ◌≤◌, ◌+◌, ◌++◌, ◌∷◌, [], List, ℕ, length, get_or, map, take, sym, subst, ap, ◌∙◌, arith}
use Rattle.mcrl2_syntax.specs.Declarations.{plain_decl}
use Rattle.process_terms.specs.PlainProcesses.{plain_definition}
use Rattle.sort_table.specs.BareDeclarations.{Declaration}
use Rattle.sort_table.specs.DeclarationTrees.{declaration_of}
use Rattle.sort_table.specs.Expressions.{Name}
use Rattle.sort_checker.specs.declared.scoped_declarations.ScopedDecl.{ScopedDecl}
use Rattle.sort_checker.specs.FullVocabularies.{Written, process_by}
use Rattle.sort_checker.specs.ReadyTrees.{IsReadyDeclaration}
use Rattle.sort_checker.specs.CodeContexts.{IsReady, Sees}
use Rattle.sort_checker.specs.ElaboratedTexts.{IsReadyScoped, declarations_listed, processes_at, numbered_processes, CanElaborateDefinitions, AreElaboratedDefinitions}
use Rattle.sort_checker.proofs.Adding.{goes_nowhere, goes_then, texts_stay}
use Rattle.sort_checker.proofs.ListedDeclarations.{listed_more, listed_length, numbered_processes_more}
use Rattle.sort_checker.proofs.MadeDefinitions.{definitions_can}
use Rattle.sort_checker.proofs.ReadLists.{at_one, take_whole}
use Rattle.sort_checker.proofs.WhatStays.{sees_after, table_on}
use Rattle.sort_checker.proofs.definitions.definitions.Goals as goal

pub loop-i-init : goal.loop-i-init
loop-i-init c = record {
  kept = goes_nowhere c.args.sig.now c.args.pool.now;
  ready = subst (IsReady c.args.sig.now c.args.pool.now c.args.tables.now) (sym c.new-scope.ensures) c.requires.ready;
  empty = c.new-scope.ensures;
  means = λ v sees. subst (λ xs. AreElaboratedDefinitions v c.args.sig.now c.args.pool.now [] (map plain_definition xs)) (sym c.new-made.ensures.items) tt;
}

pub add_definition-requires-clause-table : goal.add_definition-requires-clause-table
add_definition-requires-clause-table c = table_on c.args.sig.now c.args.pool.now c.loop-i.sig c.loop-i.pool c.requires.ready.signature c.loop-i.invariant.kept c.args.processes.now c.requires.table

pub add_definition-requires-clause-words : goal.add_definition-requires-clause-words
add_definition-requires-clause-words c =
    let here = at_one (IsReadyScoped c.args.sig.now.texts) c.args.list.now c.loop-i.i c.index-list-i.result (omega (arith, c.loop-i-test.true)) c.index-list-i.is c.requires.words in
    subst (λ (d : ScopedDecl). IsReadyDeclaration c.loop-i.sig.texts (plain_decl d.declaration.now)) c.index-list-i.is
    (subst (λ (ts : List Name). IsReadyDeclaration ts (plain_decl c.index-list-i.result.declaration.now)) (sym (texts_stay c.args.sig.now c.loop-i.sig c.requires.ready.signature c.loop-i.invariant.kept.added)) here.1)

pub add_definition-requires-clause-elaborates : goal.add_definition-requires-clause-elaborates
add_definition-requires-clause-elaborates c =
    subst (λ (d : ScopedDecl). CanElaborateDefinitions c.loop-i.sig c.args.processes.now (process_by (declaration_of d.declaration.now))) c.index-list-i.is
    (definitions_can c.args.sig.now c.requires.ready.signature c.args.pool.now c.loop-i.sig c.loop-i.pool c.loop-i.invariant.kept c.args.processes.now c.args.list.now c.loop-i.i c.index-list-i.result (omega (arith, c.loop-i-test.true)) c.index-list-i.is c.requires.elaborate)

pub returns-in_err-add_definition-clause-kept : goal.returns-in_err-add_definition-clause-kept
returns-in_err-add_definition-clause-kept c = goes_then c.args.sig.now c.args.pool.now c.loop-i.sig c.loop-i.pool c.add_definition.new.sig c.add_definition.new.pool c.loop-i.invariant.kept c.add_definition.ensures.kept

pub loop-i-preserved : goal.loop-i-preserved
loop-i-preserved c =
    let less : c.loop-i.i < length c.args.list.now = omega (arith, c.loop-i-test.true) in
    let within : c.loop-i.i ≤ length c.args.list.now = omega (arith, less) in
    let front : List Declaration = declarations_listed (take c.loop-i.i c.args.list.now) in
    let d : Declaration = declaration_of (get_or c.args.list.now c.loop-i.i c.index-list-i.result).declaration.now in
    let more : declarations_listed (take (c.loop-i.i + 1) c.args.list.now) ≡ front ++ d ∷ [] =
    listed_more c.args.list.now c.loop-i.i c.index-list-i.result less c.index-list-i.is ∙ ap (λ (x : ScopedDecl). front ++ declaration_of x.declaration.now ∷ []) c.index-list-i.is in
    let number : 1 + length front ≡ c.loop-i.i + 1 = (let same = listed_length c.loop-i.i c.args.list.now within in omega (arith, same)) in
    record {
      kept = goes_then c.args.sig.now c.args.pool.now c.loop-i.sig c.loop-i.pool c.add_definition.new.sig c.add_definition.new.pool c.loop-i.invariant.kept c.add_definition.ensures.kept;
      ready = c.in_ok-add_definition.ensures.ready;
      empty = c.in_ok-add_definition.ensures.empty;
      means = λ v sees.
          subst (λ (ws : List (ℕ × Written)). AreElaboratedDefinitions v c.add_definition.new.sig c.add_definition.new.pool ws (map plain_definition c.add_definition.new.definitions.items))
          (ap (λ (n : ℕ). numbered_processes 1 front ++ processes_at (n, d)) (sym number) ∙ (sym (numbered_processes_more 1 front d) ∙ ap (numbered_processes 1) (sym more)))
          (c.in_ok-add_definition.ensures.means v (numbered_processes 1 front) (sees_after c.args.sig.now c.args.pool.now c.loop-i.sig c.loop-i.pool c.requires.ready.signature c.loop-i.invariant.kept c.args.processes.now [] v [] sees) (c.loop-i.invariant.means v sees));
    }

pub returns-clause-ready : goal.returns-clause-ready
returns-clause-ready c = subst (IsReady c.loop-i.sig c.loop-i.pool c.loop-i.tables) c.loop-i.invariant.empty c.loop-i.invariant.ready

pub returns-clause-means : goal.returns-clause-means
returns-clause-means c = λ v sees.
    subst (λ (ds : List ScopedDecl). AreElaboratedDefinitions v c.loop-i.sig c.loop-i.pool (numbered_processes 1 (declarations_listed ds)) (map plain_definition c.loop-i.made.items)) (take_whole c.loop-i.i c.args.list.now (omega (arith, c.loop-i-test.false)))
    (c.loop-i.invariant.means v sees)
