use Rattle.std.proofs.Common.{◌≡◌, ◌++◌, ◌∷◌, [], List, map, take, sym, subst, ap, ◌∙◌}
use Rattle.std.specs.List.{flat_map}
use Rattle.std.proofs.lemmas.List.{take_all}
use Rattle.process_terms.specs.PlainProcesses.{PlainEquation, plain_equation}
use Rattle.data_typing.specs.declared.scope.Bound.{Bound}
use Rattle.sort_table.specs.Expressions.{Name}
use Rattle.sort_checker.specs.declared.scoped_declarations.ScopedDecl.{ScopedDecl}
use Rattle.sort_checker.specs.Elaborations.{WrittenEquation}
use Rattle.sort_checker.specs.ScopedTrees.{scoped_item, scoped_items}
use Rattle.sort_checker.specs.CodeContexts.{IsReady}
use Rattle.sort_checker.specs.ElaboratedTexts.{IsReadyScoped, equations_by, AreElaboratedEquations}
use Rattle.sort_checker.proofs.Adding.{goes_nowhere, goes_then, texts_stay, vocabulary_stays}
use Rattle.sort_checker.proofs.ListedDeclarations.{equations_more}
use Rattle.sort_checker.proofs.MadeEquations.{can_one}
use Rattle.sort_checker.proofs.ReadLists.{at_one}
use Rattle.sort_checker.proofs.written_equations.written_equations.Goals as goal

pub loop-item-init : goal.loop-item-init
loop-item-init c = record {
  kept = goes_nowhere c.args.sig.now c.args.pool.now;
  ready = subst (IsReady c.args.sig.now c.args.pool.now c.args.tables.now) (sym c.new-scope.ensures) c.requires.ready;
  empty = c.new-scope.ensures;
  means = λ v over. subst (λ xs. AreElaboratedEquations v c.args.sig.now c.args.pool.now [] (map plain_equation xs)) (sym c.new-equations.ensures.items) tt;
}

pub add_equation-requires-clause-words : goal.add_equation-requires-clause-words
add_equation-requires-clause-words c =
    subst (λ (ts : List Name). IsReadyScoped ts c.item-item.result) (sym (texts_stay c.args.sig.now c.loop-item.sig c.requires.ready.signature c.loop-item.invariant.kept.added))
    (at_one (IsReadyScoped c.args.sig.now.texts) c.args.list.now c.loop-item.item-index c.item-item.result c.loop-item-test.true c.item-item.is c.requires.words)

pub add_equation-requires-clause-elaborates : goal.add_equation-requires-clause-elaborates
add_equation-requires-clause-elaborates c =
    can_one c.args.sig.now c.requires.ready.signature c.args.pool.now c.loop-item.sig c.loop-item.pool c.loop-item.invariant.kept c.args.list.now c.loop-item.item-index c.item-item.result c.loop-item-test.true c.item-item.is c.requires.elaborate

pub returns-in_err-add_equation-clause-kept : goal.returns-in_err-add_equation-clause-kept
returns-in_err-add_equation-clause-kept c = goes_then c.args.sig.now c.args.pool.now c.loop-item.sig c.loop-item.pool c.add_equation.new.sig c.add_equation.new.pool c.loop-item.invariant.kept c.add_equation.ensures.kept

pub loop-item-preserved : goal.loop-item-preserved
loop-item-preserved c = record {
  kept = goes_then c.args.sig.now c.args.pool.now c.loop-item.sig c.loop-item.pool c.add_equation.new.sig c.add_equation.new.pool c.loop-item.invariant.kept c.add_equation.ensures.kept;
  ready = c.in_ok-add_equation.ensures.ready;
  empty = c.in_ok-add_equation.ensures.empty;
  means = λ v over.
      subst (λ (es : List WrittenEquation). AreElaboratedEquations v c.add_equation.new.sig c.add_equation.new.pool es (map plain_equation c.add_equation.new.equations.items))
      (sym (equations_more c.args.list.now c.loop-item.item-index c.item-item.result c.loop-item-test.true c.item-item.is))
      (c.in_ok-add_equation.ensures.means v (flat_map equations_by (scoped_items (take c.loop-item.item-index c.args.list.now)))
      (over ∙ sym (vocabulary_stays c.args.sig.now c.loop-item.sig c.requires.ready.signature c.loop-item.invariant.kept.added)) (c.loop-item.invariant.means v over));
}

pub returns-clause-ready : goal.returns-clause-ready
returns-clause-ready c = subst (IsReady c.loop-item.sig c.loop-item.pool c.loop-item.tables) c.loop-item.invariant.empty c.loop-item.invariant.ready

pub returns-clause-means : goal.returns-clause-means
returns-clause-means c = λ v over.
    subst (λ (ds : List ScopedDecl). AreElaboratedEquations v c.loop-item.sig c.loop-item.pool (flat_map equations_by (scoped_items ds)) (map plain_equation c.loop-item.equations.items)) (take_all c.loop-item.item-index c.args.list.now c.loop-item-test.false)
    (c.loop-item.invariant.means v over)
