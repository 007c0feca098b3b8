use Rattle.std.proofs.Common.{◌≡◌, ◌++◌, ◌∷◌, [], List, map, sym, subst, ap, ◌∙◌}
use Rattle.std.proofs.lemmas.List.{append-nil}
use Rattle.mcrl2_syntax.specs.declared.declaration.Decl.{Decl}
use Rattle.mcrl2_syntax.specs.DataTrees.{plain_data}
use Rattle.mcrl2_syntax.specs.Declarations.{plain_decl, some_data}
use Rattle.mcrl2_syntax.specs.TreeWords.{IsDataOfWords, IsConditionOfWords}
use Rattle.process_terms.specs.PlainProcesses.{PlainEquation, plain_equation}
use Rattle.sort_table.specs.DeclarationTrees.{declaration_of}
use Rattle.sort_checker.specs.Elaborations.{WrittenEquation}
use Rattle.sort_checker.specs.ReadyTrees.{IsReadyDeclaration}
use Rattle.sort_checker.specs.ScopedTrees.{variables_under}
use Rattle.sort_checker.specs.Systems.{equation_under}
use Rattle.sort_checker.specs.ElaboratedTexts.{written_equation, CanElaborateEquations, IsElaboratedEquation, AreElaboratedEquations}
use Rattle.sort_checker.proofs.Adding.{goes_nowhere}
use Rattle.sort_checker.proofs.MadeEquations.{equations_on, equation_added}
use Rattle.sort_checker.proofs.OtherDeclarations.{no_equation}
use Rattle.sort_checker.proofs.written_equations.add_equation.Goals as goal

pub returns-in_default : goal.returns-in_default
returns-in_default c = record {
  kept = goes_nowhere c.args.sig.now c.args.pool.now;
  ready = c.requires.ready;
  empty = c.requires.empty;
  means = λ v es over all.
      subst (λ (xs : List WrittenEquation). AreElaboratedEquations v c.args.sig.now c.args.pool.now xs (map plain_equation c.args.equations.now.items))
      (sym (append-nil es) ∙ ap (λ (xs : List WrittenEquation). es ++ xs) (sym (no_equation (variables_under c.args.item.before.now) c.args.item.declaration.now c.in_default.not-Equation))) all;
}

pub equation_of-requires-clause-condition : goal.equation_of-requires-clause-condition
equation_of-requires-clause-condition c = (subst (λ (d : Decl). IsReadyDeclaration c.args.sig.now.texts (plain_decl d)) c.in-Equation.is c.requires.words.1).0.0

pub equation_of-requires-clause-left : goal.equation_of-requires-clause-left
equation_of-requires-clause-left c = (subst (λ (d : Decl). IsReadyDeclaration c.args.sig.now.texts (plain_decl d)) c.in-Equation.is c.requires.words.1).0.1

pub equation_of-requires-clause-right : goal.equation_of-requires-clause-right
equation_of-requires-clause-right c = (subst (λ (d : Decl). IsReadyDeclaration c.args.sig.now.texts (plain_decl d)) c.in-Equation.is c.requires.words.1).0.2

pub equation_of-requires-clause-elaborates : goal.equation_of-requires-clause-elaborates
equation_of-requires-clause-elaborates c =
    subst (λ (d : Decl). CanElaborateEquations c.args.sig.now (equation_under (variables_under c.args.item.before.now) (declaration_of d))) c.in-Equation.is c.requires.elaborates

pub returns-clause-means : goal.returns-clause-means
returns-clause-means c = λ v es over all.
    subst (λ (d : Decl). AreElaboratedEquations v c.equation_of.new.sig c.equation_of.new.pool (es ++ equation_under (variables_under c.args.item.before.now) (declaration_of d)) (map plain_equation c.push.new.self.items)) (sym c.in-Equation.is)
    (equation_added v c.equation_of.new.sig c.equation_of.new.pool es (written_equation c.args.item.before.now c.in-Equation.tree) c.args.equations.now.items c.push.new.self.items c.in_ok-equation.equation
    (equations_on v c.args.sig.now c.args.pool.now c.equation_of.new.sig c.equation_of.new.pool c.equation_of.ensures.kept es (map plain_equation c.args.equations.now.items) all)
    (c.in_ok-equation.ensures.means v over) c.in_ok-push.ensures.items)
