use Rattle.std.proofs.Common.{◌≡◌, ◌<◌, ◌≤◌, ◌+◌, ◌++◌, ◌∷◌, [], List, ℕ, length, take, drop, sym, subst, ap, ◌∙◌, arith}
use Rattle.std.specs.Prelude.{Some, None, option_map}
use Rattle.sort_table.specs.BareDeclarations.{Declaration}
use Rattle.sort_table.specs.DeclarationTrees.{declaration_of}
use Rattle.sort_checker.specs.declared.scoped_declarations.ScopedDecl.{ScopedDecl}
use Rattle.mcrl2_syntax.specs.Declarations.{plain_decl}
use Rattle.sort_checker.specs.ReadyTrees.{IsReadyDeclaration}
use Rattle.sort_checker.specs.Refusals.{first_from}
use Rattle.sort_checker.specs.ElaboratedTexts.{IsReadyScoped, declarations_listed, initial_in, initial_term}
use Rattle.sort_checker.proofs.ListedDeclarations.{first_here, first_not_here}
use Rattle.sort_checker.proofs.ReadLists.{at_one, take_whole}
use Rattle.sort_checker.proofs.definitions.first_initial.Goals as goal

pub returns-in-Some-clause-found : goal.returns-in-Some-clause-found
returns-in-Some-clause-found c =
    sym (first_here c.args.list.now c.loop-i.i c.index-list-i.result (omega (arith, c.loop-i-test.true)) c.index-list-i.is c.loop-i.invariant (initial_term c.in-Some.process) (ap (λ (x : ScopedDecl). initial_in (declaration_of x.declaration.now)) c.index-list-i.is ∙ sym c.initial_of.ensures.term ∙ ap (option_map initial_term) c.in-Some.is))

pub loop-i-preserved : goal.loop-i-preserved
loop-i-preserved c =
    first_not_here c.args.list.now c.loop-i.i c.index-list-i.result (omega (arith, c.loop-i-test.true)) c.index-list-i.is c.loop-i.invariant (ap (λ (x : ScopedDecl). initial_in (declaration_of x.declaration.now)) c.index-list-i.is ∙ sym c.initial_of.ensures.term ∙ ap (option_map initial_term) c.in_default.is)

pub returns-in-Some-clause-ready : goal.returns-in-Some-clause-ready
returns-in-Some-clause-ready c = λ texts all.
    let here = at_one (IsReadyScoped texts) c.args.list.now c.loop-i.i c.index-list-i.result (omega (arith, c.loop-i-test.true)) c.index-list-i.is all in
    c.in-Some.ensures.ready texts (subst (λ (d : ScopedDecl). IsReadyDeclaration texts (plain_decl d.declaration.now)) c.index-list-i.is here.1)

pub returns-clause-found : goal.returns-clause-found
returns-clause-found c = sym (subst (λ (ds : List ScopedDecl). first_from initial_in 1 (declarations_listed ds) ≡ None) (take_whole c.loop-i.i c.args.list.now (omega (arith, c.loop-i-test.false))) c.loop-i.invariant)
