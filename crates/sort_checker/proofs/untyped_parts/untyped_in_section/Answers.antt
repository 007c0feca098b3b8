use Rattle.std.proofs.Common.{ℕ, suc, ◌+◌, Bool, cond, not, drop, sym, ap, ◌∙◌, arith, ◌≡◌}
use Rattle.std.specs.Prelude.{Some}
use Rattle.mcrl2_syntax.specs.Declarations.{plain_decl}
use Rattle.sort_checker.specs.ReadyTrees.{IsReadyDeclaration}
use Rattle.sort_checker.specs.Refusals.{number_from}
use Rattle.sort_checker.specs.ScopedTrees.{scoped_under, variables_under}
use Rattle.sort_checker.specs.TypedTrees.{is_untyped}
use Rattle.sort_checker.proofs.NumberedFirsts.{numbers_cut}
use Rattle.sort_checker.proofs.ReadyLeaves.{holds_at}
use Rattle.sort_checker.proofs.ScopedLists.{tree_under}
use Rattle.sort_checker.proofs.untyped_parts.untyped_in_section.Goals as goal

pub is_declaration_typed-requires-clause-ready : goal.is_declaration_typed-requires-clause-ready
is_declaration_typed-requires-clause-ready c =
    holds_at plain_decl (IsReadyDeclaration c.args.context.now.sig.now.texts) c.args.declarations.now c.requires.ready c.loop-declaration.declaration-index c.declaration-item.result c.loop-declaration-test.true c.declaration-item.is

pub returns-then-not-branch : goal.returns-then-not-branch
returns-then-not-branch c = λ v over.
    let told = c.in_ok-is_declaration_typed.ensures v (variables_under c.args.before.now) over c.in_ok-scope.ensures in
    sym (numbers_cut (tree_under (variables_under c.args.before.now)) (is_untyped v) c.loop-declaration.number c.args.declarations.now c.loop-declaration.declaration-index c.declaration-item.result c.loop-declaration-test.true c.declaration-item.is
    ∙ ap (λ (b : Bool). cond (not b) (Some c.loop-declaration.number) (number_from (is_untyped v) (suc c.loop-declaration.number) (scoped_under c.args.before.now (drop (c.loop-declaration.declaration-index + 1) c.args.declarations.now))))
    (sym told ∙ c.if-not-branch.true))
    ∙ c.loop-declaration.invariant v over

pub loop-declaration-preserved : goal.loop-declaration-preserved
loop-declaration-preserved c = λ v over.
    let told = c.in_ok-is_declaration_typed.ensures v (variables_under c.args.before.now) over c.in_ok-scope.ensures in
    let next : c.loop-declaration.number + 1 ≡ suc c.loop-declaration.number = omega arith in
    ap (λ (k : ℕ). number_from (is_untyped v) k (scoped_under c.args.before.now (drop (c.loop-declaration.declaration-index + 1) c.args.declarations.now))) (c.in_ok-number.ensures ∙ next)
    ∙ (sym (numbers_cut (tree_under (variables_under c.args.before.now)) (is_untyped v) c.loop-declaration.number c.args.declarations.now c.loop-declaration.declaration-index c.declaration-item.result c.loop-declaration-test.true c.declaration-item.is
    ∙ ap (λ (b : Bool). cond (not b) (Some c.loop-declaration.number) (number_from (is_untyped v) (suc c.loop-declaration.number) (scoped_under c.args.before.now (drop (c.loop-declaration.declaration-index + 1) c.args.declarations.now))))
    (sym told ∙ c.if-not-branch.false))
    ∙ c.loop-declaration.invariant v over)
