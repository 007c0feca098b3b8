use Rattle.std.proofs.Common.{ℕ, suc, ◌+◌, drop, sym, ap, ◌∙◌, arith, ◌≡◌}
use Rattle.std.specs.Prelude.{Option, option_map}
use Rattle.std.specs.Option.{option_or}
use Rattle.mcrl2_syntax.specs.Declarations.{plain_decl}
use Rattle.sort_table.specs.Expressions.{Name}
use Rattle.sort_checker.specs.FreeTrees.{free_in}
use Rattle.sort_checker.specs.ReadyTrees.{IsReadyDeclaration}
use Rattle.sort_checker.specs.Refusals.{first_from}
use Rattle.sort_checker.specs.ScopedTrees.{scoped_under, variables_under}
use Rattle.sort_checker.proofs.NumberedFirsts.{from_cut}
use Rattle.sort_checker.proofs.ReadyLeaves.{holds_at, section_names_are}
use Rattle.sort_checker.proofs.ScopedLists.{tree_under}
use Rattle.sort_checker.proofs.free_variables.free_in_section.Goals as goal

pub free_in_declaration-requires-clause-ready : goal.free_in_declaration-requires-clause-ready
free_in_declaration-requires-clause-ready c =
    holds_at plain_decl (IsReadyDeclaration c.args.context.now.sig.now.texts) c.args.declarations.now c.requires.ready c.loop-declaration.declaration-index c.declaration-item.result c.loop-declaration-test.true c.declaration-item.is

pub returns-in-Some : goal.returns-in-Some
returns-in-Some c = λ v over.
    let told = c.in_ok-name.ensures v (variables_under c.args.before.now) over c.in_ok-variables.ensures (section_names_are c.args.context.now.sig.now.texts c.args.before.now c.requires.before) in
    sym (from_cut (tree_under (variables_under c.args.before.now)) (free_in v) c.loop-declaration.number c.args.declarations.now c.loop-declaration.declaration-index c.declaration-item.result c.loop-declaration-test.true c.declaration-item.is
    ∙ ap (λ (o : Option Name). option_or (option_map (λ a. (c.loop-declaration.number, a)) o) (first_from (free_in v) (suc c.loop-declaration.number) (scoped_under c.args.before.now (drop (c.loop-declaration.declaration-index + 1) c.args.declarations.now))))
    (sym told ∙ ap (option_map (λ n. n.now)) c.in-Some.is))
    ∙ c.loop-declaration.invariant v over

pub loop-declaration-preserved : goal.loop-declaration-preserved
loop-declaration-preserved c = λ v over.
    let told = c.in_ok-name.ensures v (variables_under c.args.before.now) over c.in_ok-variables.ensures (section_names_are c.args.context.now.sig.now.texts c.args.before.now c.requires.before) in
    let next : c.loop-declaration.number + 1 ≡ suc c.loop-declaration.number = omega arith in
    ap (λ (k : ℕ). first_from (free_in v) k (scoped_under c.args.before.now (drop (c.loop-declaration.declaration-index + 1) c.args.declarations.now))) (c.in_ok-number.ensures ∙ next)
    ∙ (sym (from_cut (tree_under (variables_under c.args.before.now)) (free_in v) c.loop-declaration.number c.args.declarations.now c.loop-declaration.declaration-index c.declaration-item.result c.loop-declaration-test.true c.declaration-item.is
    ∙ ap (λ (o : Option Name). option_or (option_map (λ a. (c.loop-declaration.number, a)) o) (first_from (free_in v) (suc c.loop-declaration.number) (scoped_under c.args.before.now (drop (c.loop-declaration.declaration-index + 1) c.args.declarations.now))))
    (sym told ∙ ap (option_map (λ n. n.now)) c.in_default.is))
    ∙ c.loop-declaration.invariant v over)
