use Rattle.std.proofs.Common.{ℕ, ap, sym, ◌∙◌, arith}
use Rattle.std.specs.Prelude.{Option, Some}
use denote.Ref.{Bor}
use Rattle.sort_table.specs.Expressions.{Name}
use Rattle.sort_checker.specs.Parts.{ScopedDeclaration}
use Rattle.sort_checker.specs.Faults.{operators_of}
use Rattle.sort_checker.specs.RenamedTrees.{again_in_operators}
use Rattle.sort_checker.specs.ScopedTrees.{scoped_item}
use Rattle.sort_checker.proofs.Firsts.{none_told, some_told}
use Rattle.sort_checker.proofs.NumberedFirsts.{found_at, not_at}
use Rattle.sort_checker.proofs.renamings.first_renamed.Goals as goal

abbrev now_of : Bor Name → Name
now_of n = n.now

abbrev again : ScopedDeclaration → Option Name
again d = again_in_operators (operators_of d.declaration)

pub returns-in-Some : goal.returns-in-Some
returns-in-Some c =
    ap (λ (n : ℕ). Some (n, c.in-Some.name.now)) (omega (arith, c.loop-declaration.invariant.counted))
    ∙ sym (found_at scoped_item again 1 c.args.declarations.now c.loop-declaration.declaration-index c.declaration-item.result c.in-Some.name.now c.loop-declaration-test.true c.declaration-item.is c.loop-declaration.invariant.none
    (some_told now_of c.in_ok-name.field-0 (again (scoped_item c.declaration-item.result)) c.in-Some.name c.in_ok-name.ensures c.in-Some.is))

pub loop-declaration-preserved : goal.loop-declaration-preserved
loop-declaration-preserved c = record {
  counted = omega (arith, c.loop-declaration.invariant.counted);
  none = not_at scoped_item again 1 c.args.declarations.now c.loop-declaration.declaration-index c.declaration-item.result c.loop-declaration-test.true c.declaration-item.is c.loop-declaration.invariant.none
      (none_told now_of c.in_ok-name.field-0 (again (scoped_item c.declaration-item.result)) c.in_ok-name.ensures c.in_default.is);
}
