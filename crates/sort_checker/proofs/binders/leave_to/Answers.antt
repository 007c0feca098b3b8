use Rattle.std.proofs.Common.{◌<◌, ◌≤◌, ◌-◌, ◌∙◌, length, take, sym, subst, ap, arith}
use Rattle.sort_checker.proofs.ReadLists.{take_front, take_whole, take_shorter}
use Rattle.sort_checker.proofs.binders.leave_to.Goals as goal

pub loop-scope-preserved : goal.loop-scope-preserved
loop-scope-preserved c =
    let l : c.args.left ≤ length c.loop-scope.scope - 1 = omega (arith, c.loop-scope-test.true, c.len.ensures) in
    ap (take c.args.left) c.leave.ensures ∙ (take_front c.args.left (length c.loop-scope.scope - 1) c.loop-scope.scope l ∙ c.loop-scope.invariant)

pub loop-scope-smaller : goal.loop-scope-smaller
loop-scope-smaller c =
    let some : 0 < length c.loop-scope.scope = omega (arith, c.loop-scope-test.true, c.len.ensures) in
    subst (λ s. length s < length c.loop-scope.scope) (sym c.leave.ensures) (take_shorter c.loop-scope.scope some)

pub returns : goal.returns
returns c =
    let l : length c.loop-scope.scope ≤ c.args.left = omega (arith, c.loop-scope-test.false, c.len.ensures) in
    sym (take_whole c.args.left c.loop-scope.scope l) ∙ c.loop-scope.invariant
