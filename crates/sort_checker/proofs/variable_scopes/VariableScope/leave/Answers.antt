use Rattle.std.proofs.Common.{◌≡◌, ◌-◌, ℕ, length, take, subst, arith}
use Rattle.sort_table.specs.BareProcesses.{Variables}
use Rattle.sort_checker.specs.VariableScopes.{HasInScope}
use Rattle.sort_checker.proofs.ScopesInCode.{fewer_again}
use Rattle.sort_checker.proofs.variable_scopes.VariableScope.leave.Goals as goal

pub loop-step-preserved : goal.loop-step-preserved
loop-step-preserved c = λ g xs inside.
    subst (λ (ys : Variables). HasInScope g ys c.leave_one.new.self) (fewer_again xs c.loop-step._step 1) (c.leave_one.ensures g (take (length xs - c.loop-step._step) xs) (c.loop-step.invariant g xs inside))

pub returns : goal.returns
returns c = λ g xs inside.
    let all : c.loop-step._step ≡ c.args.count = (let far = c.loop-step-test.false in let near = c.loop-step.auto._step-end in omega (arith, far, near)) in
    subst (λ (n : ℕ). HasInScope g (take (length xs - n) xs) c.loop-step.self) all (c.loop-step.invariant g xs inside)
