use Rattle.std.proofs.Common.{◌≡◌, ◌+◌, ◌-◌, ℕ, List, length, take, ap, ◌∙◌, subst, arith}
use Rattle.std.proofs.lemmas.List.{take_all}
use Rattle.mcrl2_syntax.specs.declared.process_tree.VarGroup.{VarGroup}
use Rattle.sort_table.specs.BareProcesses.{Variables}
use Rattle.sort_checker.specs.Stops.{without}
use Rattle.sort_checker.specs.VariableScopes.{HasInScope}
use Rattle.sort_checker.proofs.ReadyLeaves.{of_groups, group_length}
use Rattle.sort_checker.proofs.ScopesInCode.{fewer_again}
use Rattle.sort_checker.proofs.variable_scopes.leave_groups.Goals as goal

pub loop-group-preserved : goal.loop-group-preserved
loop-group-preserved c = λ g xs inside.
    let before : Variables = of_groups (take c.loop-group.group-index c.args.groups.now) in
    let longer = group_length c.args.groups.now c.loop-group.group-index c.group-item.result c.loop-group-test.true c.group-item.is in
    let held = c.as_slice.ensures.len in
    let many : length before + length c.as_slice.result.now ≡ length (of_groups (take (c.loop-group.group-index + 1) c.args.groups.now)) = omega (arith, longer, held) in
    subst (λ (ys : Variables). HasInScope g ys c.leave.new.self) (fewer_again xs (length before) (length c.as_slice.result.now) ∙ ap (λ (n : ℕ). take (length xs - n) xs) many) (c.leave.ensures g (without before xs) (c.loop-group.invariant g xs inside))

pub returns : goal.returns
returns c = λ g xs inside. subst (λ (gs : List VarGroup). HasInScope g (without (of_groups gs) xs) c.loop-group.scope) (take_all c.loop-group.group-index c.args.groups.now c.loop-group-test.false) (c.loop-group.invariant g xs inside)
