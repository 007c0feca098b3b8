use Rattle.std.proofs.Common.{◌+◌, ◌≤◌, length, arith, sym, ◌∙◌, subst}
use Rattle.lps_core.proofs.RenamingLists.{IsMoving, moving_more, moving_all}
use Rattle.lps_core.proofs.moving.renaming.Goals as goal

pub loop-number-preserved : goal.loop-number-preserved
loop-number-preserved c = (
  subst (λ z. IsMoving c.args.pool.now.trees c.args.from.now c.args.to.now (c.loop-number.number + 1) c.variable_term.new.pool.trees z) (sym c.in_ok-push.ensures.items)
      (moving_more _ _ _ _ _ _ (record { 0 = 0 }) c.loop-number.invariant.0 c.loop-number-test.true c.requires _ _ c.variable_term.ensures.kept c.in_ok-variable_term.ensures.tree c.in_ok-variable_term.ensures.within),
  c.variable_term.ensures.constants ∙ c.loop-number.invariant.1,
)

pub returns-clause-moves : goal.returns-clause-moves
returns-clause-moves c =
    let n = c.loop-number-test.false in
    let l : length c.args.from.now ≤ c.loop-number.number = omega (arith, n) in
    moving_all c.args.pool.now.trees c.args.from.now c.args.to.now c.loop-number.number c.loop-number.pool.trees c.loop-number.by.items c.loop-number.invariant.0 l c.requires
