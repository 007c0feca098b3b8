use Rattle.std.proofs.Common.{◌≡◌, ◌≤◌, length, sym, subst, arith}
use Rattle.std.specs.Prelude.{IfOk}
use Rattle.term_pool.specs.HeadTrees.{tree_at, trees_at}
use Rattle.regular_encoder.proofs.ColumnTrees.{column_found, bound_nowhere}
use Rattle.regular_encoder.proofs.encoding.column_term.Goals as goal

pub returns-then-place-number-clause-tree : goal.returns-then-place-number-clause-tree
returns-then-place-number-clause-tree c = column_found _ _ _ _ _ (record { 0 = 0 }) (record { 0 = 0 }) c.requires.long c.loop-number-test.true c.loop-number.invariant.0 c.if-place-number.true

pub returns-clause-tree : goal.returns-clause-tree
returns-clause-tree c =
    let n = c.loop-number-test.false in
    let l : length c.args.place.now ≤ c.loop-number.number = omega (arith, n) in
    subst (λ t. IfOk c.variable_term.result (λ id. tree_at c.variable_term.new.pool.trees id ≡ t)) (sym (bound_nowhere c.args.place.now (trees_at c.args.pool.now.trees c.args.args.now) c.args.column c.loop-number.number l c.loop-number.invariant.0)) c.variable_term.ensures.tree
