use Rattle.std.proofs.Common.{◌+◌, ◌≤◌, length, get_or, arith, subst, sym, ap, ◌∙◌}
use Rattle.data_theory.specs.IdTrees.{variable}
use Rattle.stack_encoder.specs.Frames.{plain_symbols}
use Rattle.stack_encoder.specs.TreeStack.{field_tree, one_tree}
use Rattle.stack_encoder.proofs.FieldLists.{IsMovingTo, moving_more, moving_all, read_any}
use Rattle.stack_encoder.proofs.encoding.to_fields.Goals as goal

pub loop-number-preserved : goal.loop-number-preserved
loop-number-preserved c = (
  subst (λ z. IsMovingTo (field_tree (plain_symbols c.args.symbols.now) c.args.symbols.now.stack) c.args.pool.now.trees c.args.params.now c.args.place.now (c.loop-number.number + 1) c.of_stack.new.pool.trees z) (sym c.in_ok-push.ensures.items)
      (moving_more (field_tree (plain_symbols c.args.symbols.now) c.args.symbols.now.stack) c.args.pool.now.trees c.args.params.now c.args.place.now c.loop-number.number c.loop-number.pool.trees c.loop-number.by.items (record { 0 = 0 }) 0
      c.loop-number.invariant.0 c.loop-number-test.true c.requires.long c.of_stack.new.pool.trees c.in_ok-field.field c.of_stack.ensures.kept
      (c.in_ok-field.ensures.tree ∙ ap (λ p. one_tree p (variable c.args.symbols.now.stack)) (c.index.ensures
      ∙ read_any c.args.symbols.now.fields.items (get_or c.args.place.now c.loop-number.number 0) c.index.result.now (record { 0 = 0 }) (c.requires.fields c.loop-number.number 0 (let t = c.loop-number-test.true in let e = c.requires.long in omega (arith, t, e))))) c.in_ok-field.ensures.within),
  c.of_stack.ensures.constants ∙ c.loop-number.invariant.1,
)

pub returns-clause-moves : goal.returns-clause-moves
returns-clause-moves c =
    let n = c.loop-number-test.false in
    let l : length c.args.params.now ≤ c.loop-number.number = omega (arith, n) in
    moving_all (field_tree (plain_symbols c.args.symbols.now) c.args.symbols.now.stack) c.args.pool.now.trees c.args.params.now c.args.place.now c.loop-number.number c.loop-number.pool.trees c.loop-number.by.items c.loop-number.invariant.0 l c.requires.long
