use Rattle.std.proofs.Common.{◌+◌, ◌∙◌, List, length, sym, ap, subst, arith}
use Rattle.value_enum.specs.declared.levels.TupleRow.{TupleRow}
use Rattle.value_enum.specs.Levels.{shape_of, HaveTuples, IsValueRow}
use Rattle.value_enum.proofs.RowLemmas.{rows_length}
use Rattle.value_enum.proofs.LevelSteps.{levels_go_on}
use Rattle.value_enum.proofs.levels.add_level.Goals as goal

pub next_values-requires-clause-some : goal.next_values-requires-clause-some
next_values-requires-clause-some c = let e = ap length c.as_slice.ensures.value in omega (arith, e, c.requires.levels.some, c.requires.levels.same)

pub next_values-requires-clause-tuples : goal.next_values-requires-clause-tuples
next_values-requires-clause-tuples c =
    subst (λ rows. HaveTuples (shape_of c.args.sig.now c.args.shapes.now) c.args.shapes.now.arguments.items (c.args.bound + 1) c.args.pool.now.trees rows) (sym c.as_slice.ensures.value) c.requires.levels.tuples

pub returns-clause-levels : goal.returns-clause-levels
returns-clause-levels c =
    levels_go_on c.args.sig.now c.args.shapes.now c.requires.shapes c.args.bound c.args.pool.now.trees c.next_values.new.pool.trees c.args.levels.now _ c.in_ok-values.values c.in_ok-tuples.tuples c.next_values.ensures.kept c.requires.levels
    (subst (λ (rows : List TupleRow). IsValueRow c.args.sig.now c.args.shapes.now c.args.bound c.next_values.new.pool.trees (length rows) c.in_ok-values.values) c.as_slice.ensures.value c.in_ok-values.ensures.row) c.in_ok-push.ensures.items c.in_ok-push-2.ensures.items
    c.as_slice-2.result.now c.as_slice-3.result.now c.as_slice-4.result.now c.as_slice-2.ensures.value (c.as_slice-3.ensures.value ∙ c.in_ok-push.ensures.items) c.as_slice-4.ensures.value c.in_ok-tuples.ensures

pub returns-clause-longer : goal.returns-clause-longer
returns-clause-longer c = ap length c.in_ok-push.ensures.items ∙ rows_length c.args.levels.now.values.items c.in_ok-values.values
