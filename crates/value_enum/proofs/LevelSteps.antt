-- The rows of all weights, one weight after the other.
use Rattle.std.proofs.Common.{◌≡◌, ◌<◌, ◌+◌, ◌++◌, ◌∙◌, ℕ, List, [], ◌∷◌, take, length, Option, sym, ap, subst, arith}
use Rattle.data_theory.specs.declared.ids.SortId.{SortId}
use Rattle.data_theory.specs.Signature.{Sig}
use Rattle.data_theory.specs.IdTrees.{Tree}
use Rattle.term_pool.specs.Pools.{Extends}
use Rattle.value_enum.specs.declared.shapes.Shapes.{Shapes}
use Rattle.value_enum.specs.declared.levels.Levels.{Levels}
use Rattle.value_enum.specs.declared.levels.ValueRow.{ValueRow}
use Rattle.value_enum.specs.declared.levels.TupleRow.{TupleRow}
use Rattle.value_enum.specs.Values.{AreTermsOf}
use Rattle.value_enum.specs.Shapes.{list_at, AreShapes}
use Rattle.value_enum.specs.Levels.{shape_of, values_weighing, HaveValues, HaveTuples, AreLevels, IsValueRow, IsTupleRow, IsFirstTupleRow}
use Rattle.value_enum.proofs.RowLemmas.{rows_length, values_more, tuples_more, first_tuples_right, first_values_right}
use Rattle.value_enum.proofs.ListingLoops.{have_tuples_kept}

pub levels_begin : (g : Sig) (sh : Shapes) → AreShapes g sh → (bound : ℕ) (ts : List Tree) (levels : Levels) (row : ValueRow) (trow : TupleRow) → levels.values.items ≡ row ∷ [] → row.by_sort.items ≡ [] → levels.tuples.items ≡ trow ∷ [] → IsFirstTupleRow sh.arguments.items trow → AreLevels g sh bound ts levels
levels_begin g sh shapes bound ts levels row trow values empty tuples first = record {
  some = subst (λ rows. 0 < length rows) (sym values) (omega arith);
  same = ap length tuples ∙ sym (ap length values);
  values = subst (HaveValues (shape_of g sh) sh.sorts.keys (bound + 1) ts) (sym values) (first_values_right (shape_of g sh) sh.sorts.keys (bound + 1) ts row empty);
  tuples = subst (HaveTuples (shape_of g sh) sh.arguments.items (bound + 1) ts) (sym tuples) (first_tuples_right g sh shapes bound ts trow first);
}

pub levels_go_on : (g : Sig) (sh : Shapes) → AreShapes g sh → (bound : ℕ) (old new : List Tree) (before after : Levels) (row : ValueRow) (trow : TupleRow) → Extends old new → AreLevels g sh bound old before → IsValueRow g sh bound new (length before.tuples.items) row
    → after.values.items ≡ before.values.items ++ row ∷ [] → after.tuples.items ≡ before.tuples.items ++ trow ∷ [] → (os : List (Option SortId)) (values : List ValueRow) (tuples : List TupleRow) → os ≡ sh.arguments.items → values ≡ before.values.items ++ row ∷ [] → tuples ≡ before.tuples.items
    → IsTupleRow os values tuples (length tuples) bound trow → AreLevels g sh bound new after
levels_go_on g sh shapes bound old new before after row trow on right next is pushed os values tuples e d b made = record {
  some = let l = ap length is in let m = rows_length before.values.items row in omega (arith, l, m);
  same = let l = ap length is in let m = rows_length before.values.items row in let k = ap length pushed in let n = rows_length before.tuples.items trow in let same = right.same in omega (arith, l, m, k, n, same);
  values = subst (HaveValues (shape_of g sh) sh.sorts.keys (bound + 1) new) (sym is) more_values;
  tuples = subst (HaveTuples (shape_of g sh) sh.arguments.items (bound + 1) new) (sym pushed)
      (tuples_more g sh shapes bound new (before.values.items ++ row ∷ []) before.tuples.items trow (let m = rows_length before.values.items row in let same = right.same in omega (arith, m, same)) (let some = right.some in let same = right.same in omega (arith, some, same)) more_values
      (have_tuples_kept g sh bound old new before.tuples.items on right.tuples) made_row);
}
  where
    more_values : HaveValues (shape_of g sh) sh.sorts.keys (bound + 1) new (before.values.items ++ row ∷ [])
    more_values =
        values_more (shape_of g sh) sh.sorts.keys (bound + 1) old new before.values.items row on right.values (λ s has. subst (λ n. AreTermsOf new (list_at row.by_sort.items s.0) (take (bound + 1) (values_weighing (shape_of g sh) s n))) right.same (next s has))

    made_row : IsTupleRow sh.arguments.items (before.values.items ++ row ∷ []) before.tuples.items (length before.tuples.items) bound trow
    made_row = subst (λ (os : List (Option SortId)). IsTupleRow os (before.values.items ++ row ∷ []) before.tuples.items (length before.tuples.items) bound trow) e
        (subst (λ (vs : List ValueRow). IsTupleRow os vs before.tuples.items (length before.tuples.items) bound trow) d (subst (λ (ts : List TupleRow). IsTupleRow os values ts (length ts) bound trow) b made))
