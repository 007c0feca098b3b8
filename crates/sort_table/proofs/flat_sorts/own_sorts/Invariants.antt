use Rattle.std.proofs.Common.{◌≡◌, ◌<◌, ℕ, length}
use Rattle.std.specs.Prelude.{Some, slice_get}
use Rattle.sort_table.specs.FlatSorts.{own_flat}
use Rattle.sort_table.proofs.flat_sorts.own_sorts.Given as goal

abbrev pub invariant-loop-place : goal.invariant-loop-place
invariant-loop-place l = record {
  size : length l.sorts.items ≡ l.place;
  own : (p : ℕ) → p < l.place → slice_get l.sorts.items p ≡ Some (own_flat p);
}
