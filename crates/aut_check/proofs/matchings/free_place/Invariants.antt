use Rattle.std.proofs.Common.{◌≡◌, ◌≤◌, ◌<◌, ℕ, false}
use Rattle.aut_check.specs.Matchings.{column_of, mark_at, rows}
use Rattle.aut_check.proofs.matchings.free_place.Given as goal

abbrev pub invariant-loop-place : goal.invariant-loop-place
invariant-loop-place l = record {
  none : (place : ℕ) → l.row ≤ place → place < l.place → mark_at (rows l.marks) l.loose (column_of l.order place) ≡ false;
}
