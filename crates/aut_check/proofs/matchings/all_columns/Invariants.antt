use Rattle.std.proofs.Common.{◌≡◌, ◌<◌, ℕ, length}
use Rattle.aut_check.specs.Matchings.{column_of}
use Rattle.aut_check.proofs.matchings.all_columns.Given as goal

abbrev pub invariant-loop-column : goal.invariant-loop-column
invariant-loop-column l = record {
  many : length l.columns.items ≡ l.column;
  at : (row : ℕ) → row < l.column → column_of l.columns.items row ≡ row;
}
