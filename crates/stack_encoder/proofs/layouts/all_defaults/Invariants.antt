use Rattle.std.proofs.Common.{◌≡◌, ◌<◌, ℕ, length}
use Rattle.std.specs.Prelude.{slice_get}
use Rattle.stack_encoder.specs.StackColumns.{default_at}
use Rattle.stack_encoder.proofs.layouts.all_defaults.Given as goal

abbrev pub invariant-loop-column : goal.invariant-loop-column
invariant-loop-column l = (length l.found.items ≡ l.column) × ((x : ℕ) → x < l.column → slice_get l.found.items x ≡ default_at l.needed l.closed l.place l.init x)
