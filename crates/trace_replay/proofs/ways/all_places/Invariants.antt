use Rattle.std.proofs.Common.{◌≡◌, ◌<◌, ℕ, length, take}
use Rattle.std.specs.List.{All}
use Rattle.process_terms.specs.Labels.{Label}
use Rattle.trace_replay.specs.Ways.{actions_at}
use Rattle.trace_replay.proofs.ways.all_places.Given as goal

abbrev pub invariant-loop-place : goal.invariant-loop-place
invariant-loop-place l = record {
  many : length l.places.items ≡ l.place;
  within : All (λ (place : ℕ). place < l.count) l.places.items;
  all : (m : Label) → length m ≡ l.count → actions_at m l.places.items ≡ take l.place m;
}
