-- Counts of faults, which never fall and stay at 2^64 - 1 once they are there.
use Rattle.std.specs.Prelude.{◌<◌, ◌≤◌, ◌⊎◌, ℕ, ◌^◌, ◌-◌}

-- a count rose in a call: it is greater after it, or stands at its greatest value
abbrev pub Rose : ℕ → ℕ → Type 0
Rose before after = (before < after) ⊎ (2 ^ 64 - 1 ≤ after)
