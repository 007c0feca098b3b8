-- What a read and a write do to the bytes that are told.
use Rattle.std.specs.Prelude.{◌≡◌, ◌≤◌, ℕ, List, [], ◌++◌, length, take, drop, Option, Some}

-- a read gave the next n bytes in the front of a buffer, and none only at the end
pub record ReadsNext (before : List ℕ) (after : Option (List ℕ)) (buffer : List ℕ) (n : ℕ) : Type 0 where
  pub bytes : take n buffer ≡ take n before
  pub within : n ≤ length before
  pub rest : after ≡ Some (drop n before)
  pub ends : n ≡ 0 → before ≡ []

-- a sink that had taken these bytes took a prefix of the piece behind them
pub record TakesPrefix (before : List ℕ) (after : Option (List ℕ)) (piece : List ℕ) : Type 0 where
  pub count : ℕ
  pub within : count ≤ length piece
  pub taken : after ≡ Some (before ++ take count piece)
