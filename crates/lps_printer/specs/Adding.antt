-- Bytes that go on by pieces.
use Rattle.std.specs.Prelude.{◌≡◌, ℕ, List, ◌++◌}
use Rattle.lps_printer.specs.Pieces.{Piece, bytes_of}

-- The new bytes are the old ones and those of the pieces that stand in front: so it is whatever comes behind.
pub record Adds (old new : List ℕ) (in_front : List Piece → List Piece) : Type 0 where
  pub bytes : (rest : List Piece) (end : List ℕ) → old ++ bytes_of (in_front rest) end ≡ new ++ bytes_of rest end
