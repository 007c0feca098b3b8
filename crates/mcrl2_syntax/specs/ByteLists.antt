-- The bytes of a word, as a list.
use Rattle.std.specs.Prelude.{ℕ, List}

pub record Bytes : Type 0 where
  pub items : List ℕ
