-- Names in a text.
use Rattle.std.specs.Prelude.{ℕ, List}

-- the bytes of an identifier
abbrev pub Name : Type 0
Name = List ℕ
