-- The bytes of a word, where they stand in the word itself or in a block of their own.
use Rattle.std.specs.Prelude.{◌≤◌, ℕ, List, take}
use Rattle.mcrl2_syntax.specs.declared.word_bytes.Held.{Held}
use Rattle.mcrl2_syntax.specs.declared.word_bytes.Held.TheVariants.{Inside, Outside}

abbrev pub held_bytes : Held → List ℕ
held_bytes (Inside len room) = take len room
held_bytes (Outside block) = block.value.items

-- no more bytes stand in the word than it has room for
abbrev pub IsHeld : Held → Type 0
IsHeld (Inside len room) = len ≤ 14
IsHeld (Outside block) = Unit {0}
