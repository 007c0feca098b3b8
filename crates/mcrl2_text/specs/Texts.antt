-- Texts by their names.
use Rattle.std.specs.Prelude.{ℕ, List, [], ◌∷◌, Option, Some, None, cond, string_bytes, zero, suc}
use Rattle.std.specs.Str.{bytes_eq}
use Rattle.mcrl2_text.specs.declared.texts.MemText.{MemText}

-- the first text of that name
abbrev pub text_named : List MemText → List ℕ → Option (List ℕ)
text_named [] name = None
text_named (text ∷ texts) name = cond (bytes_eq (string_bytes text.name) name) (Some text.text.items) (text_named texts name)

-- the bytes of the text at a place, and none past the last
abbrev pub text_at : List MemText → ℕ → List ℕ
text_at [] place = []
text_at (text ∷ texts) zero = text.text.items
text_at (text ∷ texts) (suc place) = text_at texts place
