-- Texts by their names, from one place to the next.
use Rattle.std.proofs.Common.{◌≡◌, ◌<◌, ◌≤◌, ℕ, List, [], ◌∷◌, zero, suc, Some, cond, length, drop, get_or, string_bytes, refl, arith}
use Rattle.std.specs.Str.{bytes_eq}
use Rattle.mcrl2_text.specs.declared.texts.MemText.{MemText}
use Rattle.mcrl2_text.specs.Texts.{text_at, text_named}

-- from a place on, the first text of a name is the one at that place or the first one behind it
pub text_named-drop : (texts : List MemText) (place : ℕ) (name : List ℕ) (default : MemText) → place < length texts
    → text_named (drop place texts) name ≡ cond (bytes_eq (string_bytes (get_or texts place default).name) name) (Some (text_at texts place)) (text_named (drop (suc place) texts) name)
text_named-drop [] place name default h = absurd (omega arith)
text_named-drop (t ∷ ts) zero name default h = refl
text_named-drop (t ∷ ts) (suc place) name default h = text_named-drop ts place name default (omega arith)

pub text_at-past : (texts : List MemText) (place : ℕ) → length texts ≤ place → text_at texts place ≡ []
text_at-past [] place h = refl
text_at-past (t ∷ ts) zero h = absurd (omega arith)
text_at-past (t ∷ ts) (suc place) h = text_at-past ts place (omega arith)

pub text_at-get_or : (texts : List MemText) (place : ℕ) (default : MemText) → place < length texts → text_at texts place ≡ (get_or texts place default).text.items
text_at-get_or [] place default h = absurd (omega arith)
text_at-get_or (t ∷ ts) zero default h = refl
text_at-get_or (t ∷ ts) (suc place) default h = text_at-get_or ts place default (omega arith)
