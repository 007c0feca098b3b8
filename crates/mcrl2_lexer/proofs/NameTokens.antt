-- An identifier has ASCII bytes alone.
use Rattle.std.proofs.Common.{◌≡◌, ◌<◌, ℕ, zero, suc, Bool, true, false, List, [], ◌∷◌, Some, length, get_or, slice_index, refl, arith}
use Rattle.std.specs.Str.{IsAscii, IsUtf8}
use Rattle.std.proofs.lemmas.Str.{IsUtf8-from_ascii}
use Rattle.mcrl2_lexer.specs.declared.kind.Kind.{Kind}
use Rattle.mcrl2_lexer.specs.declared.kind.Kind.TheVariants.{Identifier}
use Rattle.mcrl2_lexer.specs.Words.{sign_kind, is_letter, is_name_byte}
use Rattle.mcrl2_lexer.specs.Tokens.{AreNameBytes, IsToken, name_or_word, zero_numeral, numeral, sign}

sign_no_identifier : (s : List ℕ) → sign_kind s ≡ Some Identifier → ⊥
sign_no_identifier s is = grind arith

letter_is_ascii : (b : ℕ) → is_letter b ≡ true → b < 128
letter_is_ascii b is = grind arith

name_byte_is_ascii : (b : ℕ) → is_name_byte b ≡ true → b < 128
name_byte_is_ascii b is = grind arith

name_bytes_are_ascii : (bs : List ℕ) → AreNameBytes bs → IsAscii bs
name_bytes_are_ascii [] all i = omega arith
name_bytes_are_ascii (b ∷ bs) all zero = name_byte_is_ascii b (all 0 0 (omega arith))
name_bytes_are_ascii (b ∷ bs) all (suc i) = name_bytes_are_ascii bs (λ j d inside. all (suc j) d (omega arith)) i

name_is_ascii : (first : ℕ) (others : List ℕ) → is_letter first ≡ true → AreNameBytes others → IsAscii (first ∷ others)
name_is_ascii first others letter names zero = letter_is_ascii first letter
name_is_ascii first others letter names (suc i) = name_bytes_are_ascii others names i

identifier_is_ascii : {bytes : List ℕ} {kind : Kind} → IsToken bytes kind → kind ≡ Identifier → IsAscii bytes
identifier_is_ascii (name_or_word {first = first} {others = others} letter names) is = name_is_ascii first others letter names
identifier_is_ascii zero_numeral is = cc
identifier_is_ascii (numeral some digit digits) is = cc
identifier_is_ascii (sign {bytes = bytes} {kind = kind} found) is = absurd (sign_no_identifier bytes (rw is at found))

-- an identifier is text
pub identifier_is_text : {bytes : List ℕ} → IsToken bytes Identifier → IsUtf8 bytes
identifier_is_text {bytes = bytes} token = IsUtf8-from_ascii bytes (identifier_is_ascii token refl)
