-- Identifiers are names that are no word, and no signs.
use Rattle.std.proofs.Common.{◌≡◌, ℕ, Bool, true, false, cond, List, [], ◌∷◌, length, Option, Some, None, bytes_eq, eqb, refl, sym, ap, ◌∙◌, codes}
use Rattle.std.specs.List.{list_all}
use Rattle.std.proofs.lemmas.Bool.{and_from}
use Rattle.std.proofs.lemmas.List.Elements.{All-head, All-tail}
use Rattle.mcrl2_lexer.specs.declared.kind.Kind.{Kind}
use Rattle.mcrl2_lexer.specs.declared.kind.Kind.TheVariants.{Identifier, LeftParen, RightParen, LeftBracket, RightBracket, LeftBrace, RightBrace, Comma, Semicolon, Colon, Equals, Question, Hash, Exclamation, Dot, Plus, Minus, Star, Bar, Less, Greater, At, Slash, BarBar, AndAnd, Implies, EqualsEquals, NotEquals, LessEquals, GreaterEquals, Prepend, Append, Concat, Arrow, Else, Before, LeftMerge}
use Rattle.mcrl2_lexer.specs.Words.{word_kind, sign_kind, sign_of_one, sign_of_two, sign_of_three, is_letter, is_name_byte, is_name}
use Rattle.mcrl2_lexer.specs.Tokens.{AreNameBytes, IsToken, name_or_word, zero_numeral, numeral, sign}
use Rattle.lps_printer.specs.DataLayout.{IsIdentifier}

-- no sign is an identifier

is_identifier : Kind → Bool
is_identifier Identifier = true
is_identifier _ = false

record Unnamed (o : Option Kind) : Type 0 where
  other : o ≡ Some Identifier → ⊥

unnamed : (t : Bool) (x y : Option Kind) → Unnamed x → Unnamed y → Unnamed (cond t x y)
unnamed true x y e f = e
unnamed false x y e f = f

no_kind : Unnamed None
no_kind = record { other = λ (e : ◌≡◌ {A = Option Kind} None (Some Identifier)). cc }

other_kind : (k : Kind) → is_identifier k ≡ false → Unnamed (Some k)
unfolding is_identifier
other_kind k e = record { other = λ (f : Some k ≡ Some Identifier). let g : k ≡ Identifier = cc in let h : true ≡ false = sym (ap is_identifier g) ∙ e in cc }

no_name_of_one : (s : List ℕ) → Unnamed (sign_of_one s)
unfolding is_identifier
no_name_of_one s =
    unnamed (bytes_eq s (codes "(")) _ _ (other_kind LeftParen refl) (unnamed (bytes_eq s (codes ")")) _ _ (other_kind RightParen refl) (unnamed (bytes_eq s (codes "[")) _ _ (other_kind LeftBracket refl) (unnamed (bytes_eq s (codes "]")) _ _ (other_kind RightBracket refl) (unnamed (bytes_eq s (codes "{")) _ _ (other_kind LeftBrace refl) (unnamed (bytes_eq s (codes "}")) _ _ (other_kind RightBrace refl) (unnamed (bytes_eq s (codes ",")) _ _ (other_kind Comma refl) (unnamed (bytes_eq s (codes ";")) _ _ (other_kind Semicolon refl) (unnamed (bytes_eq s (codes ":")) _ _ (other_kind Colon refl) (unnamed (bytes_eq s (codes "=")) _ _ (other_kind Equals refl) (unnamed (bytes_eq s (codes "?")) _ _ (other_kind Question refl) (unnamed (bytes_eq s (codes "#")) _ _ (other_kind Hash refl) (unnamed (bytes_eq s (codes "!")) _ _ (other_kind Exclamation refl) (unnamed (bytes_eq s (codes ".")) _ _ (other_kind Dot refl) (unnamed (bytes_eq s (codes "+")) _ _ (other_kind Plus refl) (unnamed (bytes_eq s (codes "-")) _ _ (other_kind Minus refl) (unnamed (bytes_eq s (codes "*")) _ _ (other_kind Star refl) (unnamed (bytes_eq s (codes "|")) _ _ (other_kind Bar refl) (unnamed (bytes_eq s (codes "<")) _ _ (other_kind Less refl) (unnamed (bytes_eq s (codes ">")) _ _ (other_kind Greater refl) (unnamed (bytes_eq s (codes "@")) _ _ (other_kind At refl) (unnamed (bytes_eq s (codes "/")) _ _ (other_kind Slash refl) no_kind)))))))))))))))))))))

no_name_of_two : (s : List ℕ) → Unnamed (sign_of_two s)
unfolding is_identifier
no_name_of_two s =
    unnamed (bytes_eq s (codes "||")) _ _ (other_kind BarBar refl) (unnamed (bytes_eq s (codes "&&")) _ _ (other_kind AndAnd refl) (unnamed (bytes_eq s (codes "=>")) _ _ (other_kind Implies refl) (unnamed (bytes_eq s (codes "==")) _ _ (other_kind EqualsEquals refl) (unnamed (bytes_eq s (codes "!=")) _ _ (other_kind NotEquals refl) (unnamed (bytes_eq s (codes "<=")) _ _ (other_kind LessEquals refl) (unnamed (bytes_eq s (codes ">=")) _ _ (other_kind GreaterEquals refl) (unnamed (bytes_eq s (codes "|>")) _ _ (other_kind Prepend refl) (unnamed (bytes_eq s (codes "<|")) _ _ (other_kind Append refl) (unnamed (bytes_eq s (codes "++")) _ _ (other_kind Concat refl) (unnamed (bytes_eq s (codes "->")) _ _ (other_kind Arrow refl) (unnamed (bytes_eq s (codes "<>")) _ _ (other_kind Else refl) (unnamed (bytes_eq s (codes "<<")) _ _ (other_kind Before refl) no_kind))))))))))))

no_name_of_three : (s : List ℕ) → Unnamed (sign_of_three s)
unfolding is_identifier
no_name_of_three s =
    unnamed (bytes_eq s (codes "||_")) _ _ (other_kind LeftMerge refl) no_kind

no_name : (s : List ℕ) → Unnamed (sign_kind s)
no_name s = unnamed (eqb (length s) 1) _ _ (no_name_of_one s) (unnamed (eqb (length s) 2) _ _ (no_name_of_two s) (unnamed (eqb (length s) 3) _ _ (no_name_of_three s) no_kind))

names_pass : (bytes : List ℕ) → AreNameBytes bytes → list_all is_name_byte bytes ≡ true
names_pass [] names = refl
names_pass (b ∷ bytes) names =
    and_from (is_name_byte b) (list_all is_name_byte bytes) (All-head (λ b. is_name_byte b ≡ true) b bytes names) (names_pass bytes (All-tail (λ b. is_name_byte b ≡ true) b bytes names))

name_token : {bytes : List ℕ} {kind : Kind} → IsToken bytes kind → kind ≡ Identifier → (is_name bytes ≡ true) × (kind ≡ word_kind bytes)
name_token (name_or_word {first = first} {others = others} letter names) is = (and_from (is_letter first) (list_all is_name_byte others) letter (names_pass others names), refl)
name_token zero_numeral is = absurd cc
name_token (numeral some digit digits) is = absurd cc
name_token {bytes = bytes} (sign found) is = let none = no_name bytes in absurd (none.other (found ∙ ap (λ (k : Kind). Some k) is))

-- a token that is an identifier is a name that is no word
pub identifier_named : (t : List ℕ) → IsToken t Identifier → IsIdentifier t
identifier_named t token = let parts = name_token token refl in (parts.0, sym parts.1)
