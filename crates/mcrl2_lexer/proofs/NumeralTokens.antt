-- What the kind of a token says of its bytes.
use Rattle.std.proofs.Common.{◌≡◌, ℕ, zero, suc, Bool, true, false, nat_eq, if◌then◌else◌, ◌<◌, List, [], ◌∷◌, Some, length, get_or, refl, arith}
use Rattle.mcrl2_lexer.specs.declared.kind.Kind.{Kind}
use Rattle.mcrl2_lexer.specs.declared.kind.Kind.TheVariants.{Numeral}
use Rattle.mcrl2_lexer.specs.Words.{word_kind, word_of_two, word_of_three, word_of_four, word_of_five, word_of_six, sign_kind, sign_of_one, is_digit}
use Rattle.mcrl2_lexer.specs.Tokens.{AreDigits, IsToken, name_or_word, zero_numeral, numeral, sign}

-- no word and no sign is a numeral
three_no_numeral : (w : List ℕ) → word_of_three w ≡ Numeral → ⊥
three_no_numeral w is = grind arith

four_no_numeral : (w : List ℕ) → word_of_four w ≡ Numeral → ⊥
four_no_numeral w is = grind arith

if_no_numeral : (test : Bool) (one other : Kind) → (one ≡ Numeral → ⊥) → (other ≡ Numeral → ⊥) → (if test then one else other) ≡ Numeral → ⊥
if_no_numeral true one other not_one not_other is = not_one is
if_no_numeral false one other not_one not_other is = not_other is

two_no_numeral : (w : List ℕ) → word_of_two w ≡ Numeral → ⊥
two_no_numeral w is = grind arith

five_no_numeral : (w : List ℕ) → word_of_five w ≡ Numeral → ⊥
five_no_numeral w is = grind arith

six_no_numeral : (w : List ℕ) → word_of_six w ≡ Numeral → ⊥
six_no_numeral w is = grind arith

word_no_numeral : (w : List ℕ) → word_kind w ≡ Numeral → ⊥
word_no_numeral w =
    if_no_numeral (nat_eq (length w) 2) _ _ (two_no_numeral w) (
    if_no_numeral (nat_eq (length w) 3) _ _ (three_no_numeral w) (
    if_no_numeral (nat_eq (length w) 4) _ _ (four_no_numeral w) (
    if_no_numeral (nat_eq (length w) 5) _ _ (five_no_numeral w) (
    if_no_numeral (nat_eq (length w) 6) _ _ (six_no_numeral w) (λ is. cc)
    )
    )
    )
    )

one_no_numeral : (s : List ℕ) → sign_of_one s ≡ Some Numeral → ⊥
one_no_numeral s is = grind arith

sign_no_numeral : (s : List ℕ) → sign_kind s ≡ Some Numeral → ⊥
sign_no_numeral s is = grind arith

digit_zero : (i d : ℕ) → i < 1 → is_digit (get_or (48 ∷ []) i d) ≡ true
digit_zero zero d inside = refl
digit_zero (suc i) d inside = absurd (omega arith)

digits_before : (first : ℕ) (others : List ℕ) → is_digit first ≡ true → AreDigits others → AreDigits (first ∷ others)
digits_before first others digit digits zero d inside = digit
digits_before first others digit digits (suc i) d inside = digits i d (omega arith)

-- a numeral has digits alone
pub numeral_digits : {bytes : List ℕ} {kind : Kind} → IsToken bytes kind → kind ≡ Numeral → AreDigits bytes
numeral_digits (name_or_word {first = first} {others = others} letter names) is = absurd (word_no_numeral (first ∷ others) is)
numeral_digits zero_numeral is = digit_zero
numeral_digits (numeral {first = first} {others = others} some digit digits) is = digits_before first others digit digits
numeral_digits (sign {bytes = bytes} {kind = kind} found) is = absurd (sign_no_numeral bytes (rw is at found))
