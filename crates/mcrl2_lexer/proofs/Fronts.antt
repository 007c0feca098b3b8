-- The token at the front of a text, by its first byte.
use Rattle.std.proofs.Common.{◌≡◌, ◌≢◌, ℕ, zero, suc, ◌+◌, true, false, ◌<◌, ◌≤◌, List, [], ◌∷◌, Some, None, length, take, get_or, length-take, min, one-add, refl, ap, sym, ◌∙◌, subst, arith}
use Rattle.std.proofs.lemmas.Bool.Decides.{nat_tests}
use Rattle.std.proofs.lemmas.List.{take_min}
use Rattle.mcrl2_lexer.specs.declared.kind.Kind.{Kind}
use Rattle.mcrl2_lexer.specs.declared.kind.Kind.TheVariants.{Numeral}
use Rattle.mcrl2_lexer.specs.Words.{word_kind, sign_kind, is_letter, is_digit, is_name_byte}
use Rattle.mcrl2_lexer.specs.Tokens.{AreNameBytes, AreDigits, BeginsNoToken, IsToken, name_or_word, zero_numeral, numeral, sign, TokenAt}
use Rattle.mcrl2_lexer.proofs.Runs.{le-stop}
use Rattle.mcrl2_lexer.proofs.Signs.{letter_begins_none, digit_begins_none, second_zero, third_zero, four_are_none}

pub digit_no_letter : (b : ℕ) → is_digit b ≡ true → is_letter b ≡ true → ⊥
digit_no_letter b digit letter = grind (arith, nat_tests)

-- no token is empty
pub nothing_no_token : {kind : Kind} → IsToken [] kind → ⊥
nothing_no_token (sign is) = absurd cc

-- what the first byte of a token says of the others
pub of_letter : {first : ℕ} {others : List ℕ} {kind : Kind} → IsToken (first ∷ others) kind → is_letter first ≡ true → AreNameBytes others
of_letter (name_or_word letter names) is = names
of_letter zero_numeral is = absurd cc
of_letter {first = first} (numeral some digit digits) is = absurd (digit_no_letter first digit is)
of_letter {first = first} {others = others} (sign found) is = let none = letter_begins_none first others is in absurd cc

pub of_digit : {first : ℕ} {others : List ℕ} {kind : Kind} → IsToken (first ∷ others) kind → is_digit first ≡ true → AreDigits others × (first ≡ 48 → others ≡ [])
of_digit {first = first} (name_or_word letter names) is = absurd (digit_no_letter first is letter)
of_digit zero_numeral is = (λ i d inside. absurd (omega (arith, inside)), λ z. refl)
of_digit (numeral some digit digits) is = (digits, λ z. absurd (some z))
of_digit {first = first} {others = others} (sign found) is = let none = digit_begins_none first others is in absurd cc

pub of_other : {first : ℕ} {others : List ℕ} {kind : Kind} → IsToken (first ∷ others) kind → is_letter first ≡ false → is_digit first ≡ false
    → sign_kind (first ∷ others) ≡ Some kind
of_other (name_or_word letter names) no_letter no_digit = absurd cc
of_other zero_numeral no_letter no_digit = absurd cc
of_other (numeral some digit digits) no_letter no_digit = absurd cc
of_other (sign found) no_letter no_digit = found

-- An identifier or a word.
longest_name : (first : ℕ) (others : List ℕ) (n : ℕ) → is_letter first ≡ true → (n < length others → is_name_byte (get_or others n 0) ≡ false)
    → (m : ℕ) (kind : Kind) → m ≤ length (first ∷ others) → IsToken (take m (first ∷ others)) kind → m ≤ suc n
longest_name first others n letter stops zero kind within token = omega arith
longest_name first others n letter stops (suc m) kind within token =
    let le : m ≤ n = le-stop is_name_byte others m n (of_letter token letter) stops (omega arith) in omega arith

pub name_at : (text : List ℕ) (first : ℕ) (others : List ℕ) (n : ℕ) (kind : Kind) → text ≡ first ∷ others → is_letter first ≡ true → n ≤ length others
    → AreNameBytes (take n others) → (n < length others → is_name_byte (get_or others n 0) ≡ false) → kind ≡ word_kind (first ∷ take n others)
    → TokenAt text (suc n) kind
name_at text first others n kind is letter within names stops of_kind =
    rw (is, of_kind) (record { some = omega arith; within = omega arith; token = name_or_word letter names; longest = longest_name first others n letter stops })

-- A numeral.
longest_numeral : (first : ℕ) (others : List ℕ) (n : ℕ) → is_digit first ≡ true → (n < length others → is_digit (get_or others n 0) ≡ false)
    → (m : ℕ) (kind : Kind) → m ≤ length (first ∷ others) → IsToken (take m (first ∷ others)) kind → m ≤ suc n
longest_numeral first others n digit stops zero kind within token = omega arith
longest_numeral first others n digit stops (suc m) kind within token =
    let le : m ≤ n = le-stop is_digit others m n (of_digit token digit).0 stops (omega arith) in omega arith

pub numeral_at : (text : List ℕ) (first : ℕ) (others : List ℕ) (n : ℕ) → text ≡ first ∷ others → first ≢ 48 → is_digit first ≡ true → n ≤ length others
    → AreDigits (take n others) → (n < length others → is_digit (get_or others n 0) ≡ false) → TokenAt text (suc n) Numeral
numeral_at text first others n is some digit within digits stops =
    rw is (record { some = omega arith; within = omega arith; token = numeral some digit digits; longest = longest_numeral first others n digit stops })

take_none : (m : ℕ) (bytes : List ℕ) → m ≤ length bytes → take m bytes ≡ [] → m ≤ 0
take_none m bytes within is = let size : length (take m bytes) ≡ 0 = ap length is in omega (arith, length-take m bytes, size)

longest_zero : (others : List ℕ) (m : ℕ) (kind : Kind) → m ≤ length (48 ∷ others) → IsToken (take m (48 ∷ others)) kind → m ≤ 1
longest_zero others zero kind within token = omega arith
longest_zero others (suc m) kind within token = let le : m ≤ 0 = take_none m others (omega arith) ((of_digit token refl).1 refl) in omega arith

pub zero_at : (text : List ℕ) (first : ℕ) (others : List ℕ) → text ≡ first ∷ others → first ≡ 48 → TokenAt text 1 Numeral
zero_at text first others is zero_digit = rw (is, zero_digit) (record { some = omega arith; within = omega arith; token = zero_numeral; longest = longest_zero others })

-- A sign.

-- which fronts of a text are signs, by its first three bytes
pub record SignFronts (text : List ℕ) (m : ℕ) (kind : Kind) : Type 0 where
  pub short : m ≤ 3
  pub some : 0 < m
  pub one : m ≡ 1 → sign_kind (get_or text 0 0 ∷ []) ≡ Some kind
  pub two : m ≡ 2 → sign_kind (get_or text 0 0 ∷ get_or text 1 0 ∷ []) ≡ Some kind
  pub three : m ≡ 3 → sign_kind (get_or text 0 0 ∷ get_or text 1 0 ∷ get_or text 2 0 ∷ []) ≡ Some kind

pub sign_fronts : (text : List ℕ) (m : ℕ) (kind : Kind) → m ≤ length text → sign_kind (take m text) ≡ Some kind → SignFronts text m kind
sign_fronts text zero kind within is = absurd cc
sign_fronts [] (suc m) kind within is = absurd (omega arith)
sign_fronts (a ∷ bs) (suc zero) kind within is = record { short = omega arith; some = omega arith; one = λ _. is; two = λ e. absurd (omega arith); three = λ e. absurd (omega arith) }
sign_fronts (a ∷ []) (suc (suc m)) kind within is = absurd (omega arith)
sign_fronts (a ∷ b ∷ bs) (suc (suc zero)) kind within is = record { short = omega arith; some = omega arith; one = λ e. absurd (omega arith); two = λ _. is; three = λ e. absurd (omega arith) }
sign_fronts (a ∷ b ∷ []) (suc (suc (suc m))) kind within is = absurd (omega arith)
sign_fronts (a ∷ b ∷ c ∷ bs) (suc (suc (suc zero))) kind within is = record { short = omega arith; some = omega arith; one = λ e. absurd (omega arith); two = λ e. absurd (omega arith); three = λ _. is }
sign_fronts (a ∷ b ∷ c ∷ []) (suc (suc (suc (suc m)))) kind within is = absurd (omega arith)
sign_fronts (a ∷ b ∷ c ∷ d ∷ bs) (suc (suc (suc (suc m)))) kind within is = let none = four_are_none a b c d (take m bs) in absurd cc

-- a token that begins with neither a letter nor a digit is a sign
token_is_sign : (text : List ℕ) (m : ℕ) (kind : Kind) → is_letter (get_or text 0 0) ≡ false → is_digit (get_or text 0 0) ≡ false → IsToken (take m text) kind
    → sign_kind (take m text) ≡ Some kind
token_is_sign text zero kind no_letter no_digit token = absurd (nothing_no_token token)
token_is_sign [] (suc m) kind no_letter no_digit token = absurd (nothing_no_token token)
token_is_sign (first ∷ others) (suc m) kind no_letter no_digit token = of_other token no_letter no_digit

-- the first byte of a text, where it begins neither a name nor a numeral
pub record BeginsOther (text : List ℕ) : Type 0 where
  pub no_letter : is_letter (get_or text 0 0) ≡ false
  pub no_digit : is_digit (get_or text 0 0) ≡ false

token_fronts : (text : List ℕ) → BeginsOther text → (m : ℕ) (kind : Kind) → m ≤ length text → IsToken (take m text) kind → SignFronts text m kind
token_fronts text other m kind within token = sign_fronts text m kind within (token_is_sign text m kind other.no_letter other.no_digit token)

three_within : (text : List ℕ) (kind : Kind) → sign_kind (get_or text 0 0 ∷ get_or text 1 0 ∷ get_or text 2 0 ∷ []) ≡ Some kind
    → (3 ≤ length text) × IsToken (take 3 text) kind
three_within [] kind is = let none = third_zero 0 0 in absurd cc
three_within (a ∷ []) kind is = let none = third_zero a 0 in absurd cc
three_within (a ∷ b ∷ []) kind is = let none = third_zero a b in absurd cc
three_within (a ∷ b ∷ c ∷ others) kind is = (omega arith, sign is)

two_within : (text : List ℕ) (kind : Kind) → sign_kind (get_or text 0 0 ∷ get_or text 1 0 ∷ []) ≡ Some kind → (2 ≤ length text) × IsToken (take 2 text) kind
two_within [] kind is = let none = second_zero 0 in absurd cc
two_within (a ∷ []) kind is = let none = second_zero a in absurd cc
two_within (a ∷ b ∷ others) kind is = (omega arith, sign is)

one_within : (text : List ℕ) (kind : Kind) → sign_kind (get_or text 0 0 ∷ []) ≡ Some kind → (1 ≤ length text) × IsToken (take 1 text) kind
one_within [] kind is = absurd cc
one_within (a ∷ others) kind is = (omega arith, sign is)

pub three_at : (text : List ℕ) (kind : Kind) → BeginsOther text → sign_kind (get_or text 0 0 ∷ get_or text 1 0 ∷ get_or text 2 0 ∷ []) ≡ Some kind → TokenAt text 3 kind
three_at text kind other is = record {
  some = omega arith;
  within = (three_within text kind is).0;
  token = (three_within text kind is).1;
  longest = λ m k within token. (token_fronts text other m k within token).short;
}

-- The fronts of a text that may be signs, where the longer ones are none.
not_three : (text : List ℕ) → BeginsOther text → sign_kind (get_or text 0 0 ∷ get_or text 1 0 ∷ get_or text 2 0 ∷ []) ≡ None
    → (m : ℕ) (kind : Kind) → m ≤ length text → IsToken (take m text) kind → m ≤ 2
not_three text other none m kind within token =
    let fronts = token_fronts text other m kind within token in
    let no : m ≡ 3 → ⊥ = λ e. let is = fronts.three e in absurd cc in
    omega (arith, fronts.short, no)

not_two : (text : List ℕ) → BeginsOther text → sign_kind (get_or text 0 0 ∷ get_or text 1 0 ∷ get_or text 2 0 ∷ []) ≡ None
    → sign_kind (get_or text 0 0 ∷ get_or text 1 0 ∷ []) ≡ None → (m : ℕ) (kind : Kind) → m ≤ length text → IsToken (take m text) kind → m ≤ 1
not_two text other none_of_three none m kind within token =
    let fronts = token_fronts text other m kind within token in
    let le : m ≤ 2 = not_three text other none_of_three m kind within token in
    let no : m ≡ 2 → ⊥ = λ e. let is = fronts.two e in absurd cc in
    omega (arith, le, no)

pub two_at : (text : List ℕ) (kind : Kind) → BeginsOther text → sign_kind (get_or text 0 0 ∷ get_or text 1 0 ∷ get_or text 2 0 ∷ []) ≡ None
    → sign_kind (get_or text 0 0 ∷ get_or text 1 0 ∷ []) ≡ Some kind → TokenAt text 2 kind
two_at text kind other none is = record { some = omega arith; within = (two_within text kind is).0; token = (two_within text kind is).1; longest = not_three text other none }

pub one_at : (text : List ℕ) (kind : Kind) → BeginsOther text → sign_kind (get_or text 0 0 ∷ get_or text 1 0 ∷ get_or text 2 0 ∷ []) ≡ None
    → sign_kind (get_or text 0 0 ∷ get_or text 1 0 ∷ []) ≡ None → sign_kind (get_or text 0 0 ∷ []) ≡ Some kind → TokenAt text 1 kind
one_at text kind other none_of_three none is = record { some = omega arith; within = (one_within text kind is).0; token = (one_within text kind is).1; longest = not_two text other none_of_three none }

none_within : (text : List ℕ) → BeginsOther text → sign_kind (get_or text 0 0 ∷ get_or text 1 0 ∷ get_or text 2 0 ∷ []) ≡ None
    → sign_kind (get_or text 0 0 ∷ get_or text 1 0 ∷ []) ≡ None → sign_kind (get_or text 0 0 ∷ []) ≡ None
    → (m : ℕ) (kind : Kind) → m ≤ length text → IsToken (take m text) kind → ⊥
none_within text other none_of_three none_of_two none m kind within token =
    let fronts = token_fronts text other m kind within token in
    let le : m ≤ 1 = not_two text other none_of_three none_of_two m kind within token in
    let one : m ≡ 1 = omega (arith, le, fronts.some) in
    let is = fronts.one one in cc

pub none_at : (text : List ℕ) → BeginsOther text → sign_kind (get_or text 0 0 ∷ get_or text 1 0 ∷ get_or text 2 0 ∷ []) ≡ None
    → sign_kind (get_or text 0 0 ∷ get_or text 1 0 ∷ []) ≡ None → sign_kind (get_or text 0 0 ∷ []) ≡ None → BeginsNoToken text
none_at text other none_of_three none_of_two none n kind token =
    none_within text other none_of_three none_of_two none (min n (length text)) kind (omega arith) (subst (λ (x : List ℕ). IsToken x kind) (sym (take_min n text)) token)

-- the same with the length that the code counts
pub name_counted : (text : List ℕ) (first : ℕ) (others : List ℕ) (n : ℕ) (kind : Kind) → text ≡ first ∷ others → is_letter first ≡ true → n ≤ length others
    → AreNameBytes (take n others) → (n < length others → is_name_byte (get_or others n 0) ≡ false) → kind ≡ word_kind (take (1 + n) text)
    → TokenAt text (1 + n) kind
name_counted text first others n kind is letter within names stops of_kind =
    rw one-add (name_at text first others n kind is letter within names stops (
    of_kind ∙ ap (λ (x : ℕ). word_kind (take x text)) (one-add n) ∙ ap (λ (x : List ℕ). word_kind (take (suc n) x)) is
    ))
