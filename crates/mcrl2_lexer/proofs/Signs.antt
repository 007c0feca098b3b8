-- Which bytes are a sign.
use Rattle.std.proofs.Common.{◌≡◌, ℕ, true, List, [], ◌∷◌, None, arith}
use Rattle.std.proofs.lemmas.Bool.Decides.{nat_tests}
use Rattle.mcrl2_lexer.specs.Words.{sign_kind, is_letter, is_digit, is_space}

-- a sign has three bytes at most
pub four_are_none : (a b c d : ℕ) (others : List ℕ) → sign_kind (a ∷ b ∷ c ∷ d ∷ others) ≡ None
four_are_none a b c d others = grind (arith, nat_tests)

pub letter_begins_none : (first : ℕ) (others : List ℕ) → is_letter first ≡ true → sign_kind (first ∷ others) ≡ None
letter_begins_none a [] letter = grind (arith, nat_tests)
letter_begins_none a (b ∷ []) letter = grind (arith, nat_tests)
letter_begins_none a (b ∷ c ∷ []) letter = grind (arith, nat_tests)
letter_begins_none a (b ∷ c ∷ d ∷ others) letter = four_are_none a b c d others

pub digit_begins_none : (first : ℕ) (others : List ℕ) → is_digit first ≡ true → sign_kind (first ∷ others) ≡ None
digit_begins_none a [] digit = grind (arith, nat_tests)
digit_begins_none a (b ∷ []) digit = grind (arith, nat_tests)
digit_begins_none a (b ∷ c ∷ []) digit = grind (arith, nat_tests)
digit_begins_none a (b ∷ c ∷ d ∷ others) digit = four_are_none a b c d others

pub space_begins_none : (first : ℕ) (others : List ℕ) → is_space first ≡ true → sign_kind (first ∷ others) ≡ None
space_begins_none a [] space = grind (arith, nat_tests)
space_begins_none a (b ∷ []) space = grind (arith, nat_tests)
space_begins_none a (b ∷ c ∷ []) space = grind (arith, nat_tests)
space_begins_none a (b ∷ c ∷ d ∷ others) space = four_are_none a b c d others

pub percent_begins_none : (others : List ℕ) → sign_kind (37 ∷ others) ≡ None
percent_begins_none [] = grind (arith, nat_tests)
percent_begins_none (b ∷ []) = grind (arith, nat_tests)
percent_begins_none (b ∷ c ∷ []) = grind (arith, nat_tests)
percent_begins_none (b ∷ c ∷ d ∷ others) = four_are_none 37 b c d others

-- no sign has the byte 0
pub second_zero : (a : ℕ) → sign_kind (a ∷ 0 ∷ []) ≡ None
second_zero a = grind (arith, nat_tests)

pub third_zero : (a b : ℕ) → sign_kind (a ∷ b ∷ 0 ∷ []) ≡ None
third_zero a b = grind (arith, nat_tests)

-- a sign of three bytes begins with one of two bytes
pub begins_with_two : (a b c : ℕ) → sign_kind (a ∷ b ∷ []) ≡ None → sign_kind (a ∷ b ∷ c ∷ []) ≡ None
begins_with_two a b c none = grind (arith, nat_tests)
