-- Tokens in front of a byte that they can't go on with.
use Rattle.std.proofs.Common.{◌≡◌, ℕ, Bool, true, false, List, [], ◌∷◌, ◌++◌, length, get_or, Option, Some, None, if◌then◌else◌, ◌⊎◌, inl, inr, refl, ap, subst, arith, codes}
use Rattle.std.specs.List.{list_all}
use Rattle.std.proofs.lemmas.Bool.{and_from}
use Rattle.std.proofs.lemmas.Bool.Decides.{nat_tests}
use Rattle.std.proofs.lemmas.List.Elements.{All-head, All-tail}
use Rattle.mcrl2_lexer.specs.declared.kind.Kind.{Kind}
use Rattle.mcrl2_lexer.specs.Words.{word_kind, sign_kind, is_letter, is_digit, is_name_byte}
use Rattle.mcrl2_lexer.specs.Tokens.{AreNameBytes, IsToken, name_or_word, zero_numeral, numeral, sign, TokenAt}
use Rattle.mcrl2_lexer.proofs.Signs.{four_are_none, letter_begins_none, digit_begins_none}
use Rattle.lps_printer.specs.Pieces.{cannot_go_on, is_not, is_none, is_quiet}
use Rattle.mcrl2_lexer.proofs.Fronts.{digit_no_letter, nothing_no_token, three_at}
use Rattle.mcrl2_lexer.proofs.Spelled.{name_front, zero_front, numeral_front, single_front, pair_front}

names_pass : (bytes : List ℕ) → AreNameBytes bytes → list_all is_name_byte bytes ≡ true
names_pass [] names = refl
names_pass (b ∷ bytes) names =
    and_from (is_name_byte b) (list_all is_name_byte bytes) (All-head (λ b. is_name_byte b ≡ true) b bytes names) (names_pass bytes (All-tail (λ b. is_name_byte b ≡ true) b bytes names))

-- a byte that no token of these bytes goes on with
pub record Stops (bytes : List ℕ) (next : ℕ) : Type 0 where
  pub name : (first : ℕ) (others : List ℕ) → bytes ≡ first ∷ others → is_letter first ≡ true → is_name_byte next ≡ false
  pub digit : (first : ℕ) (others : List ℕ) → bytes ≡ first ∷ others → is_digit first ≡ true → is_digit next ≡ false
  pub one : (a : ℕ) → bytes ≡ a ∷ [] → sign_kind (a ∷ next ∷ []) ≡ None
  pub two : (a b : ℕ) → bytes ≡ a ∷ b ∷ [] → sign_kind (a ∷ b ∷ next ∷ []) ≡ None

no_letter : (a b c : ℕ) (kind : Kind) → sign_kind (a ∷ b ∷ c ∷ []) ≡ Some kind → is_letter a ≡ false
no_letter a b c kind found = grind (arith, nat_tests)

no_digit : (a b c : ℕ) (kind : Kind) → sign_kind (a ∷ b ∷ c ∷ []) ≡ Some kind → is_digit a ≡ false
no_digit a b c kind found = grind (arith, nat_tests)

-- a sign of three bytes, in front of any byte
three_front : (a b c : ℕ) (rest : List ℕ) (kind : Kind) → sign_kind (a ∷ b ∷ c ∷ []) ≡ Some kind → TokenAt (a ∷ b ∷ c ∷ rest) 3 kind
three_front a b c rest kind found = three_at (a ∷ b ∷ c ∷ rest) kind (record { no_letter = no_letter a b c kind found; no_digit = no_digit a b c kind found }) found

pub token_front : {bytes : List ℕ} {kind : Kind} (rest : List ℕ) → IsToken bytes kind → Stops bytes (get_or rest 0 0)
    → TokenAt (bytes ++ rest) (length bytes) kind
token_front rest (name_or_word {first = first} {others = others} letter names) stops =
    name_front (first ∷ others) rest (word_kind (first ∷ others)) (and_from (is_letter first) (list_all is_name_byte others) letter (names_pass others names)) refl (stops.name first others refl letter)
token_front rest zero_numeral stops = zero_front rest
token_front rest (numeral {first = first} {others = others} some digit digits) stops = numeral_front first others rest some digit digits (stops.digit first others refl digit)
token_front {kind = kind} rest (sign {bytes = []} found) stops = absurd cc
token_front {kind = kind} rest (sign {bytes = a ∷ []} found) stops = single_front a rest kind found (stops.one a refl)
token_front {kind = kind} rest (sign {bytes = a ∷ b ∷ []} found) stops = pair_front a b rest kind found (stops.two a b refl)
token_front {kind = kind} rest (sign {bytes = a ∷ b ∷ c ∷ []} found) stops = three_front a b c rest kind found
token_front {kind = kind} rest (sign {bytes = a ∷ b ∷ c ∷ d ∷ others} found) stops = let none = four_are_none a b c d others in absurd cc

no_both : (b : Bool) → b ≡ true → b ≡ false → ⊥
no_both b e f = cc

not_true : (b : Bool) → is_not b ≡ true → b ≡ false
not_true true e = absurd cc
not_true false e = refl

none_of : (o : Option Kind) → is_none o ≡ true → o ≡ None
none_of None e = refl
none_of (Some k) e = absurd cc

three_ways : (l d x y z : Bool) → (if l then x else if d then y else z) ≡ true
    → (l ≡ true) × (x ≡ true) ⊎ (((l ≡ false) × (d ≡ true) × (y ≡ true)) ⊎ ((l ≡ false) × (d ≡ false) × (z ≡ true)))
three_ways true d x y z e = inl (refl, e)
three_ways false true x y z e = inr (inl (refl, refl, e))
three_ways false false x y z e = inr (inr (refl, refl, e))

ways : (a : ℕ) (others : List ℕ) (next : ℕ) → cannot_go_on (a ∷ others) next ≡ true
    → (is_letter a ≡ true) × (is_name_byte next ≡ false) ⊎ (((is_letter a ≡ false) × (is_digit a ≡ true) × (is_digit next ≡ false)) ⊎ ((is_letter a ≡ false) × (is_digit a ≡ false) × (sign_kind (a ∷ (others ++ next ∷ [])) ≡ None)))
ways a others next h = elim (three_ways (is_letter a) (is_digit a) (is_not (is_name_byte next)) (is_not (is_digit next)) (is_none (sign_kind (a ∷ (others ++ next ∷ [])))) h) [
  | inl w ↦ inl (w.0, not_true (is_name_byte next) w.1)
  | inr w ↦ elim w [ inl v ↦ inr (inl (v.0, v.1, not_true (is_digit next) v.2)) | inr v ↦ inr (inr (v.0, v.1, none_of (sign_kind (a ∷ (others ++ next ∷ []))) v.2)) ]
]

sign_stops : (a : ℕ) (others : List ℕ) (next : ℕ) → cannot_go_on (a ∷ others) next ≡ true → sign_kind (a ∷ (others ++ next ∷ [])) ≡ None
sign_stops a others next h = elim (ways a others next h) [
  | inl w ↦ letter_begins_none a (others ++ next ∷ []) w.0
  | inr w ↦ elim w [ inl v ↦ digit_begins_none a (others ++ next ∷ []) v.1 | inr v ↦ v.2 ]
]

letter_stops : (a : ℕ) (others : List ℕ) (next : ℕ) → cannot_go_on (a ∷ others) next ≡ true → is_letter a ≡ true → is_name_byte next ≡ false
letter_stops a others next h l = elim (ways a others next h) [
  | inl w ↦ w.1
  | inr w ↦ elim w [ inl v ↦ absurd (no_both (is_letter a) l v.0) | inr v ↦ absurd (no_both (is_letter a) l v.0) ]
]

digit_stops : (a : ℕ) (others : List ℕ) (next : ℕ) → cannot_go_on (a ∷ others) next ≡ true → is_digit a ≡ true → is_digit next ≡ false
digit_stops a others next h l = elim (ways a others next h) [
  | inl w ↦ absurd (digit_no_letter a l w.0)
  | inr w ↦ elim w [ inl v ↦ v.2 | inr v ↦ absurd (no_both (is_digit a) l v.1) ]
]

pub stops_from : (bytes : List ℕ) (next : ℕ) → cannot_go_on bytes next ≡ true → Stops bytes next
stops_from bytes next h = record {
  name = λ first rest e l. letter_stops first rest next (subst (λ (bs : List ℕ). cannot_go_on bs next ≡ true) e h) l;
  digit = λ first rest e l. digit_stops first rest next (subst (λ (bs : List ℕ). cannot_go_on bs next ≡ true) e h) l;
  one = λ b e. sign_stops b [] next (subst (λ (bs : List ℕ). cannot_go_on bs next ≡ true) e h);
  two = λ b c e. sign_stops b (c ∷ []) next (subst (λ (bs : List ℕ). cannot_go_on bs next ≡ true) e h);
}

-- Which bytes stand behind which tokens.

quiet_names : (b : ℕ) → is_quiet b ≡ true → is_name_byte b ≡ false
quiet_names b q = grind (arith, nat_tests)

quiet_digits : (b : ℕ) → is_quiet b ≡ true → is_digit b ≡ false
quiet_digits b q = grind (arith, nat_tests)

quiet_signs : (a : ℕ) (others : List ℕ) (b : ℕ) → is_quiet b ≡ true → sign_kind (a ∷ (others ++ b ∷ [])) ≡ None
quiet_signs a [] b q = grind (arith, nat_tests)
quiet_signs a (c ∷ []) b q = grind (arith, nat_tests)
quiet_signs a (c ∷ d ∷ []) b q = four_are_none a c d b []
quiet_signs a (c ∷ d ∷ e ∷ others) b q = four_are_none a c d e (others ++ b ∷ [])

each_way : (l d x y z : Bool) → x ≡ true → y ≡ true → z ≡ true → (if l then x else if d then y else z) ≡ true
each_way true d x y z e f g = e
each_way false true x y z e f g = f
each_way false false x y z e f g = g

-- white space and the signs ( ) [ ] , ; : ? go on with no token
pub quiet : {bytes : List ℕ} {kind : Kind} (next : ℕ) → IsToken bytes kind → is_quiet next ≡ true → cannot_go_on bytes next ≡ true
quiet {bytes = []} next token q = absurd (nothing_no_token token)
quiet {bytes = a ∷ others} next token q =
    each_way (is_letter a) (is_digit a) _ _ _ (ap is_not (quiet_names next q)) (ap is_not (quiet_digits next q)) (ap is_none (quiet_signs a others next q))

-- a byte that a token behind a prefix sign or behind `|` begins with: a letter, a digit, or one of ( [ ! # -
pub parens : (next : ℕ) → cannot_go_on (codes "(") next ≡ true
parens next = ap is_none (paren_signs next)
  where
    paren_signs : (b : ℕ) → sign_kind (40 ∷ b ∷ []) ≡ None
    paren_signs b = grind (arith, nat_tests)
