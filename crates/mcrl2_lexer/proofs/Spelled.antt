-- Tokens and white space at the front of a text that is written down, for those who know which bytes they wrote.
--
-- The byte behind a token is `get_or rest 0 0`, which is 0 at the end of the text and then stands for no byte.
use Rattle.std.proofs.Common.{◌≡◌, ◌≢◌, ℕ, zero, suc, ◌+◌, ◌-◌, Bool, true, false, ◌&&◌, ◌<◌, List, [], ◌∷◌, ◌++◌, Some, None, length, take, drop, get_or, length-append, length-drop, refl, ap, sym, ◌∙◌, subst, arith, add-one}
use Rattle.std.specs.List.{list_all}
use Rattle.std.proofs.Math.Seq.{take-append_seam, drop-append_seam}
use Rattle.std.proofs.lemmas.List.{get_or-append-add, drop-drop}
use Rattle.mcrl2_lexer.specs.declared.kind.Kind.{Kind}
use Rattle.mcrl2_lexer.specs.declared.kind.Kind.TheVariants.{Numeral}
use Rattle.mcrl2_lexer.specs.declared.token.Token.{Token}
use Rattle.mcrl2_lexer.specs.Words.{word_kind, sign_kind, is_letter, is_digit, is_name_byte, is_name, is_space}
use Rattle.mcrl2_lexer.specs.Tokens.{AreNameBytes, AreDigits, TokenAt}
use Rattle.mcrl2_lexer.specs.Lexing.{Lexes, nothing, after_space, after_comment, after_token}
use Rattle.mcrl2_lexer.proofs.Signs.{letter_begins_none, digit_begins_none, begins_with_two}
use Rattle.mcrl2_lexer.proofs.Fronts.{BeginsOther, name_at, numeral_at, zero_at, one_at, two_at}
use Rattle.mcrl2_lexer.proofs.Once.{first_of_rest}

byte_behind : (bytes rest : List ℕ) → get_or (bytes ++ rest) (length bytes) 0 ≡ get_or rest 0 0
byte_behind bytes rest = ap (λ (x : ℕ). get_or (bytes ++ rest) x 0) (omega arith) ∙ get_or-append-add bytes rest 0 0

both : (one other : Bool) → (one && other) ≡ true → (one ≡ true) × (other ≡ true)
both true other is = (refl, is)
both false other is = absurd cc

all_before : (b : ℕ) (bytes : List ℕ) → is_name_byte b ≡ true → AreNameBytes bytes → AreNameBytes (b ∷ bytes)
all_before b bytes here all zero d inside = here
all_before b bytes here all (suc i) d inside = all i d (omega arith)

name_bytes : (bytes : List ℕ) → list_all is_name_byte bytes ≡ true → AreNameBytes bytes
name_bytes [] pass = λ i d inside. absurd (omega (arith, inside))
name_bytes (b ∷ bytes) pass = let parts = both (is_name_byte b) (list_all is_name_byte bytes) pass in all_before b bytes parts.0 (name_bytes bytes parts.1)

-- an identifier or a word, in front of a byte that can't go on with it
pub name_front : (name rest : List ℕ) (kind : Kind) → is_name name ≡ true → kind ≡ word_kind name → is_name_byte (get_or rest 0 0) ≡ false
    → TokenAt (name ++ rest) (length name) kind
name_front [] rest kind name of_kind stops = absurd cc
name_front (first ∷ others) rest kind name of_kind stops =
    let parts = both (is_letter first) (list_all is_name_byte others) name in
    let seam : take (length others) (others ++ rest) ≡ others = take-append_seam others rest in
    name_at (first ∷ (others ++ rest)) first (others ++ rest) (length others) kind refl parts.0 (simp length-append (omega arith))
    (subst AreNameBytes (sym seam) (name_bytes others parts.1)) (λ inside. rw byte_behind stops) (rw seam of_kind)

pub zero_front : (rest : List ℕ) → TokenAt (48 ∷ rest) 1 Numeral
zero_front rest = zero_at (48 ∷ rest) 48 rest refl refl

-- a numeral other than 0, in front of a byte that is no digit
pub numeral_front : (first : ℕ) (others rest : List ℕ) → first ≢ 48 → is_digit first ≡ true → AreDigits others → is_digit (get_or rest 0 0) ≡ false
    → TokenAt ((first ∷ others) ++ rest) (length (first ∷ others)) Numeral
numeral_front first others rest some digit digits stops =
    let seam : take (length others) (others ++ rest) ≡ others = take-append_seam others rest in
    numeral_at (first ∷ (others ++ rest)) first (others ++ rest) (length others) refl some digit (simp length-append (omega arith))
    (subst AreDigits (sym seam) digits) (λ inside. rw byte_behind stops)

false_or : (test : Bool) → (test ≡ true → ⊥) → test ≡ false
false_or true never = absurd (never refl)
false_or false never = refl

begins_other : (first : ℕ) (others rest : List ℕ) (kind : Kind) → sign_kind (first ∷ others) ≡ Some kind → BeginsOther (first ∷ rest)
begins_other first others rest kind is = record {
  no_letter = false_or (is_letter first) (λ letter. let none = letter_begins_none first others letter in absurd cc);
  no_digit = false_or (is_digit first) (λ digit. let none = digit_begins_none first others digit in absurd cc);
}

-- a sign of one byte, or of two, in front of a byte that makes no longer sign of it
pub single_front : (a : ℕ) (rest : List ℕ) (kind : Kind) → sign_kind (a ∷ []) ≡ Some kind → sign_kind (a ∷ get_or rest 0 0 ∷ []) ≡ None
    → TokenAt (a ∷ rest) 1 kind
single_front a rest kind is longer = one_at (a ∷ rest) kind (begins_other a [] rest kind is) (begins_with_two a (get_or rest 0 0) (get_or rest 1 0) longer) longer is

pub pair_front : (a b : ℕ) (rest : List ℕ) (kind : Kind) → sign_kind (a ∷ b ∷ []) ≡ Some kind → sign_kind (a ∷ b ∷ get_or rest 0 0 ∷ []) ≡ None
    → TokenAt (a ∷ b ∷ rest) 2 kind
pair_front a b rest kind is longer = two_at (a ∷ b ∷ rest) kind (begins_other a (b ∷ []) (b ∷ rest) kind is) longer is

-- Reading on from a place, where the text behind it is known.
pub drop-behind : (text : List ℕ) (at : ℕ) (bytes rest : List ℕ) → drop at text ≡ bytes ++ rest → drop (at + length bytes) text ≡ rest
drop-behind text at bytes rest is = sym (drop-drop (length bytes) at text) ∙ ap (drop (length bytes)) is ∙ drop-append_seam bytes rest

pub Lexes-token : (text : List ℕ) (at to : ℕ) (bytes rest : List ℕ) (kind : Kind) (tokens : List Token) → drop at text ≡ bytes ++ rest
    → TokenAt (bytes ++ rest) (length bytes) kind → Lexes text (at + length bytes) tokens to
    → Lexes text at (record { kind = kind; start = at; end = at + length bytes } ∷ tokens) to
Lexes-token text at to bytes rest kind tokens is token lexes =
    let some : 0 < length bytes = token.some in
    let size : length bytes ≡ (at + length bytes) - at = omega arith in
    let here : TokenAt (drop at text) (length bytes) kind = rw is token in
    after_token refl (omega arith) (subst (λ (x : ℕ). TokenAt (drop at text) x kind) size here) lexes

pub Lexes-space : (text : List ℕ) (at to b : ℕ) (rest : List ℕ) (tokens : List Token) → drop at text ≡ b ∷ rest → is_space b ≡ true
    → Lexes text (at + 1) tokens to → Lexes text at tokens to
Lexes-space text at to b rest tokens is space lexes =
    let size : length text - at ≡ suc (length rest) = sym (length-drop at text) ∙ ap length is in
    let here : get_or text at 0 ≡ b = sym (first_of_rest text at) ∙ ap (λ (x : List ℕ). get_or x 0 0) is in
    after_space (omega (arith, size)) (rw here space) (rw (← add-one) lexes)

-- one reading behind another
pub Lexes-append : {text : List ℕ} {at middle to : ℕ} {tokens more : List Token} → Lexes text at tokens middle → Lexes text middle more to
    → Lexes text at (tokens ++ more) to
Lexes-append nothing lexes = lexes
Lexes-append (after_space inside space rest) lexes = after_space inside space (Lexes-append rest lexes)
Lexes-append (after_comment some comment rest) lexes = after_comment some comment (Lexes-append rest lexes)
Lexes-append (after_token start some longest rest) lexes = after_token start some longest (Lexes-append rest lexes)
