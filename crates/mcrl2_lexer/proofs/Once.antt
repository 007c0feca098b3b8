-- At a place of a text stands one thing at most: white space, a comment, or a token of one kind.
use Rattle.std.proofs.Common.{◌≡◌, ◌≢◌, ℕ, zero, suc, true, ◌<◌, ◌≤◌, List, [], ◌∷◌, length, take, drop, get_or, get_or-take, length-take, refl, ap, sym, ◌∙◌, subst, arith}
use Rattle.std.proofs.lemmas.Bool.Decides.{nat_tests}
use Rattle.std.proofs.lemmas.List.{get_or-drop}
use Rattle.mcrl2_lexer.specs.declared.kind.Kind.{Kind}
use Rattle.mcrl2_lexer.specs.Words.{is_space}
use Rattle.mcrl2_lexer.specs.Tokens.{IsToken, name_or_word, zero_numeral, numeral, sign, TokenAt, IsComment, percent, CommentAt}
use Rattle.mcrl2_lexer.proofs.Signs.{letter_begins_none, digit_begins_none, space_begins_none, percent_begins_none}
use Rattle.mcrl2_lexer.proofs.Fronts.{digit_no_letter, nothing_no_token}

-- the same bytes are a token of one kind
kind_once : {bytes : List ℕ} {one other : Kind} → IsToken bytes one → IsToken bytes other → one ≡ other
kind_once (name_or_word letter names) (name_or_word again more) = refl
kind_once (name_or_word letter names) zero_numeral = absurd cc
kind_once (name_or_word {first = first} letter names) (numeral some digit digits) = absurd (digit_no_letter first digit letter)
kind_once (name_or_word {first = first} {others = others} letter names) (sign found) = let none = letter_begins_none first others letter in absurd cc
kind_once zero_numeral (name_or_word letter names) = absurd cc
kind_once zero_numeral zero_numeral = refl
kind_once zero_numeral (numeral some digit digits) = refl
kind_once zero_numeral (sign found) = let none = digit_begins_none 48 [] refl in absurd cc
kind_once (numeral {first = first} some digit digits) (name_or_word letter names) = absurd (digit_no_letter first digit letter)
kind_once (numeral some digit digits) zero_numeral = refl
kind_once (numeral some digit digits) (numeral again more further) = refl
kind_once (numeral {first = first} {others = others} some digit digits) (sign found) = let none = digit_begins_none first others digit in absurd cc
kind_once (sign found) (name_or_word {first = first} {others = others} letter names) = let none = letter_begins_none first others letter in absurd cc
kind_once (sign found) zero_numeral = let none = digit_begins_none 48 [] refl in absurd cc
kind_once (sign found) (numeral {first = first} {others = others} some digit digits) = let none = digit_begins_none first others digit in absurd cc
kind_once (sign found) (sign again) = let same = sym found ∙ again in cc

-- the longest token at a place has one length and one kind
pub token_once : {text : List ℕ} {n m : ℕ} {one other : Kind} → TokenAt text n one → TokenAt text m other → (n ≡ m) × (one ≡ other)
token_once {text = text} {n = n} {m = m} {one = one} {other = other} first second =
    let below : m ≤ n = first.longest m other second.within second.token in
    let above : n ≤ m = second.longest n one first.within first.token in
    let size : n ≡ m = omega (arith, below, above) in
    (size, kind_once first.token (subst (λ (x : ℕ). IsToken (take x text) other) (sym size) second.token))

-- what the first byte of a token isn't
token_no_space : {first : ℕ} {others : List ℕ} {kind : Kind} → IsToken (first ∷ others) kind → is_space first ≡ true → ⊥
token_no_space (name_or_word letter names) space = grind (arith, nat_tests)
token_no_space zero_numeral space = absurd cc
token_no_space (numeral some digit digits) space = grind (arith, nat_tests)
token_no_space {first = first} {others = others} (sign found) space = let none = space_begins_none first others space in cc

token_no_percent : {others : List ℕ} {kind : Kind} → IsToken (37 ∷ others) kind → ⊥
token_no_percent (name_or_word letter names) = absurd cc
token_no_percent (numeral some digit digits) = absurd cc
token_no_percent {others = others} (sign found) = let none = percent_begins_none others in cc

pub space_no_token : (text : List ℕ) (n : ℕ) (kind : Kind) → is_space (get_or text 0 0) ≡ true → TokenAt text n kind → ⊥
space_no_token text zero kind space token = omega (arith, token.some)
space_no_token [] (suc n) kind space token = nothing_no_token token.token
space_no_token (first ∷ others) (suc n) kind space token = token_no_space token.token space

pub percent_no_token : (text : List ℕ) (n : ℕ) (kind : Kind) → get_or text 0 0 ≡ 37 → TokenAt text n kind → ⊥
percent_no_token text zero kind is token = omega (arith, token.some)
percent_no_token [] (suc n) kind is token = nothing_no_token token.token
percent_no_token (first ∷ others) (suc n) kind is token = token_no_percent (subst (λ (x : ℕ). IsToken (x ∷ take n others) kind) is token.token)

-- A comment begins with %, and goes as far as to the line feed.
begins : {bytes : List ℕ} → IsComment bytes → get_or bytes 0 0 ≡ 37
begins (percent others) = refl

no_line_feed : {bytes : List ℕ} → IsComment bytes → (i : ℕ) → i < length bytes → get_or bytes i 0 ≢ 10
no_line_feed (percent others) zero inside = λ is. absurd (omega (arith, is))
no_line_feed (percent others) (suc i) inside = others i 0 (omega arith)

pub comment_percent : (text : List ℕ) (n : ℕ) → CommentAt text n → get_or text 0 0 ≡ 37
comment_percent text n comment = sym (get_or-take n text 0 0 comment.some) ∙ begins comment.comment

comment_no_shorter : (text : List ℕ) (n m : ℕ) → CommentAt text n → CommentAt text m → n < m → ⊥
comment_no_shorter text n m short long less =
    let inside : n < length (take m text) = simp length-take (omega (arith, long.within)) in
    let feed : get_or text n 0 ≡ 10 = short.ends (omega (arith, long.within)) in
    no_line_feed long.comment n inside (get_or-take m text n 0 less ∙ feed)

pub comment_once : (text : List ℕ) (n m : ℕ) → CommentAt text n → CommentAt text m → n ≡ m
comment_once text n m one other =
    let below = comment_no_shorter text n m one other in
    let above = comment_no_shorter text m n other one in
    omega (arith, below, above)

pub first_of_rest : (text : List ℕ) (at : ℕ) → get_or (drop at text) 0 0 ≡ get_or text at 0
first_of_rest text at = get_or-drop at text 0 0 ∙ ap (λ (x : ℕ). get_or text x 0) (omega arith)
