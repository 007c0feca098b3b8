-- The pieces that are printed for an expression stand apart.
use Rattle.std.proofs.Common.{◌≡◌, ◌≢◌, ℕ, ◌<◌, ◌^◌, ◌||◌, Bool, true, false, nat_eq, List, [], ◌∷◌, ◌++◌, get_or, codes, None, refl, ap, sym, subst, arith}
use Rattle.std.specs.Fmt.{decimal}
use Rattle.std.specs.List.{list_all}
use Rattle.std.proofs.lemmas.Bool.{and_parts}
use Rattle.std.proofs.lemmas.Bool.Decides.{nat_tests}
use Rattle.std.proofs.lemmas.List.Elements.{All-nil, All-cons}
use Rattle.mcrl2_lexer.specs.declared.kind.Kind.{Kind}
use Rattle.mcrl2_lexer.specs.declared.kind.Kind.TheVariants as kind_
use Rattle.mcrl2_lexer.specs.Words.{is_name, is_space, is_letter, is_digit, is_name_byte, sign_kind, word_kind, is_left_out}
use Rattle.mcrl2_lexer.specs.Tokens.{IsToken, AreNameBytes, name_or_word, sign}
use Rattle.mcrl2_syntax.specs.declared.data_tree.PrefixSign.{PrefixSign}
use Rattle.mcrl2_syntax.specs.declared.data_tree.PrefixSign.TheVariants.{Not, Negate, Size}
use Rattle.mcrl2_syntax.specs.declared.data_tree.InfixSign.{InfixSign}
use Rattle.mcrl2_syntax.specs.declared.data_tree.InfixSign.TheVariants.{Implies, Or, And, Equal, NotEqual, Less, LessEqual, Greater, GreaterEqual, In, Prepend, Append, Concat, Add, Subtract, Div, Mod, Multiply, At}
use Rattle.sort_table.specs.BareData.{prefix_text, infix_text}
use Rattle.lps_printer.specs.Pieces.{Piece, bytes_of, IsPiece, cannot_go_on, is_none, is_quiet, StandApart}
use Rattle.lps_printer.specs.PrintedExpressions.{Expression, Expressions, named, true_, false_, listed, applied, prefix, binary, none, more}
use Rattle.lps_printer.specs.PrintedExpressions as form
use Rattle.lps_printer.specs.DataLayout.{infix_kind, prefix_kind, piece, space, needs_brackets, right_needs, operand, print, print_more, IsIdentifier, IsSpellable, AreSpellable}
use Rattle.lps_printer.proofs.Fronts.{quiet}
use Rattle.lps_printer.proofs.Numerals.{value_of-decimal, first_digit, digits_token}

-- the first byte of pieces
abbrev pub first : List Piece → List ℕ → ℕ
first ps end = get_or (bytes_of ps end) 0 0

-- pieces behind which stands a byte that goes on with no token
pub record Ends (rest : List Piece) (end : List ℕ) : Type 0 where
  pub apart : StandApart rest end
  pub quiet_ : is_quiet (first rest end) ≡ true

abbrev pub IsGap : List ℕ → Type 0
IsGap gap = list_all is_space gap ≡ true

-- single pieces

pub plain_piece : {gap : List ℕ} {kind : Kind} {bytes : List ℕ} → IsGap gap → IsToken bytes kind → is_left_out kind ≡ false → kind ≢ kind_.Numeral → IsPiece (piece gap kind bytes)
plain_piece g t k o = record { spaces = g; token = t; kept = k; fits = λ e. absurd (o e) }

number_piece : {gap : List ℕ} {n : ℕ} → IsGap gap → n < 2 ^ 128 → IsPiece (piece gap kind_.Numeral (decimal n))
number_piece {n = n} g lt = record { spaces = g; token = digits_token n lt; kept = refl; fits = λ e. subst (λ (m : ℕ). m < 2 ^ 128) (sym (value_of-decimal n lt)) lt }

name_bytes : (bytes : List ℕ) → list_all is_name_byte bytes ≡ true → AreNameBytes bytes
name_bytes [] h = All-nil (λ c. is_name_byte c ≡ true)
name_bytes (b ∷ bytes) h = let p = and_parts (is_name_byte b) (list_all is_name_byte bytes) h in All-cons (λ c. is_name_byte c ≡ true) b bytes p.0 (name_bytes bytes p.1)

pub word_token : (x : List ℕ) → is_name x ≡ true → IsToken x (word_kind x)
word_token [] h = absurd cc
word_token (b ∷ x) h = let p = and_parts (is_letter b) (list_all is_name_byte x) h in name_or_word p.0 (name_bytes x p.1)

pub identifier_token : (x : List ℕ) → IsIdentifier x → IsToken x kind_.Identifier
identifier_token x h = subst (λ (k : Kind). IsToken x k) h.1 (word_token x h.0)

pub name_piece : {gap : List ℕ} {x : List ℕ} → IsGap gap → IsIdentifier x → IsPiece (piece gap kind_.Identifier x)
name_piece {x = x} g h = plain_piece g (identifier_token x h) refl (λ e. cc)

record InfixPiece (s : InfixSign) : Type 0 where
  token : IsToken (infix_text s) (infix_kind s)
  kept : is_left_out (infix_kind s) ≡ false
  other : infix_kind s ≢ kind_.Numeral

infix_piece : (s : InfixSign) → InfixPiece s
infix_piece Implies = record { token = sign refl; kept = refl; other = λ e. cc }
infix_piece Or = record { token = sign refl; kept = refl; other = λ e. cc }
infix_piece And = record { token = sign refl; kept = refl; other = λ e. cc }
infix_piece Equal = record { token = sign refl; kept = refl; other = λ e. cc }
infix_piece NotEqual = record { token = sign refl; kept = refl; other = λ e. cc }
infix_piece Less = record { token = sign refl; kept = refl; other = λ e. cc }
infix_piece LessEqual = record { token = sign refl; kept = refl; other = λ e. cc }
infix_piece Greater = record { token = sign refl; kept = refl; other = λ e. cc }
infix_piece GreaterEqual = record { token = sign refl; kept = refl; other = λ e. cc }
infix_piece In = record { token = word_token (codes "in") refl; kept = refl; other = λ e. cc }
infix_piece Prepend = record { token = sign refl; kept = refl; other = λ e. cc }
infix_piece Append = record { token = sign refl; kept = refl; other = λ e. cc }
infix_piece Concat = record { token = sign refl; kept = refl; other = λ e. cc }
infix_piece Add = record { token = sign refl; kept = refl; other = λ e. cc }
infix_piece Subtract = record { token = sign refl; kept = refl; other = λ e. cc }
infix_piece Div = record { token = word_token (codes "div") refl; kept = refl; other = λ e. cc }
infix_piece Mod = record { token = word_token (codes "mod") refl; kept = refl; other = λ e. cc }
infix_piece Multiply = record { token = sign refl; kept = refl; other = λ e. cc }
infix_piece At = record { token = sign refl; kept = refl; other = λ e. cc }

record PrefixPiece (s : PrefixSign) : Type 0 where
  token : IsToken (prefix_text s) (prefix_kind s)
  kept : is_left_out (prefix_kind s) ≡ false
  other : prefix_kind s ≢ kind_.Numeral

prefix_piece : (s : PrefixSign) → PrefixPiece s
prefix_piece Not = record { token = sign refl; kept = refl; other = λ e. cc }
prefix_piece Negate = record { token = sign refl; kept = refl; other = λ e. cc }
prefix_piece Size = record { token = sign refl; kept = refl; other = λ e. cc }

-- a piece in front of others

pub in_front : {p : Piece} {rest : List Piece} {end : List ℕ} → IsPiece p → Ends rest end → StandApart (p ∷ rest) end
in_front {rest = rest} {end = end} ok e = (ok, quiet (first rest end) ok.token e.quiet_, e.apart)

-- ( and [ go on with nothing
pub open_paren : (next : ℕ) → cannot_go_on (codes "(") next ≡ true
open_paren next = let none_ : sign_kind (40 ∷ next ∷ []) ≡ None = grind (arith, nat_tests) in ap is_none none_

open_bracket : (next : ℕ) → cannot_go_on (codes "[") next ≡ true
open_bracket next = let none_ : sign_kind (91 ∷ next ∷ []) ≡ None = grind (arith, nat_tests) in ap is_none none_

pub after_paren : {gap : List ℕ} (rest : List Piece) (end : List ℕ) → IsGap gap → StandApart rest end → StandApart (piece gap kind_.LeftParen (codes "(") ∷ rest) end
after_paren rest end g s = (plain_piece g (sign refl) refl (λ e. cc), open_paren (first rest end), s)

pub after_bracket : {gap : List ℕ} (rest : List Piece) (end : List ℕ) → IsGap gap → StandApart rest end → StandApart (piece gap kind_.LeftBracket (codes "[") ∷ rest) end
after_bracket rest end g s = (plain_piece g (sign refl) refl (λ e. cc), open_bracket (first rest end), s)

-- the bytes with which an operand begins
abbrev is_start : ℕ → Bool
is_start b = is_letter b || is_digit b || nat_eq b 40 || nat_eq b 91 || nat_eq b 33 || nat_eq b 45 || nat_eq b 35

not_before : (b : ℕ) → is_start b ≡ true → sign_kind (33 ∷ b ∷ []) ≡ None
not_before b h = grind (arith, nat_tests)

minus_before : (b : ℕ) → is_start b ≡ true → sign_kind (45 ∷ b ∷ []) ≡ None
minus_before b h = grind (arith, nat_tests)

size_before : (b : ℕ) → is_start b ≡ true → sign_kind (35 ∷ b ∷ []) ≡ None
size_before b h = grind (arith, nat_tests)

prefix_before : (s : PrefixSign) (b : ℕ) → is_start b ≡ true → cannot_go_on (prefix_text s) b ≡ true
prefix_before Not b h = ap is_none (not_before b h)
prefix_before Negate b h = ap is_none (minus_before b h)
prefix_before Size b h = ap is_none (size_before b h)

letter_starts : (b : ℕ) → is_letter b ≡ true → is_start b ≡ true
letter_starts b h = ap (λ (t : Bool). t || is_digit b || nat_eq b 40 || nat_eq b 91 || nat_eq b 33 || nat_eq b 45 || nat_eq b 35) h

digit_starts : (b : ℕ) → is_digit b ≡ true → is_start b ≡ true
digit_starts b h = grind (arith, nat_tests)

name_starts : (x rest : List ℕ) → IsIdentifier x → is_start (get_or (x ++ rest) 0 0) ≡ true
name_starts [] rest t = absurd cc
name_starts (a ∷ x) rest t = letter_starts a (and_parts (is_letter a) (list_all is_name_byte x) t.0).0

-- behind no gap an operand begins with such a byte

operand_starts : (b : Bool) (e : Expression) (rest : List Piece) (end : List ℕ) → is_start (first (print e [] rest) end) ≡ true → is_start (first (operand b (λ g r. print e g r) [] rest) end) ≡ true
operand_starts true e rest end h = refl
operand_starts false e rest end h = h

starts : (e : Expression) → IsSpellable e → (rest : List Piece) (end : List ℕ) → is_start (first (print e [] rest) end) ≡ true
starts (named x) ok rest end = name_starts x (bytes_of rest end) ok
starts (form.numeral n) ok rest end = let d = first_digit n ok in subst (λ (ds : List ℕ). is_start (get_or (ds ++ bytes_of rest end) 0 0) ≡ true) (sym d.1.1) (digit_starts d.0 d.1.2)
starts true_ ok rest end = refl
starts false_ ok rest end = refl
starts (listed none) ok rest end = refl
starts (listed (more e es)) ok rest end = refl
starts (applied x none) ok rest end = absurd ok
starts (applied x (more e es)) ok rest end = name_starts x _ ok.0
starts (prefix Not e) ok rest end = refl
starts (prefix Negate e) ok rest end = refl
starts (prefix Size e) ok rest end = refl
starts (binary s e f) ok rest end = operand_starts (needs_brackets e) e (piece space (infix_kind s) (infix_text s) ∷ operand (right_needs s f) (λ g r. print f g r) space rest) end (starts e ok.0 (piece space (infix_kind s) (infix_text s) ∷ operand (right_needs s f) (λ g r. print f g r) space rest) end)

-- behind a space it begins with the space

operand_spaced : (b : Bool) (e : Expression) (rest : List Piece) (end : List ℕ) → first (print e space rest) end ≡ 32 → first (operand b (λ g r. print e g r) space rest) end ≡ 32
operand_spaced true e rest end h = refl
operand_spaced false e rest end h = h

pub spaced : (e : Expression) → IsSpellable e → (rest : List Piece) (end : List ℕ) → first (print e space rest) end ≡ 32
spaced (named x) ok rest end = refl
spaced (form.numeral n) ok rest end = refl
spaced true_ ok rest end = refl
spaced false_ ok rest end = refl
spaced (listed none) ok rest end = refl
spaced (listed (more e es)) ok rest end = refl
spaced (applied x none) ok rest end = absurd ok
spaced (applied x (more e es)) ok rest end = refl
spaced (prefix s e) ok rest end = refl
spaced (binary s e f) ok rest end = operand_spaced (needs_brackets e) e (piece space (infix_kind s) (infix_text s) ∷ operand (right_needs s f) (λ g r. print f g r) space rest) end (spaced e ok.0 (piece space (infix_kind s) (infix_text s) ∷ operand (right_needs s f) (λ g r. print f g r) space rest) end)

-- pieces that stand apart, whatever gap is in front
abbrev Apart : Expression → Type 0
Apart e = (gap : List ℕ) → IsGap gap → (rest : List Piece) (end : List ℕ) → Ends rest end → StandApart (print e gap rest) end

pub close_paren : {rest : List Piece} {end : List ℕ} → Ends rest end → Ends (piece [] kind_.RightParen (codes ")") ∷ rest) end
close_paren e = record { apart = in_front (plain_piece refl (sign refl) refl (λ h. cc)) e; quiet_ = refl }

close_bracket : {rest : List Piece} {end : List ℕ} → Ends rest end → Ends (piece [] kind_.RightBracket (codes "]") ∷ rest) end
close_bracket e = record { apart = in_front (plain_piece refl (sign refl) refl (λ h. cc)) e; quiet_ = refl }

operand_apart : (b : Bool) (e : Expression) → Apart e → (gap : List ℕ) → IsGap gap → (rest : List Piece) (end : List ℕ) → Ends rest end → StandApart (operand b (λ g r. print e g r) gap rest) end
operand_apart true e a gap g rest end h = (plain_piece g (sign refl) refl (λ h. cc), open_paren (first (print e [] (piece [] kind_.RightParen (codes ")") ∷ rest)) end), a [] refl (piece [] kind_.RightParen (codes ")") ∷ rest) end (close_paren h))
operand_apart false e a gap g rest end h = a gap g rest end h

mutual
  pub apart : (e : Expression) → IsSpellable e → (gap : List ℕ) → IsGap gap → (rest : List Piece) (end : List ℕ) → Ends rest end → StandApart (print e gap rest) end
  apart (named x) ok gap g rest end h = in_front (name_piece g ok) h
  apart (form.numeral n) ok gap g rest end h = in_front (number_piece g ok) h
  apart true_ ok gap g rest end h = in_front (plain_piece g (word_token (codes "true") refl) refl (λ e. cc)) h
  apart false_ ok gap g rest end h = in_front (plain_piece g (word_token (codes "false") refl) refl (λ e. cc)) h
  apart (listed none) ok gap g rest end h = after_bracket (piece [] kind_.RightBracket (codes "]") ∷ rest) end g (close_bracket h).apart
  apart (listed (more e es)) ok gap g rest end h =
      after_bracket (print e [] (print_more es (piece [] kind_.RightBracket (codes "]") ∷ rest))) end g (apart e ok.0 [] refl (print_more es (piece [] kind_.RightBracket (codes "]") ∷ rest)) end (more_apart es ok.1 (piece [] kind_.RightBracket (codes "]") ∷ rest) end (close_bracket h)))
  apart (applied x none) ok gap g rest end h = absurd ok
  apart (applied x (more e es)) ok gap g rest end h =
      let items : StandApart (print e [] (print_more es (piece [] kind_.RightParen (codes ")") ∷ rest))) end = apart e ok.1 [] refl (print_more es (piece [] kind_.RightParen (codes ")") ∷ rest)) end (more_apart es ok.2 (piece [] kind_.RightParen (codes ")") ∷ rest) end (close_paren h)) in
      (name_piece g ok.0, quiet 40 (identifier_token x ok.0) refl, after_paren (print e [] (print_more es (piece [] kind_.RightParen (codes ")") ∷ rest))) end refl items)
  apart (prefix s e) ok gap g rest end h =
      let p = prefix_piece s in
      (plain_piece g p.token p.kept p.other, prefix_before s _ (operand_starts (needs_brackets e) e rest end (starts e ok rest end)), operand_apart (needs_brackets e) e (λ gap g rest end h. apart e ok gap g rest end h) [] refl rest end h)
  apart (binary s e f) ok gap g rest end h =
      let p = infix_piece s in
      let right : StandApart (operand (right_needs s f) (λ g r. print f g r) space rest) end = operand_apart (right_needs s f) f (λ gap g rest end h. apart f ok.1 gap g rest end h) space refl rest end h in
      let behind : first (operand (right_needs s f) (λ g r. print f g r) space rest) end ≡ 32 = operand_spaced (right_needs s f) f rest end (spaced f ok.1 rest end) in
      let ends : Ends (operand (right_needs s f) (λ g r. print f g r) space rest) end = record { apart = right; quiet_ = ap is_quiet behind } in
      operand_apart (needs_brackets e) e (λ gap g rest end h. apart e ok.0 gap g rest end h) gap g _ end (record { apart = in_front (plain_piece refl p.token p.kept p.other) ends; quiet_ = refl })

  pub more_apart : (es : Expressions) → AreSpellable es → (rest : List Piece) (end : List ℕ) → Ends rest end → Ends (print_more es rest) end
  more_apart none ok rest end h = h
  more_apart (more e es) ok rest end h =
      let ends : Ends (print e space (print_more es rest)) end = record { apart = apart e ok.0 space refl (print_more es rest) end (more_apart es ok.1 rest end h); quiet_ = ap is_quiet (spaced e ok.0 (print_more es rest) end) } in
      record { apart = in_front (plain_piece refl (sign refl) refl (λ e. cc)) ends; quiet_ = refl }
