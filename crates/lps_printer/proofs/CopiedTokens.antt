-- Tokens in the layout of copied declarations stand apart.
use Rattle.std.proofs.Common.{◌≡◌, ℕ, Bool, true, false, ◌&&◌, ◌||◌, ◌⊎◌, inl, inr, if◌then◌else◌, List, [], ◌∷◌, ◌++◌, get_or, nat_eq, length, Some, None, refl, ap, sym, subst, arith}
use Rattle.std.specs.List.{list_all}
use Rattle.std.proofs.lemmas.Bool.Decides.{nat_tests}
use Rattle.mcrl2_lexer.specs.declared.kind.Kind.{Kind}
use Rattle.mcrl2_lexer.specs.declared.kind.Kind.TheVariants.{Identifier}
use Rattle.mcrl2_lexer.specs.Words.{is_space, is_letter, is_digit, is_name_byte, sign_kind, word_kind, word_of_two, word_of_three, word_of_four, word_of_five, word_of_six}
use Rattle.mcrl2_lexer.specs.Tokens.{IsToken, name_or_word, zero_numeral, numeral, sign}
use Rattle.mcrl2_lexer.proofs.Signs.{four_are_none}
use Rattle.lps_printer.specs.Pieces.{bytes_of, cannot_go_on, is_not, is_none, is_quiet, StandApart}
use Rattle.lps_printer.specs.CopiedTokens.{Copied, is_tight, is_opening, is_callable, is_paren, no_space, gap_between, copied_behind, copied, IsCopied, AreCopied, CopiesLex}
use Rattle.lps_printer.proofs.Fronts.{quiet}
use Rattle.lps_printer.proofs.Cutting.{pieces_lex}

-- signs of one byte that are quiet, or begin no longer sign
abbrev is_single : Kind → Bool
is_single k = is_tight k || is_opening k

single_of_two : (w : List ℕ) → is_single (word_of_two w) ≡ false
single_of_two w = grind arith

single_of_three : (w : List ℕ) → is_single (word_of_three w) ≡ false
single_of_three w = grind arith

single_of_four : (w : List ℕ) → is_single (word_of_four w) ≡ false
single_of_four w = grind arith

single_of_five : (w : List ℕ) → is_single (word_of_five w) ≡ false
single_of_five w = grind arith

single_of_six : (w : List ℕ) → is_single (word_of_six w) ≡ false
single_of_six w = grind arith

one_byte : (a : ℕ) (k : Kind) → sign_kind (a ∷ []) ≡ Some k → is_single k ≡ true → is_quiet a ≡ true
one_byte a k found h = grind (arith, nat_tests)

three_bytes : (a b c : ℕ) (k : Kind) → sign_kind (a ∷ b ∷ c ∷ []) ≡ Some k → is_single k ≡ false
three_bytes a b c k found = grind (arith, nat_tests)

two_bytes : (a b : ℕ) (k : Kind) → sign_kind (a ∷ b ∷ []) ≡ Some k → is_single k ≡ false
two_bytes a b k found = grind (arith, nat_tests)

either_kind : (b : Bool) (x y : Kind) → is_single x ≡ false → is_single y ≡ false → is_single (if b then x else y) ≡ false
either_kind true x y e f = e
either_kind false x y e f = f

single_word : (w : List ℕ) → is_single (word_kind w) ≡ false
single_word w = either_kind (nat_eq (length w) 2) _ _ (single_of_two w) (either_kind (nat_eq (length w) 3) _ _ (single_of_three w) (either_kind (nat_eq (length w) 4) _ _ (single_of_four w)
    (either_kind (nat_eq (length w) 5) _ _ (single_of_five w) (either_kind (nat_eq (length w) 6) _ Identifier (single_of_six w) refl))))

-- such a token is one byte
record IsSingle (bytes : List ℕ) (k : Kind) : Type 0 where
  byte : ℕ
  is : bytes ≡ byte ∷ []
  found : sign_kind (byte ∷ []) ≡ Some k

no_both : (b : Bool) → b ≡ true → b ≡ false → ⊥
no_both b e f = cc

single : {bytes : List ℕ} {k : Kind} → IsToken bytes k → is_single k ≡ true → IsSingle bytes k
single (name_or_word {first = first} {others = others} letter names) h = absurd (no_both (is_single (word_kind (first ∷ others))) h (single_word (first ∷ others)))
single zero_numeral h = absurd cc
single (numeral some digit digits) h = absurd cc
single (sign {bytes = []} found) h = absurd cc
single (sign {bytes = a ∷ []} found) h = record { byte = a; is = refl; found = found }
single {k = k} (sign {bytes = a ∷ b ∷ []} found) h = absurd (no_both (is_single k) h (two_bytes a b k found))
single {k = k} (sign {bytes = a ∷ b ∷ c ∷ []} found) h = absurd (no_both (is_single k) h (three_bytes a b c k found))
single {k = k} (sign {bytes = a ∷ b ∷ c ∷ d ∷ others} found) h = let none = four_are_none a b c d others in absurd cc

first_quiet : {bytes : List ℕ} {k : Kind} (rest : List ℕ) → IsToken bytes k → is_single k ≡ true → is_quiet (get_or (bytes ++ rest) 0 0) ≡ true
first_quiet {k = k} rest t h = let s = single t h in subst (λ (bs : List ℕ). is_quiet (get_or (bs ++ rest) 0 0) ≡ true) (sym s.is) (one_byte s.byte k s.found h)

no_way : (l d x y z : Bool) → l ≡ false → d ≡ false → z ≡ true → (if l then x else if d then y else z) ≡ true
no_way l d x y z e f g = grind arith

opening_signs : (a next : ℕ) (k : Kind) → sign_kind (a ∷ []) ≡ Some k → is_opening k ≡ true → sign_kind (a ∷ next ∷ []) ≡ None
opening_signs a next k found h = grind (arith, nat_tests)

opening_letters : (a : ℕ) (k : Kind) → sign_kind (a ∷ []) ≡ Some k → is_opening k ≡ true → is_letter a ≡ false
opening_letters a k found h = grind (arith, nat_tests)

opening_digits : (a : ℕ) (k : Kind) → sign_kind (a ∷ []) ≡ Some k → is_opening k ≡ true → is_digit a ≡ false
opening_digits a k found h = grind (arith, nat_tests)

or_left : (a b : Bool) → a ≡ true → (b || a) ≡ true
or_left a true h = refl
or_left a false h = h

opening_goes_on : {bytes : List ℕ} {k : Kind} (next : ℕ) → IsToken bytes k → is_opening k ≡ true → cannot_go_on bytes next ≡ true
opening_goes_on {k = k} next t h =
    let s = single t (or_left (is_opening k) (is_tight k) h) in
    subst (λ (bs : List ℕ). cannot_go_on bs next ≡ true) (sym s.is)
    (no_way (is_letter s.byte) (is_digit s.byte) (is_not (is_name_byte next)) (is_not (is_digit next)) (is_none (sign_kind (s.byte ∷ next ∷ []))) (opening_letters s.byte k s.found h) (opening_digits s.byte k s.found h) (ap is_none (opening_signs s.byte next k s.found h)))

or_true : (a b : Bool) → (a || b) ≡ true → (a ≡ true) ⊎ (b ≡ true)
or_true true b h = inl refl
or_true false b h = inr h

and_true : (a b : Bool) → (a && b) ≡ true → (a ≡ true) × (b ≡ true)
and_true true b h = (refl, h)
and_true false b h = absurd cc

paren_single : (k : Kind) → is_paren k ≡ true → is_single k ≡ true
paren_single k h = grind arith

-- two tokens with what the layout has between them
apart_by : (a b : Copied) (rest : List ℕ) (t : Bool) → no_space a.kind b.kind ≡ t → IsCopied a → IsCopied b → cannot_go_on a.bytes (get_or ((if t then [] else 32 ∷ []) ++ (b.bytes ++ rest)) 0 0) ≡ true
apart_by a b rest false h ok okb = quiet 32 ok.token refl
apart_by a b rest true h ok okb = elim (or_true (is_tight b.kind) (is_opening a.kind || (is_callable a.kind && is_paren b.kind)) h) [
  | inl tight ↦ quiet (get_or (b.bytes ++ rest) 0 0) ok.token (first_quiet rest okb.token (ap (λ (x : Bool). x || is_opening b.kind) tight))
  | inr w ↦ elim (or_true (is_opening a.kind) (is_callable a.kind && is_paren b.kind) w) [
    | inl opening ↦ opening_goes_on (get_or (b.bytes ++ rest) 0 0) ok.token opening
    | inr v ↦ quiet (get_or (b.bytes ++ rest) 0 0) ok.token (first_quiet rest okb.token (paren_single b.kind (and_true (is_callable a.kind) (is_paren b.kind) v).1))
  ]
]

gap_spaces : (t : Bool) → list_all is_space (if t then [] else 32 ∷ []) ≡ true
gap_spaces true = refl
gap_spaces false = refl

pub copied_apart : (gap : List ℕ) (t : Copied) (ts : List Copied) (end : List ℕ) → list_all is_space gap ≡ true → IsCopied t → AreCopied ts → StandApart [] end → is_quiet (get_or end 0 0) ≡ true
    → StandApart (record { gap = gap; kind = t.kind; bytes = t.bytes } ∷ copied_behind t.kind ts) end
copied_apart gap t [] end g ok oks s q = (record { spaces = g; token = ok.token; kept = ok.kept; fits = ok.fits }, quiet (get_or end 0 0) ok.token q, s)
copied_apart gap t (u ∷ us) end g ok oks s q = (
  record { spaces = g; token = ok.token; kept = ok.kept; fits = ok.fits },
  apart_by t u (bytes_of (copied_behind u.kind us) end) (no_space t.kind u.kind) refl ok oks.0,
  copied_apart (gap_between t.kind u.kind) u us end (gap_spaces (no_space t.kind u.kind)) oks.0 oks.1 s q,
)

pub copies_lex : CopiesLex
copies_lex [] ok = pieces_lex [] (10 ∷ []) refl
copies_lex (t ∷ ts) ok = pieces_lex (copied [] (t ∷ ts)) (10 ∷ []) (copied_apart [] t ts (10 ∷ []) refl ok.0 ok.1 refl refl)
