-- Fresh names are identifiers: they have an underscore, which no word has.
use Rattle.std.proofs.Common.{◌≡◌, ◌/◌, ◌%◌, ◌<◌, ◌||◌, ◌&&◌, ℕ, zero, suc, Bool, true, false, cond, nat_eq, eqb, List, [], ◌∷◌, ◌++◌, length, codes, decimal, refl, sym, ap, ap₂, ◌∙◌, arith, if◌then◌else◌}
use Rattle.std.specs.Prelude.{bytes_eq}
use Rattle.std.specs.Fmt.{digits, digits_onto, digit_glyph}
use Rattle.std.specs.List.{list_all, list_any}
use Rattle.std.proofs.lemmas.Bool.{and_from, and_parts}
use Rattle.std.proofs.lemmas.Bool.Decides.{nat_tests}
use Rattle.std.proofs.lemmas.List.Folds.{list_all-append}
use Rattle.std.proofs.lemmas.Slice.Eq.{bytes_eq-Decides}
use Rattle.mcrl2_lexer.specs.declared.kind.Kind.{Kind}
use Rattle.mcrl2_lexer.specs.declared.kind.Kind.TheVariants as kind_
use Rattle.mcrl2_lexer.specs.Words.{is_letter, is_digit, is_name_byte, is_name, word_of_two, word_of_three, word_of_four, word_of_five, word_of_six, word_kind}
use Rattle.lps_printer.specs.DataLayout.{IsIdentifier}
use Rattle.lps_printer.specs.FreshIdentifiers.{FreshNamesAreIdentifiers, ConstantNamesAreIdentifiers}

-- ---- what has an underscore is no word
abbrev has_underscore : List ℕ → Bool
has_underscore w = list_any (λ (b : ℕ). nat_eq b 95) w

by_test : (b : Bool) (w u : List ℕ) (k other : Kind) → (b ≡ true → w ≡ u) → has_underscore w ≡ true → has_underscore u ≡ false → other ≡ kind_.Identifier → (if b then k else other) ≡ kind_.Identifier
by_test true w u k other same h n e = let never : true ≡ false = sym h ∙ ap has_underscore (same refl) ∙ n in absurd cc
by_test false w u k other same h n e = e

row : (w u : List ℕ) (k : Kind) {other : Kind} → has_underscore w ≡ true → has_underscore u ≡ false → other ≡ kind_.Identifier → (if bytes_eq w u then k else other) ≡ kind_.Identifier
row w u k {other = other} h n e = by_test (bytes_eq w u) w u k other (bytes_eq-Decides w u).0 h n e

either : (b : Bool) (k other : Kind) → k ≡ kind_.Identifier → other ≡ kind_.Identifier → (if b then k else other) ≡ kind_.Identifier
either true k other h i = h
either false k other h i = i

no_word_of_two : (w : List ℕ) → has_underscore w ≡ true → word_of_two w ≡ kind_.Identifier
no_word_of_two w h = row w (codes "in") kind_.In h refl refl

no_word_of_three : (w : List ℕ) → has_underscore w ≡ true → word_of_three w ≡ kind_.Identifier
no_word_of_three w h = row w (codes "map") kind_.Map h refl (row w (codes "var") kind_.Var h refl (row w (codes "eqn") kind_.Eqn h refl (row w (codes "act") kind_.Act h refl (row w (codes "Pos") kind_.PosWord h refl (row w (codes "Nat") kind_.NatWord h refl (row w (codes "Int") kind_.IntWord h refl (row w (codes "div") kind_.Div h refl (row w (codes "mod") kind_.Mod h refl (row w (codes "tau") kind_.Tau h refl (row w (codes "sum") kind_.Sum h refl (row w (codes "Set") kind_.SetWord h refl (row w (codes "Bag") kind_.BagWord h refl (row w (codes "whr") kind_.Whr h refl (row w (codes "end") kind_.End h refl refl))))))))))))))

no_word_of_four : (w : List ℕ) → has_underscore w ≡ true → word_of_four w ≡ kind_.Identifier
no_word_of_four w h = row w (codes "sort") kind_.Sort h refl (row w (codes "cons") kind_.Cons h refl (row w (codes "proc") kind_.Proc h refl (row w (codes "init") kind_.Init h refl (row w (codes "Bool") kind_.BoolWord h refl (row w (codes "List") kind_.ListWord h refl (row w (codes "true") kind_.TrueWord h refl (row w (codes "hide") kind_.Hide h refl (row w (codes "comm") kind_.Comm h refl (row w (codes "dist") kind_.Dist h refl (row w (codes "glob") kind_.Glob h refl (row w (codes "Real") kind_.RealWord h refl (row w (codes "FSet") kind_.FSetWord h refl (row w (codes "FBag") kind_.FBagWord h refl refl)))))))))))))

no_word_of_five : (w : List ℕ) → has_underscore w ≡ true → word_of_five w ≡ kind_.Identifier
no_word_of_five w h = row w (codes "delta") kind_.Delta h refl (row w (codes "allow") kind_.Allow h refl (row w (codes "block") kind_.Block h refl (row w (codes "false") kind_.FalseWord h refl refl)))

no_word_of_six : (w : List ℕ) → has_underscore w ≡ true → word_of_six w ≡ kind_.Identifier
no_word_of_six w h = row w (codes "struct") kind_.Struct h refl (row w (codes "rename") kind_.Rename h refl (row w (codes "lambda") kind_.Lambda h refl (row w (codes "forall") kind_.Forall h refl (row w (codes "exists") kind_.Exists h refl refl))))

no_word : (w : List ℕ) → has_underscore w ≡ true → word_kind w ≡ kind_.Identifier
no_word w h = either (nat_eq (length w) 2) _ _ (no_word_of_two w h) (either (nat_eq (length w) 3) _ _ (no_word_of_three w h) (either (nat_eq (length w) 4) _ _ (no_word_of_four w h)
    (either (nat_eq (length w) 5) _ _ (no_word_of_five w h) (either (nat_eq (length w) 6) _ kind_.Identifier (no_word_of_six w h) refl))))

or_true : (a b : Bool) → b ≡ true → (a || b) ≡ true
or_true true b h = refl
or_true false b h = h

underscore_behind : (front rest : List ℕ) → has_underscore (front ++ 95 ∷ rest) ≡ true
underscore_behind [] rest = refl
underscore_behind (b ∷ front) rest = or_true (nat_eq b 95) (has_underscore (front ++ 95 ∷ rest)) (underscore_behind front rest)

-- ---- the digits are bytes of a name
glyph_name : (d : ℕ) → d < 10 → is_name_byte (digit_glyph false d) ≡ true
glyph_name d lt = grind (arith, nat_tests)

either_named : (t : Bool) (xs ys : List ℕ) → list_all is_name_byte xs ≡ true → list_all is_name_byte ys ≡ true → list_all is_name_byte (cond t xs ys) ≡ true
either_named true xs ys a b = a
either_named false xs ys a b = b

digits_named : (k n : ℕ) (acc : List ℕ) → list_all is_name_byte acc ≡ true → list_all is_name_byte (digits_onto k 10 false n acc) ≡ true
digits_named zero n acc all = all
digits_named (suc k) n acc all =
    let more : list_all is_name_byte (digit_glyph false (n % 10) ∷ acc) ≡ true = and_from (is_name_byte (digit_glyph false (n % 10))) (list_all is_name_byte acc) (glyph_name (n % 10) (omega arith)) all in
    either_named (eqb (n / 10) 0) (digit_glyph false (n % 10) ∷ acc) (digits_onto k 10 false (n / 10) (digit_glyph false (n % 10) ∷ acc)) more (digits_named k (n / 10) (digit_glyph false (n % 10) ∷ acc) more)

decimal_named : (n : ℕ) → list_all is_name_byte (decimal n) ≡ true
unfolding digits
decimal_named n = digits_named 64 n [] refl

-- ---- names with an underscore
name_behind : (base rest : List ℕ) → is_name base ≡ true → list_all is_name_byte rest ≡ true → is_name (base ++ rest) ≡ true
name_behind [] rest h k = absurd cc
name_behind (b ∷ base) rest h k =
    let p = and_parts (is_letter b) (list_all is_name_byte base) h in
    and_from (is_letter b) (list_all is_name_byte (base ++ rest)) p.0 (list_all-append is_name_byte base rest ∙ ap₂ (λ (x y : Bool). x && y) p.1 k)

pub fresh_names_are_identifiers : FreshNamesAreIdentifiers
fresh_names_are_identifiers base i zero = i
fresh_names_are_identifiers base i (suc k) = (name_behind base (95 ∷ decimal (suc k)) i.0 (decimal_named (suc k)), no_word (base ++ 95 ∷ decimal (suc k)) (underscore_behind base (decimal (suc k))))

all_named : (x : List ℕ) → is_name x ≡ true → list_all is_name_byte x ≡ true
all_named [] h = absurd cc
all_named (b ∷ x) h =
    let p = and_parts (is_letter b) (list_all is_name_byte x) h in
    and_from (is_name_byte b) (list_all is_name_byte x) (ap (λ (l : Bool). l || is_digit b || nat_eq b 39) p.0) p.1

pub prefixed : (x : List ℕ) → IsIdentifier x → IsIdentifier (codes "dc_" ++ x)
prefixed x i = (all_named x i.0, no_word (100 ∷ 99 ∷ 95 ∷ x) refl)

pub constant_names_are_identifiers : ConstantNamesAreIdentifiers
constant_names_are_identifiers x i k = fresh_names_are_identifiers (codes "dc_" ++ x) (prefixed x i) k
