-- Parts of a line: where a line is cut into its first part and the rest, it is cut in one way.
use Rattle.std.specs.Prelude.{◌≡◌, ◌≢◌, ◌⊎◌, ◌<◌, ◌≤◌, ◌+◌, ◌^◌, ◌++◌, ℕ, suc, IsTrue, MatchOption, Option, Some, None, Result, Ok, Err, get_or, Bool, true, false, nat_eq, List, [], ◌∷◌, length, take, drop, codes}
use Rattle.std.proofs.Common.{Bor, refl, sym, subst, ap, ap₂, ◌∙◌, inl, inr, arith, append_assoc}
use Rattle.std.proofs.lemmas.Bool.Decides.{nat_tests}
use Rattle.std.proofs.lemmas.Slice.Eq.{strip_prefix_is}
use Rattle.std.specs.Cmp.Lexicographic.{pointwise}
use Rattle.std.proofs.lemmas.List.{nil_from_length, take_all, take-append-drop}
use Rattle.std.specs.List.{All, prefix_len}
use Rattle.std.specs.Result.{OkIff, result_ok}
use Rattle.std.proofs.lemmas.List.Elements.{All-nil, All-cons, All-head, All-tail}
use Rattle.mcrl2_lexer.specs.Tokens.{AreDigits}
use Rattle.mcrl2_lexer.specs.Words.{is_space, is_digit, decimal}
use Rattle.aut_check.specs.declared.line_parts.ByteKind.TheVariants.{Plain}
use Rattle.aut_check.specs.LineParts.{is_of, BeginsWithoutWhite, IsLabelThen, IsNumberThen, IsNumeral}
use Rattle.aut_check.specs.SystemTexts.{AreParts, Counts, IsEdgeText, IsHeaderLine, no_part, part_then, IsFirstPart, IsNumber, zero_digit, some_digits, IsPlain, IsWhite, quoted}

pub nat_eq_decides : (a b : ℕ) → (nat_eq a b ≡ true → a ≡ b) × (a ≡ b → nat_eq a b ≡ true)
nat_eq_decides a b = (λ h. grind (arith, nat_tests, h), λ h. grind (arith, nat_tests, h))

-- ---- the front of a list that passes a test
abbrev pub Passes : {A : Type 0} → (A → Bool) → List A → Type 0
Passes p xs = All (λ x. p x ≡ true) xs

-- the first element, if any, fails
abbrev pub StopsAtOnce : {A : Type 0} → (A → Bool) → List A → Type 0
StopsAtOnce p [] = Unit {0}
StopsAtOnce p (x ∷ xs) = p x ≡ false

len_yes : {A : Type 0} (p : A → Bool) (x : A) (xs : List A) → p x ≡ true → prefix_len p (x ∷ xs) ≡ suc (prefix_len p xs)
len_yes p x xs e = rw e (omega arith)

len_no : {A : Type 0} (p : A → Bool) (x : A) (xs : List A) → p x ≡ false → prefix_len p (x ∷ xs) ≡ 0
len_no p x xs e = rw e refl

test_of : (b : Bool) → (b ≡ true) ⊎ (b ≡ false)
test_of true = inl refl
test_of false = inr refl

pub front_passes : {A : Type 0} (p : A → Bool) (xs : List A) → Passes p (take (prefix_len p xs) xs)
front_passes {A} p [] = All-nil (λ (x : A). p x ≡ true)
front_passes {A} p (x ∷ xs) = by_test (test_of (p x)) (front_passes p xs)
  where
    by_test : (p x ≡ true) ⊎ (p x ≡ false) → Passes p (take (prefix_len p xs) xs) → Passes p (take (prefix_len p (x ∷ xs)) (x ∷ xs))
    by_test (inl e) more = subst (λ (n : ℕ). Passes p (take n (x ∷ xs))) (sym (len_yes p x xs e)) (All-cons (λ (y : A). p y ≡ true) x (take (prefix_len p xs) xs) e more)
    by_test (inr e) more = subst (λ (n : ℕ). Passes p (take n (x ∷ xs))) (sym (len_no p x xs e)) (All-nil (λ (y : A). p y ≡ true))

pub rest_stops : {A : Type 0} (p : A → Bool) (xs : List A) → StopsAtOnce p (drop (prefix_len p xs) xs)
rest_stops p [] = tt
rest_stops p (x ∷ xs) = by_test (test_of (p x)) (rest_stops p xs)
  where
    by_test : (p x ≡ true) ⊎ (p x ≡ false) → StopsAtOnce p (drop (prefix_len p xs) xs) → StopsAtOnce p (drop (prefix_len p (x ∷ xs)) (x ∷ xs))
    by_test (inl e) more = subst (λ (n : ℕ). StopsAtOnce p (drop n (x ∷ xs))) (sym (len_yes p x xs e)) more
    by_test (inr e) more = subst (λ (n : ℕ). StopsAtOnce p (drop n (x ∷ xs))) (sym (len_no p x xs e)) e

pub whole_passes : {A : Type 0} (p : A → Bool) (xs : List A) → Passes p xs → prefix_len p xs ≡ length xs
whole_passes p [] h = refl
whole_passes {A} p (x ∷ xs) h = len_yes p x xs (All-head (λ (y : A). p y ≡ true) x xs h) ∙ ap suc (whole_passes p xs (All-tail (λ (y : A). p y ≡ true) x xs h))

pub all_pass : {A : Type 0} (p : A → Bool) (xs : List A) → prefix_len p xs ≡ length xs → Passes p xs
all_pass p xs e = subst (Passes p) (ap (λ (n : ℕ). take n xs) e ∙ take_all (length xs) xs (omega arith)) (front_passes p xs)

-- the length of the front says whether all pass
pub whole_front : {A : Type 0} (p : A → Bool) (xs : List A) (n : ℕ) → n ≡ prefix_len p xs → (IsTrue (nat_eq n (length xs)) → Passes p xs) × (Passes p xs → IsTrue (nat_eq n (length xs)))
whole_front p xs n size = (λ same. let e : n ≡ length xs = grind (arith, nat_tests, same) in all_pass p xs (sym size ∙ e), λ all. let e : n ≡ length xs = size ∙ whole_passes p xs all in grind (arith, nat_tests, e))

-- a front that passes and a rest that stops at once are found in one way
pub record AreSame {A : Type 0} (us vs rs ss : List A) : Type 0 where
  pub front : us ≡ vs
  pub rest : rs ≡ ss

pub cut_once : {A : Type 0} (p : A → Bool) (us vs rs ss : List A) → Passes p us → Passes p vs → StopsAtOnce p rs → StopsAtOnce p ss → us ++ rs ≡ vs ++ ss → AreSame us vs rs ss
cut_once {A} p [] [] rs ss h k f g e = record { front = refl; rest = e }
cut_once {A} p [] (v ∷ vs) rs ss h k f g e =
    let stop : p v ≡ false = subst (StopsAtOnce p) e f in let pass : p v ≡ true = All-head (λ (y : A). p y ≡ true) v vs k in absurd (cc (stop, pass))
cut_once {A} p (u ∷ us) [] rs ss h k f g e =
    let stop : p u ≡ false = subst (StopsAtOnce p) (sym e) g in let pass : p u ≡ true = All-head (λ (y : A). p y ≡ true) u us h in absurd (cc (stop, pass))
cut_once {A} p (u ∷ us) (v ∷ vs) rs ss h k f g e =
    let heads : u ≡ v = cc e in let tails : us ++ rs ≡ vs ++ ss = cc e in
    let same = cut_once p us vs rs ss (All-tail (λ (y : A). p y ≡ true) u us h) (All-tail (λ (y : A). p y ≡ true) v vs k) f g tails in
    record { front = ap₂ (λ (x : A) (xs : List A). x ∷ xs) heads same.front; rest = same.rest }

-- what is put in front of two lists is no part of what makes them differ
same_rest : {A : Type 0} (us rs ss : List A) → us ++ rs ≡ us ++ ss → rs ≡ ss
same_rest [] rs ss e = e
same_rest (u ∷ us) rs ss e = same_rest us rs ss (cc e)

-- ---- parts
without_white : (part rest : List ℕ) → BeginsWithoutWhite part → StopsAtOnce is_space (part ++ rest)
without_white [] rest h = absurd h
without_white (b ∷ bs) rest h = h

-- white space in front of two parts that don't begin with it
pub behind_same_white : {line part other rest behind : List ℕ} → BeginsWithoutWhite part → BeginsWithoutWhite other → IsFirstPart line part rest → IsFirstPart line other behind → part ++ rest ≡ other ++ behind
behind_same_white {line} {part} {other} {rest} {behind} d e f g =
    (cut_once is_space f.white g.white (part ++ rest) (other ++ behind) f.is_white g.is_white (without_white part rest d) (without_white other behind e) (sym f.whole ∙ g.whole)).rest

pub one_rest : {line part rest behind : List ℕ} → BeginsWithoutWhite part → IsFirstPart line part rest → IsFirstPart line part behind → rest ≡ behind
one_rest {line} {part} {rest} {behind} d f g = same_rest part rest behind (behind_same_white d d f g)

-- what stands behind the white space in front
pub word_behind : (text word rest : List ℕ) (n : ℕ) (found : Option (Bor (List ℕ))) → BeginsWithoutWhite word → n ≡ prefix_len is_space text → rest ≡ drop n text
    → MatchOption found ((behind : List ℕ) → rest ≢ word ++ behind) (λ behind. rest ≡ word ++ behind.now)
    → MatchOption found ((behind : List ℕ) → ¬ (IsFirstPart text word behind)) (λ behind. IsFirstPart text word behind.now)
word_behind text word rest n (Some behind) dark size is found = record {
  white = take n text;
  is_white = subst (λ (k : ℕ). IsWhite (take k text)) (sym size) (front_passes is_space text);
  whole = sym (take-append-drop n text) ∙ ap (λ (z : List ℕ). take n text ++ z) (sym is ∙ found);
}
word_behind text word rest n None dark size is none = λ behind f.
    let stops : StopsAtOnce is_space (drop n text) = subst (λ (k : ℕ). StopsAtOnce is_space (drop k text)) (sym size) (rest_stops is_space text) in
    let white : IsWhite (take n text) = subst (λ (k : ℕ). IsWhite (take k text)) (sym size) (front_passes is_space text) in
    let same = cut_once is_space (take n text) f.white (drop n text) (word ++ behind) white f.is_white stops (without_white word behind dark) (take-append-drop n text ∙ f.whole) in
    none behind (is ∙ same.rest)

-- the parts behind the first one
pub parts_behind : {line part rest : List ℕ} {parts : List (List ℕ)} → BeginsWithoutWhite part → IsFirstPart line part rest → AreParts line (part ∷ parts) → AreParts rest parts
parts_behind {parts = parts} d f (part_then g more) = subst (λ (z : List ℕ). AreParts z parts) (sym (one_rest d f g)) more

-- ---- numbers
digits_of : {digits : List ℕ} {n : ℕ} → IsNumber digits n → Passes is_digit digits
digits_of zero_digit = All-cons (λ b. is_digit b ≡ true) 48 [] refl (All-nil (λ b. is_digit b ≡ true))
digits_of (some_digits {first} {others} h d all small) = All-cons (λ b. is_digit b ≡ true) first others d all

no_space : (b : ℕ) → is_digit b ≡ true → is_space b ≡ false
no_space b d = grind (arith)

number_begins : {digits : List ℕ} {n : ℕ} → IsNumber digits n → BeginsWithoutWhite digits
number_begins zero_digit = refl
number_begins (some_digits {first} {others} h d all small) = no_space first d

pub number_value : {digits : List ℕ} {n : ℕ} → IsNumber digits n → (n ≡ decimal digits) × (n < 2 ^ 64)
number_value zero_digit = (refl, omega arith)
number_value (some_digits h d all small) = (refl, small)

pub some_digit : {digits : List ℕ} {n : ℕ} → IsNumber digits n → 0 < length digits
some_digit zero_digit = omega arith
some_digit (some_digits h d all small) = omega arith

pub no_further_zero : {digits : List ℕ} {n : ℕ} → IsNumber digits n → get_or digits 0 0 ≡ 48 → length digits ≡ 1
no_further_zero zero_digit e = refl
no_further_zero (some_digits h d all small) e = absurd (h e)

pub number_is : (digits : List ℕ) (n : ℕ) → AreDigits digits → 0 < length digits → (get_or digits 0 0 ≡ 48 → length digits ≡ 1) → n ≡ decimal digits → n < 2 ^ 64 → IsNumber digits n
number_is [] n all some zero is small = absurd (omega (arith, some))
number_is (d ∷ ds) n all some zero is small = by_first (nat_eq d 48) refl
  where
    by_first : (b : Bool) → nat_eq d 48 ≡ b → IsNumber (d ∷ ds) n
    by_first true e =
        let first : d ≡ 48 = grind (arith, nat_tests, e) in
        let none : ds ≡ [] = nil_from_length ds (let l = zero first in omega (arith, l)) in
        let here : d ∷ ds ≡ 48 ∷ [] = ap₂ (λ (x : ℕ) (xs : List ℕ). x ∷ xs) first none in
        subst (λ (m : ℕ). IsNumber (d ∷ ds) m) (sym (is ∙ ap decimal here)) (subst (λ (z : List ℕ). IsNumber z 0) (sym here) zero_digit)
    by_first false e =
        let other : d ≢ 48 = λ same. let q : nat_eq d 48 ≡ true = grind (arith, nat_tests, same) in cc (q, e) in
        subst (λ (m : ℕ). IsNumber (d ∷ ds) m) (sym is) (some_digits other (All-head (λ b. is_digit b ≡ true) d ds all) (All-tail (λ b. is_digit b ≡ true) d ds all) (subst (λ (m : ℕ). m < 2 ^ 64) is small))

pub number_found : {E : Type 0} (digits : List ℕ) (value : ℕ) (r : Result ℕ E) (found : Option ℕ) → AreDigits digits → IsNumeral digits → value ≡ decimal digits → OkIff r (value < 2 ^ 64) value → found ≡ result_ok r
    → MatchOption found ((n : ℕ) → ¬ (IsNumber digits n)) (IsNumber digits)
number_found digits value (Ok n) found all numeral is h same =
    subst (λ (o : Option ℕ). MatchOption o ((m : ℕ) → ¬ (IsNumber digits m)) (IsNumber digits)) (sym same)
    (number_is digits n all numeral.0 numeral.1 (h.1 ∙ is) (subst (λ (m : ℕ). m < 2 ^ 64) (sym h.1) h.0))
number_found digits value (Err e) found all numeral is h same =
    subst (λ (o : Option ℕ). MatchOption o ((m : ℕ) → ¬ (IsNumber digits m)) (IsNumber digits)) (sym same)
    (λ n k. let v = number_value k in h (subst (λ (m : ℕ). m < 2 ^ 64) (v.0 ∙ sym is) v.1))

-- more digits than a number of 128 bits has
pub too_large : (digits : List ℕ) → 2 ^ 128 ≤ decimal digits → (n : ℕ) → ¬ (IsNumber digits n)
too_large digits large n h = let v = number_value h in let e = v.0 in let l = v.1 in absurd (omega (arith, e, l, large))

pub no_numeral : (digits : List ℕ) → ¬ (IsNumeral digits) → (n : ℕ) → ¬ (IsNumber digits n)
no_numeral digits never n h = never (some_digit h, no_further_zero h)

-- digits are one number at most
pub one_number : {digits : List ℕ} {n m : ℕ} → IsNumber digits n → IsNumber digits m → n ≡ m
one_number zero_digit zero_digit = refl
one_number zero_digit (some_digits h d all small) = absurd (h refl)
one_number (some_digits h d all small) zero_digit = absurd (h refl)
one_number (some_digits h d all small) (some_digits k e every little) = refl

no_digit : (b : ℕ) → is_space b ≡ true → is_digit b ≡ false
no_digit b d = grind (arith)

white_stops : (white rest : List ℕ) → IsWhite white → StopsAtOnce is_digit rest → StopsAtOnce is_digit (white ++ rest)
white_stops [] rest h k = k
white_stops (b ∷ bs) rest h k = no_digit b (All-head (λ c. is_space c ≡ true) b bs h)

-- no digit stands in front of what begins with another sign
sign_stops : {line rest : List ℕ} {sign : ℕ} → is_digit sign ≡ false → IsFirstPart line (sign ∷ []) rest → StopsAtOnce is_digit line
sign_stops {line} {rest} {sign} d f = subst (StopsAtOnce is_digit) (sym f.whole) (white_stops f.white (sign ∷ rest) f.is_white d)

-- a number is cut off in one way
pub record IsSameNumber (n m : ℕ) (here there : List ℕ) : Type 0 where
  pub number : n ≡ m
  pub rest : here ≡ there

pub one_number_then : {line rest behind : List ℕ} {sign n m : ℕ} → is_space sign ≡ false → is_digit sign ≡ false → IsNumberThen line sign n rest → IsNumberThen line sign m behind → IsSameNumber n m rest behind
one_number_then {line} {rest} {behind} {sign} {n} {m} dark d f g =
    let after : f.digits ++ f.behind ≡ g.digits ++ g.behind = behind_same_white (number_begins f.number) (number_begins g.number) f.first g.first in
    let same = cut_once is_digit f.digits g.digits f.behind g.behind (digits_of f.number) (digits_of g.number) (sign_stops d f.second) (sign_stops d g.second) after in
    record {
      number = one_number f.number (subst (λ (z : List ℕ). IsNumber z m) (sym same.front) g.number);
      rest = one_rest dark f.second (subst (λ (z : List ℕ). IsFirstPart z (sign ∷ []) behind) (sym same.rest) g.second);
    }

-- the number at the front of parts
pub record NumberFirst (line : List ℕ) (sign n : ℕ) (parts : List (List ℕ)) : Type 0 where
  pub rest : List ℕ
  pub number : IsNumberThen line sign n rest
  pub more : AreParts rest parts

pub number_first : {line digits : List ℕ} {sign n : ℕ} {parts : List (List ℕ)} → IsNumber digits n → AreParts line (digits ∷ (sign ∷ []) ∷ parts) → NumberFirst line sign n parts
number_first {digits = digits} number (part_then {rest = behind} f (part_then {rest = rest} g more)) = record { rest = rest; number = record { digits = digits; number = number; behind = behind; first = f; second = g }; more = more }

pub number_parts : {line digits rest : List ℕ} {sign n m : ℕ} {parts : List (List ℕ)} → is_space sign ≡ false → is_digit sign ≡ false → IsNumberThen line sign n rest → IsNumber digits m → AreParts line (digits ∷ (sign ∷ []) ∷ parts) → (n ≡ m) × AreParts rest parts
number_parts {parts = parts} dark d f number more =
    let g = number_first number more in let same = one_number_then dark d f g.number in (same.number, subst (λ (z : List ℕ). AreParts z parts) (sym same.rest) g.more)

-- ---- labels
plain_passes : (b : ℕ) → (b ≢ 34) × (b ≢ 37) → is_of Plain b ≡ true
plain_passes b h = let p = h.0 in let q = h.1 in grind (arith, p, q)

passing_plain : (b : ℕ) → is_of Plain b ≡ true → (b ≢ 34) × (b ≢ 37)
passing_plain b h = (λ e. let q : is_of Plain b ≡ false = subst (λ (z : ℕ). is_of Plain z ≡ false) (sym e) refl in cc (h, q), λ e. let q : is_of Plain b ≡ false = subst (λ (z : ℕ). is_of Plain z ≡ false) (sym e) refl in cc (h, q))

pub plain_text : (text : List ℕ) → IsPlain text → Passes (is_of Plain) text
plain_text [] h = All-nil (λ b. is_of Plain b ≡ true)
plain_text (b ∷ bs) h = All-cons (λ c. is_of Plain c ≡ true) b bs (plain_passes b (All-head (λ c. (c ≢ 34) × (c ≢ 37)) b bs h)) (plain_text bs (All-tail (λ c. (c ≢ 34) × (c ≢ 37)) b bs h))

pub text_plain : (text : List ℕ) → Passes (is_of Plain) text → IsPlain text
text_plain [] h = All-nil (λ c. (c ≢ 34) × (c ≢ 37))
text_plain (b ∷ bs) h = All-cons (λ c. (c ≢ 34) × (c ≢ 37)) b bs (passing_plain b (All-head (λ c. is_of Plain c ≡ true) b bs h)) (text_plain bs (All-tail (λ c. is_of Plain c ≡ true) b bs h))

quoted_then : (label rest : List ℕ) → quoted label ++ rest ≡ 34 ∷ (label ++ 34 ∷ rest)
quoted_then label rest = ap (λ (z : List ℕ). 34 ∷ z) (append_assoc label (34 ∷ []) rest)

pub record IsSameLabel (one other here there : List ℕ) : Type 0 where
  pub label : one ≡ other
  pub rest : here ≡ there

pub one_label_then : {line label other rest behind : List ℕ} → IsLabelThen line label rest → IsLabelThen line other behind → IsSameLabel label other rest behind
one_label_then {line} {label} {other} {rest} {behind} f g =
    let after : quoted label ++ f.behind ≡ quoted other ++ g.behind = behind_same_white refl refl f.first g.first in
    let tails : label ++ 34 ∷ f.behind ≡ other ++ 34 ∷ g.behind = cc (sym (quoted_then label f.behind) ∙ after ∙ quoted_then other g.behind) in
    let same = cut_once (is_of Plain) label other (34 ∷ f.behind) (34 ∷ g.behind) (plain_text label f.plain) (plain_text other g.plain) refl refl tails in
    let left : f.behind ≡ g.behind = cc same.rest in
    record { label = same.front; rest = one_rest refl f.second (subst (λ (z : List ℕ). IsFirstPart z (codes ",") behind) (sym left) g.second) }

pub record LabelFirst (line text : List ℕ) (parts : List (List ℕ)) : Type 0 where
  pub rest : List ℕ
  pub label : IsLabelThen line text rest
  pub more : AreParts rest parts

pub label_first : {line label : List ℕ} {parts : List (List ℕ)} → IsPlain label → AreParts line (quoted label ∷ codes "," ∷ parts) → LabelFirst line label parts
label_first plain (part_then {rest = behind} f (part_then {rest = rest} g more)) = record { rest = rest; label = record { plain = plain; behind = behind; first = f; second = g }; more = more }

pub label_parts : {line label other rest : List ℕ} {parts : List (List ℕ)} → IsLabelThen line label rest → IsPlain other → AreParts line (quoted other ∷ codes "," ∷ parts) → (label ≡ other) × AreParts rest parts
label_parts {parts = parts} f plain more =
    let g = label_first plain more in let same = one_label_then f g.label in (same.label, subst (λ (z : List ℕ). AreParts z parts) (sym same.rest) g.more)

pub plain_front : (text : List ℕ) (n : ℕ) → n ≡ prefix_len (is_of Plain) text → (IsTrue (nat_eq n (length text)) → IsPlain text) × (IsPlain text → IsTrue (nat_eq n (length text)))
plain_front text n size = let whole = whole_front (is_of Plain) text n size in (λ same. text_plain text (whole.0 same), λ plain. whole.1 (plain_text text plain))

-- ---- in code
-- where a number begins a text, its digits are all those behind the white space in front
pub number_cut : (text behind : List ℕ) (len many : ℕ) {sign n : ℕ} {rest : List ℕ} → len ≡ prefix_len is_space text → behind ≡ drop len text → many ≡ prefix_len is_digit behind → is_digit sign ≡ false → (f : IsNumberThen text sign n rest)
    → AreSame (take many behind) f.digits (drop many behind) f.behind
number_cut text behind len many size is count d f =
    let white : IsWhite (take len text) = subst (λ (k : ℕ). IsWhite (take k text)) (sym size) (front_passes is_space text) in
    let stops : StopsAtOnce is_space behind = subst (StopsAtOnce is_space) (sym is) (subst (λ (k : ℕ). StopsAtOnce is_space (drop k text)) (sym size) (rest_stops is_space text)) in
    let dark : StopsAtOnce is_space (f.digits ++ f.behind) = without_white f.digits f.behind (number_begins f.number) in
    let whole : take len text ++ behind ≡ f.first.white ++ (f.digits ++ f.behind) = ap (λ (z : List ℕ). take len text ++ z) is ∙ take-append-drop len text ∙ f.first.whole in
    let here : behind ≡ f.digits ++ f.behind = (cut_once is_space (take len text) f.first.white behind (f.digits ++ f.behind) white f.first.is_white stops dark whole).rest in
    let passes : Passes is_digit (take many behind) = subst (λ (k : ℕ). Passes is_digit (take k behind)) (sym count) (front_passes is_digit behind) in
    let ends : StopsAtOnce is_digit (drop many behind) = subst (λ (k : ℕ). StopsAtOnce is_digit (drop k behind)) (sym count) (rest_stops is_digit behind) in
    cut_once is_digit (take many behind) f.digits (drop many behind) f.behind passes (digits_of f.number) ends (sign_stops d f.second) (take-append-drop many behind ∙ here)

pub number_there : (text behind : List ℕ) (len many : ℕ) {sign n : ℕ} {rest : List ℕ} → len ≡ prefix_len is_space text → behind ≡ drop len text → IsNumber (take many behind) n → IsFirstPart (drop many behind) (sign ∷ []) rest → IsNumberThen text sign n rest
number_there text behind len many size is number second = record {
  digits = take many behind;
  number = number;
  behind = drop many behind;
  first = record {
    white = take len text;
    is_white = subst (λ (k : ℕ). IsWhite (take k text)) (sym size) (front_passes is_space text);
    whole = sym (take-append-drop len text) ∙ ap (λ (z : List ℕ). take len text ++ z) (sym (take-append-drop many behind ∙ is));
  };
  second = second;
}

pub front_digits : (text : List ℕ) (many : ℕ) → many ≡ prefix_len is_digit text → AreDigits (take many text)
front_digits text many count = subst (λ (k : ℕ). AreDigits (take k text)) (sym count) (front_passes is_digit text)

-- what `strip_prefix` says of bytes
abbrev pub Strips : List ℕ → List ℕ → Option (Bor (List ℕ)) → Type 0
Strips s p found = MatchOption found (pointwise nat_eq (take (length p) s) p ≡ false) (λ x. (pointwise nat_eq (take (length p) s) p ≡ true) × (x.now ≡ drop (length p) s) × (length x.now + length p ≡ length s))

pub not_stripped : (s p : List ℕ) (found : Option (Bor (List ℕ))) → Strips s p found → found ≡ None → (rest : List ℕ) → s ≢ p ++ rest
not_stripped s p None h e = strip_prefix_is nat_eq_decides s p None h
not_stripped s p (Some x) h e = absurd (cc e)

pub stripped : (s p : List ℕ) (found : Option (Bor (List ℕ))) → Strips s p found → (x : Bor (List ℕ)) → found ≡ Some x → s ≡ p ++ x.now
stripped s p None h x e = absurd (cc e)
stripped s p (Some y) h x e = let same : y ≡ x = cc e in subst (λ (z : Bor (List ℕ)). s ≡ p ++ z.now) same (strip_prefix_is nat_eq_decides s p (Some y) h)

pub label_close : {us vs : List ℕ} → codes "\"" ++ us ≡ 34 ∷ vs → us ≡ vs
label_close e = cc e

-- a label begins with its first quotation mark, and ends in front of the next one
pub label_open : {line label rest : List ℕ} (f : IsLabelThen line label rest) → IsFirstPart line (codes "\"") (label ++ 34 ∷ f.behind)
label_open {line} {label} {rest} f = record { white = f.first.white; is_white = f.first.is_white; whole = f.first.whole ∙ ap (λ (z : List ℕ). f.first.white ++ z) (quoted_then label f.behind) }

pub label_cut : {line label rest behind : List ℕ} (many : ℕ) → IsFirstPart line (codes "\"") behind → many ≡ prefix_len (is_of Plain) behind → (f : IsLabelThen line label rest) → AreSame (take many behind) label (drop many behind) (34 ∷ f.behind)
label_cut {line} {label} {rest} {behind} many open_ count f =
    let here : behind ≡ label ++ 34 ∷ f.behind = one_rest refl open_ (label_open f) in
    let passes = subst (λ (k : ℕ). Passes (is_of Plain) (take k behind)) (sym count) (front_passes (is_of Plain) behind) in
    let ends = subst (λ (k : ℕ). StopsAtOnce (is_of Plain) (drop k behind)) (sym count) (rest_stops (is_of Plain) behind) in
    cut_once (is_of Plain) (take many behind) label (drop many behind) (34 ∷ f.behind) passes (plain_text label f.plain) ends refl (take-append-drop many behind ∙ here)

pub label_there : {line behind left rest : List ℕ} (many : ℕ) → IsFirstPart line (codes "\"") behind → many ≡ prefix_len (is_of Plain) behind → drop many behind ≡ codes "\"" ++ left → IsFirstPart left (codes ",") rest → IsLabelThen line (take many behind) rest
label_there {line} {behind} {left} {rest} many open_ count close second = record {
  plain = text_plain (take many behind) (subst (λ (k : ℕ). Passes (is_of Plain) (take k behind)) (sym count) (front_passes (is_of Plain) behind));
  behind = left;
  first = record {
    white = open_.white;
    is_white = open_.is_white;
    whole = open_.whole ∙ ap (λ (z : List ℕ). open_.white ++ (34 ∷ z)) (sym (take-append-drop many behind) ∙ ap (λ (z : List ℕ). take many behind ++ z) close)
        ∙ ap (λ (z : List ℕ). open_.white ++ z) (sym (quoted_then (take many behind) left));
  };
  second = second;
}

-- ---- the first of some parts
pub first_part : {line part : List ℕ} {parts : List (List ℕ)} → AreParts line (part ∷ parts) → (rest : List ℕ) × IsFirstPart line part rest
first_part (part_then {rest = rest} f more) = (rest, f)

pub white_left : {line : List ℕ} → AreParts line [] → IsWhite line
white_left (no_part w) = w

pub number_here : {line digits : List ℕ} {sign n : ℕ} {parts : List (List ℕ)} → IsNumber digits n → AreParts line (digits ∷ (sign ∷ []) ∷ parts) → (rest : List ℕ) × IsNumberThen line sign n rest
number_here number more = let g = number_first number more in (g.rest, g.number)

pub label_here : {line label : List ℕ} {parts : List (List ℕ)} → IsPlain label → AreParts line (quoted label ∷ codes "," ∷ parts) → (rest : List ℕ) × IsLabelThen line label rest
label_here plain more = let g = label_first plain more in (g.rest, g.label)

-- ---- the parts of a header, one after the other
module _ {line a b : List ℕ} (des : IsFirstPart line (codes "des") a) (open_ : IsFirstPart a (codes "(") b) {c : Counts} (h : IsHeaderLine line c) where
  pub behind_des : AreParts a (codes "(" ∷ h.first ∷ codes "," ∷ h.edges ∷ codes "," ∷ h.states ∷ codes ")" ∷ [])
  behind_des = parts_behind refl des h.parts

  pub behind_open : AreParts b (h.first ∷ codes "," ∷ h.edges ∷ codes "," ∷ h.states ∷ codes ")" ∷ [])
  behind_open = parts_behind refl open_ behind_des

  pub behind_first : {n : ℕ} {rest : List ℕ} → IsNumberThen b 44 n rest → (n ≡ c.first) × AreParts rest (h.edges ∷ codes "," ∷ h.states ∷ codes ")" ∷ [])
  behind_first f = number_parts refl refl f h.first_is behind_open

  pub behind_edges : {n m : ℕ} {rest behind : List ℕ} → IsNumberThen b 44 n rest → IsNumberThen rest 44 m behind → (m ≡ c.edges) × AreParts behind (h.states ∷ codes ")" ∷ [])
  behind_edges f g = number_parts refl refl g h.edges_are (behind_first f).1

  pub behind_states : {n m k : ℕ} {rest behind end : List ℕ} → IsNumberThen b 44 n rest → IsNumberThen rest 44 m behind → IsNumberThen behind 41 k end → (k ≡ c.states) × AreParts end []
  behind_states f g e = number_parts refl refl e h.states_are (behind_edges f g).1

-- a line is one header at most
pub one_header : {line : List ℕ} {c d : Counts} → IsHeaderLine line c → IsHeaderLine line d → c ≡ d
one_header {line} {c} {d} h k =
    let des = first_part h.parts in
    let open_ = first_part (parts_behind refl des.1 h.parts) in
    let first = number_here h.first_is (behind_open des.1 open_.1 h) in
    let edges = number_here h.edges_are (behind_first des.1 open_.1 h first.1).1 in
    let states = number_here h.states_are (behind_edges des.1 open_.1 h first.1 edges.1).1 in
    let p = (behind_first des.1 open_.1 k first.1).0 in
    let q = (behind_edges des.1 open_.1 k first.1 edges.1).0 in
    let r = (behind_states des.1 open_.1 k first.1 edges.1 states.1).0 in
    same_counts c d p q r
  where
    same_counts : (x y : Counts) → x.first ≡ y.first → x.edges ≡ y.edges → x.states ≡ y.states → x ≡ y
    same_counts x y p q r = ap₂ (λ (n : ℕ) (m : ℕ × ℕ). record { first = n; edges = m.0; states = m.1 }) p (ap₂ (λ (n m : ℕ). (n, m)) q r)

-- ---- the parts of an edge
module _ {line a : List ℕ} (open_ : IsFirstPart line (codes "(") a) {label : List ℕ} {i j : ℕ} (h : IsEdgeText line label i j) where
  pub edge_open : AreParts a (h.from ∷ codes "," ∷ quoted label ∷ codes "," ∷ h.to ∷ codes ")" ∷ [])
  edge_open = parts_behind refl open_ h.parts

  pub behind_from : {n : ℕ} {rest : List ℕ} → IsNumberThen a 44 n rest → (n ≡ i) × AreParts rest (quoted label ∷ codes "," ∷ h.to ∷ codes ")" ∷ [])
  behind_from f = number_parts refl refl f h.from_is edge_open

  pub behind_label : {n : ℕ} {text rest behind : List ℕ} → IsNumberThen a 44 n rest → IsLabelThen rest text behind → (text ≡ label) × AreParts behind (h.to ∷ codes ")" ∷ [])
  behind_label f g = label_parts g h.plain (behind_from f).1

  pub behind_to : {n m : ℕ} {text rest behind end : List ℕ} → IsNumberThen a 44 n rest → IsLabelThen rest text behind → IsNumberThen behind 41 m end → (m ≡ j) × AreParts end []
  behind_to f g e = number_parts refl refl e h.to_is (behind_label f g).1

-- a line is one edge's text at most
pub record AreSameEdges (label other : List ℕ) (i j k l : ℕ) : Type 0 where
  pub text : label ≡ other
  pub source : i ≡ k
  pub target : j ≡ l

pub one_edge_text : {line label other : List ℕ} {i j k l : ℕ} → IsEdgeText line label i j → IsEdgeText line other k l → AreSameEdges label other i j k l
one_edge_text h e =
    let open_ = first_part h.parts in
    let from = number_here h.from_is (edge_open open_.1 h) in
    let label = label_here h.plain (behind_from open_.1 h from.1).1 in
    let to = number_here h.to_is (behind_label open_.1 h from.1 label.1).1 in
    record { text = (behind_label open_.1 e from.1 label.1).0; source = (behind_from open_.1 e from.1).0; target = (behind_to open_.1 e from.1 label.1 to.1).0 }

-- ---- lines that were found
pub header_there : {line a b rest behind end : List ℕ} {n m k : ℕ} → IsFirstPart line (codes "des") a → IsFirstPart a (codes "(") b → IsNumberThen b 44 n rest → IsNumberThen rest 44 m behind → IsNumberThen behind 41 k end → IsWhite end → n < k
    → IsHeaderLine line (record { first = n; edges = m; states = k })
header_there des open_ f g e white within = record {
  first = f.digits;
  edges = g.digits;
  states = e.digits;
  parts = part_then des (part_then open_ (part_then f.first (part_then f.second (part_then g.first (part_then g.second (part_then e.first (part_then e.second (no_part white))))))));
  first_is = f.number;
  edges_are = g.number;
  states_are = e.number;
  within = within;
}

pub edge_there : {line a rest behind end label : List ℕ} {n m : ℕ} → IsFirstPart line (codes "(") a → IsNumberThen a 44 n rest → IsLabelThen rest label behind → IsNumberThen behind 41 m end → IsWhite end → IsEdgeText line label n m
edge_there open_ f g e white = record {
  from = f.digits;
  to = e.digits;
  parts = part_then open_ (part_then f.first (part_then f.second (part_then g.first (part_then g.second (part_then e.first (part_then e.second (no_part white)))))));
  plain = g.plain;
  from_is = f.number;
  to_is = e.number;
}
