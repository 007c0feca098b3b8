-- Bytes that go on token by token.
use Rattle.std.proofs.Common.{◌≡◌, ◌<◌, ◌≤◌, ◌+◌, ℕ, Bool, true, false, List, [], ◌∷◌, ◌++◌, length, get_or, map, drop, refl, sym, ap, ◌∙◌, subst, arith}
use Rattle.std.proofs.lemmas.List.{drop_more}
use Rattle.std.proofs.Math.Seq.{drop-length}
use Rattle.mcrl2_lexer.specs.declared.kind.Kind.{Kind}
use Rattle.lps_printer.specs.declared.copied_tokens.Place.{Place}
use Rattle.lps_printer.specs.declared.copied_tokens.Place.TheVariants.{Behind}
use Rattle.lps_printer.specs.Pieces.{bytes_of}
use Rattle.lps_printer.specs.CopiedTokens.{Copied}
use Rattle.lps_printer.specs.CopiedPlaces.{gap_at, copied_at, AddsTokens}
use Rattle.lps_printer.specs.TreeTokens.{token, separator_tokens, further_tokens, listed_tokens}
use Rattle.lps_printer.specs.DataLayout.{piece}
use Rattle.lps_printer.specs.Adding.{Adds}

pub tokens_none : (old : List ℕ) (place : Place) → AddsTokens old place old place (λ rest. rest)
tokens_none old place = record { bytes = λ rest end. refl }

pub tokens_both : {a b c : List ℕ} {p q r : Place} {f g : List Copied → List Copied} → AddsTokens a p b q f → AddsTokens b q c r g → AddsTokens a p c r (λ rest. f (g rest))
tokens_both {g = g} h k = record { bytes = λ rest end. h.bytes (g rest) end ∙ k.bytes rest end }

-- the tokens of what equals another thing
pub tokens_of : {A : Type 0} {a b : List ℕ} {p q : Place} (f : A → List Copied → List Copied) {x y : A} → x ≡ y → AddsTokens a p b q (f y) → AddsTokens a p b q (f x)
tokens_of {a = a} {b = b} {p = p} {q = q} f e h = subst (λ z. AddsTokens a p b q (f z)) (sym e) h

-- a token at its place
pub token_added : {a b : List ℕ} (gap : List ℕ) (place : Place) (kind : Kind) (bytes : List ℕ) → gap ≡ gap_at place kind → Adds a b (λ rest. piece gap kind bytes ∷ rest) → AddsTokens a place b (Behind kind) (λ rest. token kind bytes ∷ rest)
token_added {a = a} {b = b} gap place kind bytes e h =
    let k : Adds a b (λ rest. piece (gap_at place kind) kind bytes ∷ rest) = subst (λ g. Adds a b (λ rest. piece g kind bytes ∷ rest)) e h in
    record { bytes = λ rest end. k.bytes (copied_at (Behind kind) rest) end }

-- ---- items one by one
-- what is left of a list
abbrev pub left_tokens : {A : Type 0} → Bool → (A → List Copied → List Copied) → Copied → List A → List Copied → List Copied
left_tokens true tokens separator xs rest = listed_tokens tokens separator xs rest
left_tokens false tokens separator xs rest = further_tokens tokens separator xs rest

module _ {A : Type 0} (tokens : A → List Copied → List Copied) (separator : Copied) where
  pub none_left : (b : Bool) (a : List ℕ) (p : Place) → AddsTokens a p a p (left_tokens b tokens separator [])
  none_left true a p = tokens_none a p
  none_left false a p = tokens_none a p

  pub one_left : (b : Bool) (x : A) (xs : List A) {a c d e : List ℕ} {p q r s : Place} → AddsTokens a p c q (separator_tokens b separator) → AddsTokens c q d r (tokens x) → AddsTokens d r e s (left_tokens false tokens separator xs) → AddsTokens a p e s (left_tokens b tokens separator (x ∷ xs))
  one_left true x xs h k m = tokens_both h (tokens_both k m)
  one_left false x xs h k m = tokens_both h (tokens_both k m)

  pub left_step : (b : Bool) (xs : List A) (i : ℕ) (x : A) → i < length xs → x ≡ get_or xs i x → {a c d e : List ℕ} {p q r s : Place} → AddsTokens a p c q (separator_tokens b separator) → AddsTokens c q d r (tokens x)
      → AddsTokens d r e s (left_tokens false tokens separator (drop (i + 1) xs)) → AddsTokens a p e s (left_tokens b tokens separator (drop i xs))
  left_step b xs i x below is h k m = tokens_of (left_tokens b tokens separator) (drop_more xs i x below ∙ ap (λ y. y ∷ drop (i + 1) xs) (sym is)) (one_left b x (drop (i + 1) xs) h k m)

  pub left_end : (b : Bool) (xs : List A) (i : ℕ) → length xs ≤ i → i ≤ length xs → (a : List ℕ) (p : Place) → AddsTokens a p a p (left_tokens b tokens separator (drop i xs))
  left_end b xs i above below a p = let end : i ≡ length xs = omega arith in tokens_of (left_tokens b tokens separator) (ap (λ k. drop k xs) end ∙ drop-length xs) (none_left b a p)

-- ---- parts of a list by what they are
listed_by : {A B : Type 0} (tokens : B → List Copied → List Copied) (to : A → B) (separator : Copied) (xs : List A) (rest : List Copied) → further_tokens (λ x r. tokens (to x) r) separator xs rest ≡ further_tokens tokens separator (map to xs) rest
listed_by tokens to separator [] rest = refl
listed_by tokens to separator (x ∷ xs) rest = ap (λ ts. separator ∷ tokens (to x) ts) (listed_by tokens to separator xs rest)

parts_by : {A B : Type 0} (tokens : B → List Copied → List Copied) (to : A → B) (separator : Copied) (xs : List A) (rest : List Copied) → listed_tokens (λ x r. tokens (to x) r) separator xs rest ≡ listed_tokens tokens separator (map to xs) rest
parts_by tokens to separator [] rest = refl
parts_by tokens to separator (x ∷ xs) rest = ap (tokens (to x)) (listed_by tokens to separator xs rest)

-- what stands in front is the same for each rest
tokens_same : {a b : List ℕ} {p q : Place} {f g : List Copied → List Copied} → ((rest : List Copied) → f rest ≡ g rest) → AddsTokens a p b q f → AddsTokens a p b q g
tokens_same {a = a} {p = p} e h = record { bytes = λ rest end. ap (λ ts. a ++ bytes_of (copied_at p ts) end) (sym (e rest)) ∙ h.bytes rest end }

pub parts_added : {A B : Type 0} (tokens : B → List Copied → List Copied) (to : A → B) (separator : Copied) (xs : List A) {a b : List ℕ} {p q : Place} → AddsTokens a p b q (listed_tokens (λ x r. tokens (to x) r) separator xs) → AddsTokens a p b q (listed_tokens tokens separator (map to xs))
parts_added tokens to separator xs h = tokens_same (parts_by tokens to separator xs) h
