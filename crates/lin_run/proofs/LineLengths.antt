-- Lines of buffers are short.
use Rattle.std.proofs.Common.{◌≡◌, ◌≤◌, ◌<◌, ◌+◌, ◌-◌, ◌∙◌, ℕ, Bool, true, List, length, arith, refl, sym, subst}
use Rattle.std.specs.Prelude.{nat_lt, Contains}
use Rattle.std.specs.List.{list_all, range_with_len}
use Rattle.std.specs.Fmt.{digits}
use Rattle.std.proofs.lemmas.Bool.Decides.{Decides-ltb}
use Rattle.std.proofs.lemmas.List.Elements.{Contains-get_or, All-contains}
use Rattle.std.proofs.lemmas.List.FromFn.{length-range_with_len, get_or-range_with_len}
use Rattle.std.proofs.lemmas.List.Sums.{AllPass-from_list_all}
use Rattle.mcrl2_text.specs.declared.loading.TheConstants.{MAX_TEXT_LEN}
use Rattle.lin_driver.specs.BufferLines.{buffer_line}

abbrev is_short : ℕ → Bool
is_short n = nat_lt (length (buffer_line n)) MAX_TEXT_LEN

all_are_short : list_all is_short (range_with_len 2 39) ≡ true
unfolding buffer_line digits
all_are_short = refl

one_of_them : (n : ℕ) → 2 ≤ n → n ≤ 40 → Contains (range_with_len 2 39) n
one_of_them n from to =
    let size = length-range_with_len 2 39 in
    let low : n - 2 < 39 = omega (arith, from, to) in
    let back : 2 + (n - 2) ≡ n = omega (arith, from) in
    subst (Contains (range_with_len 2 39)) (get_or-range_with_len 2 39 (n - 2) 0 low ∙ back) (Contains-get_or (range_with_len 2 39) (n - 2) 0 (omega (arith, low, size)))

line_is_short : (n : ℕ) → 2 ≤ n → n ≤ 40 → length (buffer_line n) ≤ MAX_TEXT_LEN
line_is_short n from to =
    let low : length (buffer_line n) < MAX_TEXT_LEN =
    (Decides-ltb (length (buffer_line n)) MAX_TEXT_LEN).0 (All-contains (λ k. is_short k ≡ true) (range_with_len 2 39) n (AllPass-from_list_all is_short (range_with_len 2 39) all_are_short) (one_of_them n from to)) in
    omega (arith, low)

-- bytes that are such a line
pub short_line : (n : ℕ) (bytes : List ℕ) → 2 ≤ n → n ≤ 40 → bytes ≡ buffer_line n → length bytes ≤ MAX_TEXT_LEN
short_line n bytes from to is = subst (λ (xs : List ℕ). length xs ≤ MAX_TEXT_LEN) (sym is) (line_is_short n from to)
