-- Numbers as an option has them.
use Rattle.std.proofs.Common.{◌≡◌, ◌<◌, ◌≤◌, ◌^◌, ℕ, List, [], ◌∷◌, None, Result, Err, true, arith, rules, length, subst}
use Rattle.std.specs.Char.{is_ascii_digit}
use Rattle.std.specs.List.{list_all}
use Rattle.std.specs.Result.{OkIff}
use Rattle.std.specs.Str.Parse.{digits_value, ParsesUnsigned}
use Rattle.std.proofs.lemmas.Str.Parse.{IsNumeralModel, numerals_by_value, parse_digits}
use Rattle.std.proofs.lemmas.Grind.{common_steps}
use Rattle.lin_words.specs.Options.{is_number, number_of}

own : IsNumeralModel (λ ds. list_all is_ascii_digit ds ≡ true) (digits_value 10)
own = numerals_by_value _ (search rules)

pub is_digits : (bs : List ℕ) → is_number bs ≡ true → (list_all is_ascii_digit bs ≡ true) × (0 < length bs)
is_digits [] e = absurd (search rules)
is_digits (b ∷ bs) e = (grind arith, grind (arith, common_steps))

pub too_large : {E : Type 0} (most : ℕ) (bs : List ℕ) (r : Result ℕ E) (e : E) → most < 2 ^ 64 → is_number bs ≡ true → ParsesUnsigned 64 10 bs r → r ≡ Err e
    → number_of most bs ≡ None
too_large most bs r e small digits parsed is =
    let d = is_digits bs digits in
    let P : Result ℕ _ → Type 0 = λ s. OkIff s ((0 < length bs) × (digits_value 10 bs < 2 ^ 64)) (digits_value 10 bs) in
    let none : (0 < length bs) × (digits_value 10 bs < 2 ^ 64) → ⊥ = subst P is (parse_digits own 64 bs r parsed d.0) in
    let large : 2 ^ 64 ≤ digits_value 10 bs = grind (arith, none, d.1) in
    grind (arith, common_steps, digits, large, small)
