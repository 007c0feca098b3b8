-- What digits say, from one digit to the next.
use Rattle.std.proofs.Common.{◌≡◌, ℕ, ◌+◌, ◌-◌, ◌*◌, ◌≤◌, ◌<◌, List, [], ◌∷◌, length, drop, get_or, drop-cons, add-one, arith, refl, sym, ◌∙◌}
use Rattle.mcrl2_lexer.specs.Words.{decimal_after}

-- further digits make a number no smaller
pub le-decimal_after : (n : ℕ) (digits : List ℕ) → n ≤ decimal_after n digits
le-decimal_after n [] = omega arith
le-decimal_after n (d ∷ digits) = let further = le-decimal_after (n * 10 + (d - 48)) digits in omega (arith, further)

decimal_after-drop : (n i : ℕ) (digits : List ℕ) → i < length digits
    → decimal_after n (drop i digits) ≡ decimal_after (n * 10 + (get_or digits i 0 - 48)) (drop (i + 1) digits)
decimal_after-drop n i digits inside = rw (add-one, drop-cons digits i 0) refl

-- where the digits up to one of them say at least a bound, all of them do
pub at_least : (bound n i whole : ℕ) (digits : List ℕ) → decimal_after n (drop i digits) ≡ whole → i < length digits
    → bound ≤ n * 10 + (get_or digits i 0 - 48) → bound ≤ whole
at_least bound n i whole digits is inside so_far =
    let further = le-decimal_after (n * 10 + (get_or digits i 0 - 48)) (drop (i + 1) digits) in
    let step = sym (decimal_after-drop n i digits inside) ∙ is in
    omega (arith, further, step, so_far)
