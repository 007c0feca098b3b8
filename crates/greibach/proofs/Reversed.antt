-- Lists that are read from the end.
use Rattle.std.proofs.Common.{◌≡◌, ◌<◌, ◌≤◌, ◌-◌, ℕ, suc, List, [], ◌∷◌, ◌++◌, drop, length, get_or, reverse, refl, ap, ◌∙◌, arith}
use Rattle.std.proofs.lemmas.List.{reverse-append}
use Rattle.std.proofs.Math.Seq.{drop-cons}

pub all_dropped : {A : Type 0} (xs : List A) → reverse (drop (length xs) xs) ≡ []
all_dropped [] = refl
all_dropped (x ∷ xs) = all_dropped xs

pub one_more_reversed : {A : Type 0} (xs : List A) (left : ℕ) (d : A) → 0 < left → left ≤ length xs → reverse (drop (left - 1) xs) ≡ reverse (drop left xs) ++ get_or xs (left - 1) d ∷ []
one_more_reversed xs left d p l =
    let back : suc (left - 1) ≡ left = omega (arith, p) in
    ap reverse (drop-cons xs (left - 1) d (omega (arith, p, l)) ∙ ap (λ n. get_or xs (left - 1) d ∷ drop n xs) back)
    ∙ reverse-append (get_or xs (left - 1) d ∷ []) (drop left xs)
