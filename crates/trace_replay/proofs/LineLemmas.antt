-- The first line of a text.
use Rattle.std.specs.Prelude.{◌≡◌, ◌≢◌, ◌<◌, ◌≤◌, ◌+◌, ◌-◌, ℕ, suc, Bool, true, false, List, [], ◌∷◌, ◌==◌, length, take, drop, get_or, if◌then◌else◌}
use Rattle.std.proofs.Common.{refl, sym, subst, ◌∙◌, ap, arith, drop-cons, add-one, eq-eqb}
use Rattle.std.proofs.Math.ListN.{drop_of_length-le}
use Rattle.std.proofs.lemmas.List.{take_rest}
use Rattle.std.proofs.lemmas.Bool.Decides.{nat_tests}
use Rattle.trace_replay.specs.Lines.{in_first, lines_of, first_size}

-- ---- the size of the first line
false_eqb : (a b : ℕ) → a ≢ b → (a == b) ≡ false
false_eqb a b n = grind (arith, nat_tests)

size_here : (b : ℕ) (bs : List ℕ) → b ≡ 10 → first_size (b ∷ bs) ≡ 0
unfolding first_size
size_here b bs e = rw (eq-eqb b 10 e)

size_further : (b : ℕ) (bs : List ℕ) → b ≢ 10 → first_size (b ∷ bs) ≡ suc (first_size bs)
unfolding first_size
size_further b bs n = rw (false_eqb b 10 n)

pub first_size-within : (bs : List ℕ) → first_size bs ≤ length bs
unfolding first_size
first_size-within [] = omega arith
first_size-within (b ∷ bs) =
    let rest : first_size bs ≤ length bs = first_size-within bs in elim (b == 10) as (λ (t : Bool). (if t then 0 else suc (first_size bs)) ≤ suc (length bs)) [ true ↦ omega arith | false ↦ omega arith ]

pub found_here : (xs : List ℕ) (i : ℕ) → i < length xs → first_size xs ≡ i + first_size (drop i xs) → get_or xs i 0 ≡ 10 → first_size xs ≡ i
found_here xs i inside size is =
    let at : first_size (drop i xs) ≡ 0 = ap first_size (drop-cons xs i 0 inside) ∙ size_here (get_or xs i 0) (drop (suc i) xs) is in omega arith

pub found_further : (xs : List ℕ) (i : ℕ) → i < length xs → first_size xs ≡ i + first_size (drop i xs) → get_or xs i 0 ≢ 10 → first_size xs ≡ (i + 1) + first_size (drop (i + 1) xs)
found_further xs i inside size not =
    let at : first_size (drop i xs) ≡ suc (first_size (drop (suc i) xs)) = ap first_size (drop-cons xs i 0 inside) ∙ size_further (get_or xs i 0) (drop (suc i) xs) not in
    let far : first_size xs ≡ i + suc (first_size (drop (suc i) xs)) = size ∙ ap (λ n. i + n) at in rw (add-one i) (omega arith)

pub found_nowhere : (xs : List ℕ) (i : ℕ) → i ≡ length xs → first_size xs ≡ i + first_size (drop i xs) → first_size xs ≡ length xs
found_nowhere xs i end size = let within : first_size xs ≤ length xs = first_size-within xs in omega arith

-- ---- the first line
split_line : (b : ℕ) (bs : List ℕ) → lines_of (b ∷ bs) ≡ take (first_size (b ∷ bs)) (b ∷ bs) ∷ lines_of (drop (suc (first_size (b ∷ bs))) (b ∷ bs))
unfolding lines_of first_size
split_line b [] = elim (b == 10) as (λ (t : Bool). (if t then [] ∷ lines_of [] else in_first b (lines_of [])) ≡ take (if t then 0 else suc (first_size [])) (b ∷ []) ∷ lines_of (drop (suc (if t then 0 else suc (first_size []))) (b ∷ []))) [ true ↦ refl | false ↦ refl ]
split_line b (c ∷ cs) =
    elim (b == 10) as (λ (t : Bool). (if t then [] ∷ lines_of (c ∷ cs) else in_first b (lines_of (c ∷ cs))) ≡ take (if t then 0 else suc (first_size (c ∷ cs))) (b ∷ c ∷ cs) ∷ lines_of (drop (suc (if t then 0 else suc (first_size (c ∷ cs)))) (b ∷ c ∷ cs)))
    [ true ↦ refl | false ↦ ap (in_first b) (split_line c cs) ]

pub first_is_split : (xs : List ℕ) → xs ≢ [] → lines_of xs ≡ take (first_size xs) xs ∷ lines_of (drop (suc (first_size xs)) xs)
first_is_split [] some = absurd (some refl)
first_is_split (b ∷ bs) some = split_line b bs

-- ---- the rest as a slice has it
pub whole_line : (xs : List ℕ) (n : ℕ) → xs ≢ [] → n ≡ first_size xs → n ≡ length xs → lines_of xs ≡ take n xs ∷ lines_of (take (length xs - n) (drop n xs))
whole_line xs n some size end =
    let none_here : take (length xs - n) (drop n xs) ≡ [] = take_rest xs n ∙ drop_of_length-le xs {i = n} (omega arith) in
    let none_behind : drop (suc n) xs ≡ [] = drop_of_length-le xs {i = suc n} (omega arith) in
    subst (λ (m : ℕ). lines_of xs ≡ take m xs ∷ lines_of (drop (suc m) xs)) (sym size) (first_is_split xs some) ∙ ap (λ (ys : List ℕ). take n xs ∷ lines_of ys) (none_behind ∙ sym none_here)

pub line_in_front : (xs : List ℕ) (n : ℕ) → xs ≢ [] → n ≡ first_size xs → lines_of xs ≡ take n xs ∷ lines_of (take (length xs - (n + 1)) (drop (n + 1) xs))
line_in_front xs n some size =
    let rest : take (length xs - (n + 1)) (drop (n + 1) xs) ≡ drop (suc n) xs = take_rest xs (n + 1) ∙ ap (λ (m : ℕ). drop m xs) (add-one n) in
    subst (λ (m : ℕ). lines_of xs ≡ take m xs ∷ lines_of (drop (suc m) xs)) (sym size) (first_is_split xs some) ∙ ap (λ (ys : List ℕ). take n xs ∷ lines_of ys) (sym rest)
