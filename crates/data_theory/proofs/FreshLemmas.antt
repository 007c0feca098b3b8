-- Among the candidates for a fresh name one is free.
use Rattle.std.proofs.Common.{◌≡◌, ℕ, zero, suc, ◌+◌, ◌^◌, ◌<◌, ◌≤◌, ◌≢◌, ◌↔◌, Bool, true, false, ◌||◌, cond, eqb, List, [], ◌∷◌, ◌++◌, length, get_or, map, IsTrue, decimal, bytes_eq, refl, sym, ap, ◌∙◌, subst, arith, append-nil, below_more}
use Rattle.std.specs.List.{Contains, list_any}
use Rattle.std.proofs.lemmas.Fmt.{decimal_injective}
use Rattle.std.proofs.lemmas.Bool.Decides.{Decides-eqb}
use Rattle.std.proofs.lemmas.Slice.Eq.{bytes_eq-Decides}
use Rattle.std.proofs.lemmas.List.{length-map}
use Rattle.std.proofs.lemmas.Map.Steps.{le-length_from_below}
use Rattle.std.proofs.lemmas.Option.{get_or_from_slice_get}
use Rattle.data_theory.specs.declared.ids.NameId.{NameId}
use Rattle.data_theory.specs.Signature.{Sig, IsTaken}
use Rattle.data_theory.specs.Fresh.{candidate}

-- equal lists with an equal front have an equal rest
cancel : (front xs ys : List ℕ) → front ++ xs ≡ front ++ ys → xs ≡ ys
cancel [] xs ys same = same
cancel (x ∷ front) xs ys same = cancel front xs ys cc

-- the candidates below two to the power of 64 differ
candidates_differ : (base : List ℕ) (j k : ℕ) → j < 2 ^ 64 → k < 2 ^ 64 → candidate base j ≡ candidate base k → j ≡ k
candidates_differ base zero zero a b same = refl
candidates_differ base zero (suc k) a b same = let never : [] ≡ 95 ∷ decimal (suc k) = cancel base [] (95 ∷ decimal (suc k)) (append-nil base ∙ same) in cc
candidates_differ base (suc j) zero a b same = let never : [] ≡ 95 ∷ decimal (suc j) = cancel base [] (95 ∷ decimal (suc j)) (append-nil base ∙ sym same) in cc
candidates_differ base (suc j) (suc k) a b same =
    let tails : 95 ∷ decimal (suc j) ≡ 95 ∷ decimal (suc k) = cancel base (95 ∷ decimal (suc j)) (95 ∷ decimal (suc k)) same in
    decimal_injective (suc j) (suc k) a b cc

-- the number of a candidate below a number
number_of : List ℕ → ℕ → List ℕ → ℕ
number_of base zero t = 0
number_of base (suc n) t = cond (bytes_eq t (candidate base n)) n (number_of base n t)

number_of-candidate : (base : List ℕ) (n k : ℕ) → n ≤ 2 ^ 64 → k < n → number_of base n (candidate base k) ≡ k
unfolding number_of
number_of-candidate base zero k fits below = absurd (omega (arith, below))
number_of-candidate base (suc n) k fits below = by_test (bytes_eq (candidate base k) (candidate base n)) refl (λ less. number_of-candidate base n k (omega (arith, fits)) less)
  where
    by_test : (b : Bool) → bytes_eq (candidate base k) (candidate base n) ≡ b → (k < n → number_of base n (candidate base k) ≡ k) → cond b n (number_of base n (candidate base k)) ≡ k
    by_test true told earlier = sym (candidates_differ base k n (omega (arith, fits, below)) (omega (arith, fits)) ((bytes_eq-Decides (candidate base k) (candidate base n)).0 told))
    by_test false told earlier =
        let other : k ≢ n = λ e. let equal : bytes_eq (candidate base k) (candidate base n) ≡ true = (bytes_eq-Decides (candidate base k) (candidate base n)).1 (ap (candidate base) e) in let never : true ≡ false = sym equal ∙ told in cc in
        earlier (omega (arith, other, below))

-- the texts of the taken names
abbrev taken_texts : Sig → List (List ℕ)
taken_texts s = map (λ n. get_or s.texts n.0 []) s.taken

or_true : (b : Bool) → (b || true) ≡ true
or_true true = refl
or_true false = refl

-- a number that a name stands for is among the numbers of the names
number_among : (texts : List (List ℕ)) (f : List ℕ → ℕ) (q : ℕ) (t : List ℕ) (ns : List NameId) (n : NameId) → Contains ns n → get_or texts n.0 [] ≡ t → f t ≡ q → list_any (eqb q) (map f (map (λ m. get_or texts m.0 []) ns)) ≡ true
number_among texts f q t [] n c at is = absurd (omega (arith, c.1))
number_among texts f q t (m ∷ ns) n (zero, l, e) at is =
    let here : f (get_or texts m.0 []) ≡ q = ap (λ (i : NameId). f (get_or texts i.0 [])) e ∙ ap f at ∙ is in
    rw ((Decides-eqb q (f (get_or texts m.0 []))).1 (sym here)) refl
number_among texts f q t (m ∷ ns) n (suc k, l, e) at is = rw (number_among texts f q t ns n (k, omega (arith, l), e) at is) (or_true (eqb q (f (get_or texts m.0 []))))

-- no more candidates are taken than there are names that are taken
pub taken_few : (s : Sig) (base : List ℕ) (n : ℕ) → n ≤ 2 ^ 64 → ((k : ℕ) → k < n → IsTaken s (candidate base k)) → n ≤ length s.taken
taken_few s base n fits all =
    let numbers : List ℕ = map (number_of base n) (taken_texts s) in
    let few : n ≤ length numbers =
    le-length_from_below numbers n
    (λ q below. let h = all q below in number_among s.texts (number_of base n) q (candidate base q) s.taken h.0 h.2 (get_or_from_slice_get s.texts h.0.0 (candidate base q) [] h.1) (number_of-candidate base n q fits below)) in
    omega (arith, few, length-map (taken_texts s) (number_of base n), length-map s.taken (λ m. get_or s.texts m.0 []))

-- where the next candidate is taken as well, all below the next number are
pub one_more_taken : (s now : Sig) (base : List ℕ) (n : ℕ) (text t : List ℕ) (answer : Bool) → now ≡ s → ((k : ℕ) → k < n → IsTaken s (candidate base k)) → text ≡ candidate base n → t ≡ text → (IsTrue answer ↔ IsTaken now t) → answer ≡ true → (k : ℕ) → k < n + 1 → IsTaken s (candidate base k)
one_more_taken s now base n text t answer same below named is told taken =
    below_more (λ k. IsTaken s (candidate base k)) n below (subst (λ (x : Sig). IsTaken x (candidate base n)) same (subst (IsTaken now) (is ∙ named) (told.0 taken)))
