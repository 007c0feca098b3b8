-- Names in ascending order: lists with the same names, each as often, are one list then.
use Rattle.std.proofs.Common.{◌≡◌, ◌≤◌, ◌+◌, ◌==◌, ℕ, suc, Bool, true, false, cond, List, [], ◌∷◌, ◌++◌, refl, sym, ap, ap₂, ◌∙◌, subst, arith, ⊎_elim}
use Rattle.std.specs.Prelude.{Contains}
use Rattle.std.specs.List.{sum_by}
use Rattle.std.specs.List.Sorted.{IsPermutation}
use Rattle.std.specs.Cmp.Lexicographic.{pointwise}
use Rattle.std.proofs.lemmas.List.Sorted.{sum_by-IsPermutation}
use Rattle.std.proofs.lemmas.List.Sums.{sum_by-cons}
use Rattle.std.proofs.lemmas.Slice.Eq.{slice_eq-Decides}
use Rattle.data_theory.specs.declared.ids.NameId.{NameId}
use Rattle.data_theory.specs.contracts.ids.NameIdPartialEq.TheImpl as name_ids
use Rattle.data_theory.proofs.IdLemmas.{name_ids_agree}
use Rattle.process_terms.specs.Labels.{Inserted, at_front, further, Permuted, nothing_left, one_placed}
use Rattle.bisim_laws.proofs.Firing.{contains_first, contains_later, contains_cases, contains_none}
use Rattle.action_filters.specs.Filters.{same_name}
use Rattle.action_filters.specs.Indexes.{IsInOrder}
use Rattle.action_filters.specs.NameTests.{is_permuted}
use Rattle.action_filters.proofs.NamesTold.{Told, yes, no, told, among_told, permuted_told}

pub same_name_told : (x y : NameId) → Told (x ≡ y) (same_name x y)
same_name_told x y = told (same_name x y) (name_ids_agree x y)

-- what is told of two equal statements is one
pub told_alike : {P Q : Type 0} {b c : Bool} → Told P b → Told Q c → (P → Q) → (Q → P) → b ≡ c
told_alike (yes p) (yes q) f g = refl
told_alike (yes p) (no n) f g = absurd (n (f p))
told_alike (no n) (yes q) f g = absurd (n (g q))
told_alike (no m) (no n) f g = refl

-- ---- how often a name is there
abbrev pub one : NameId → NameId → ℕ
one z x = cond {A = ℕ} (same_name x z) 1 0

abbrev pub often : NameId → List NameId → ℕ
often z [] = 0
often z (x ∷ xs) = one z x + often z xs

abbrev pub AreAsOften : List NameId → List NameId → Type 0
AreAsOften xs ys = (z : NameId) → often z xs ≡ often z ys

pub one_itself : (x : NameId) → ◌≡◌ {A = ℕ} (one x x) 1
one_itself x = by (same_name x x) (same_name_told x x)
  where
    by : (b : Bool) → Told (x ≡ x) b → ◌≡◌ {A = ℕ} (cond {A = ℕ} b 1 0) 1
    by true t = refl
    by false (no n) = absurd (n refl)

often_sum : (z : NameId) (xs : List NameId) → often z xs ≡ sum_by (one z) xs
often_sum z [] = refl
often_sum z (x ∷ xs) = ap (λ n. one z x + n) (often_sum z xs) ∙ sym (sum_by-cons (one z) x xs)

pub often_moved : (xs ys : List NameId) → IsPermutation xs ys → AreAsOften xs ys
often_moved xs ys p z = often_sum z xs ∙ sym (sum_by-IsPermutation (one z) xs ys p) ∙ sym (often_sum z ys)

pub often_both : (z : NameId) (xs ys : List NameId) → often z (xs ++ ys) ≡ often z xs + often z ys
often_both z [] ys = omega arith
often_both z (x ∷ xs) ys = let e = often_both z xs ys in omega (arith, e)

pub often_placed : {x : NameId} {xs ys : List NameId} (z : NameId) → Inserted x xs ys → often z ys ≡ one z x + often z xs
often_placed z at_front = refl
often_placed {x = x} z (further {y = y} {xs = xs} {ys = ys} i) = let e = often_placed z i in omega (arith, e)

pub often_permuted : {xs ys : List NameId} → Permuted xs ys → AreAsOften xs ys
often_permuted nothing_left z = refl
often_permuted (one_placed {x = x} p i) z = ap (λ n. one z x + n) (often_permuted p z) ∙ sym (often_placed z i)

pub never : (z : NameId) (xs : List NameId) → (Contains xs z → ⊥) → often z xs ≡ 0
never z [] f = refl
never z (x ∷ xs) f = by (same_name x z) (same_name_told x z) (never z xs (λ c. f (contains_later x z xs c)))
  where
    by : (b : Bool) → Told (x ≡ z) b → often z xs ≡ 0 → cond {A = ℕ} b 1 0 + often z xs ≡ 0
    by true (yes q) e = absurd (f (subst (λ y. Contains (y ∷ xs) z) (sym q) (contains_first z xs)))
    by false t e = omega (arith, e)

pub placed : (x : NameId) (xs : List NameId) → Contains xs x → (ys : List NameId) × Inserted x ys xs
placed x [] c = absurd (contains_none x c)
placed x (y ∷ xs) c = ⊎_elim (λ q. (xs, subst (λ z. Inserted x xs (z ∷ xs)) (sym q) at_front)) (λ k. let r = placed x xs k in (y ∷ r.0, further r.1)) (contains_cases y x xs c)

-- a name that is first in one list is in the other
first_there : (x : NameId) (xs ys : List NameId) → AreAsOften (x ∷ xs) ys → Contains ys x
first_there x xs ys h = by (among_told same_name same_name_told ys x)
  where
    by : {b : Bool} → Told (Contains ys x) b → Contains ys x
    by (yes c) = c
    by (no n) = let e = h x in let o = one_itself x in let k = never x ys n in absurd (omega (arith, e, o, k))

pub permuted_often : (xs ys : List NameId) → AreAsOften xs ys → Permuted xs ys
permuted_often [] [] h = nothing_left
permuted_often [] (y ∷ ys) h = let e = h y in let o = one_itself y in absurd (omega (arith, e, o))
permuted_often (x ∷ xs) ys h =
    let r = placed x ys (first_there x xs ys h) in
    one_placed (permuted_often xs r.0 (λ z. let e = h z in let k = often_placed z r.1 in omega (arith, e, k))) r.1

-- ---- names in order
rest_in_order : (x : NameId) (xs : List NameId) → IsInOrder (x ∷ xs) → IsInOrder xs
rest_in_order x xs h i j d l k = h (suc i) (suc j) d (omega (arith, l)) (omega (arith, k))

first_least : (x y : NameId) (xs : List NameId) → IsInOrder (x ∷ xs) → Contains (x ∷ xs) y → x.0 ≤ y.0
first_least x y xs h c = subst (λ (z : NameId). x.0 ≤ z.0) c.2 (h 0 c.0 y (omega arith) c.1)

same_first : (x y : NameId) → x.0 ≤ y.0 → y.0 ≤ x.0 → x ≡ y
same_first x y l k = ap (λ (n : ℕ). record { 0 = n }) (let e : x.0 ≡ y.0 = omega (arith, l, k) in e)

pub one_order : (xs ys : List NameId) → IsInOrder xs → IsInOrder ys → AreAsOften xs ys → xs ≡ ys
one_order [] [] f g h = refl
one_order [] (y ∷ ys) f g h = let e = h y in let o = one_itself y in absurd (omega (arith, e, o))
one_order (x ∷ xs) [] f g h = let e = h x in let o = one_itself x in absurd (omega (arith, e, o))
one_order (x ∷ xs) (y ∷ ys) f g h =
    let q = same_first x y (first_least x y xs f (first_there y ys (x ∷ xs) (λ z. sym (h z)))) (first_least y x ys g (first_there x xs (y ∷ ys) h)) in
    ap₂ (λ z zs. z ∷ zs) q (one_order xs ys (rest_in_order x xs f) (rest_in_order y ys g) (λ z. let e = h z in let k : one z x ≡ one z y = ap (one z) q in omega (arith, e, k)))

-- ---- the same tests
-- names are those of a set in order exactly where they are that set once they are in order too
pub found_in_order : (names sorted set : List NameId) → IsPermutation names sorted → IsInOrder sorted → IsInOrder set → pointwise name_ids.eq-value.it sorted set ≡ is_permuted same_name names set
found_in_order names sorted set p f g =
    told_alike (told _ (slice_eq-Decides {A = NameId} {E = λ x y. x.0 == y.0} name_ids_agree sorted set _ refl)) (permuted_told same_name same_name_told names set)
    (λ e. permuted_often names set (λ z. often_moved names sorted p z ∙ ap (often z) e))
    (λ q. one_order sorted set f g (λ z. sym (often_moved names sorted p z) ∙ often_permuted q z))

-- a set in order has the same names
pub permuted_in_order : (names set sorted : List NameId) → IsPermutation set sorted → is_permuted same_name names sorted ≡ is_permuted same_name names set
permuted_in_order names set sorted p =
    told_alike (permuted_told same_name same_name_told names sorted) (permuted_told same_name same_name_told names set)
    (λ q. permuted_often names set (λ z. often_permuted q z ∙ sym (often_moved set sorted p z)))
    (λ q. permuted_often names sorted (λ z. often_permuted q z ∙ often_moved set sorted p z))
