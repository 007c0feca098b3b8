-- Entries that meet earlier ones, one entry after the other.
use Rattle.std.proofs.Common.{◌≡◌, ◌<◌, ◌≤◌, ◌+◌, ◌⊎◌, inl, inr, ⊎_elim, ℕ, zero, suc, Bool, true, false, cond, List, [], ◌∷◌, length, map, get_or, refl, ap, sym, ◌∙◌, subst, arith}
use Rattle.std.specs.Prelude.{Option, Some, None, slice_get, bytes_eq}
use Rattle.std.specs.BTreeMap.{BTreeMap, IsEmpty, is_at}
use Rattle.std.specs.Map.{lookup}
use Rattle.std.specs.Cmp.Lexicographic.{slice_cmp}
use Rattle.std.specs.Ordering.{nat_cmp}
use Rattle.std.proofs.lemmas.Option.{same_Some}
use Rattle.std.proofs.lemmas.Slice.Eq.{bytes_eq-Decides}
use denote.Ref.{Bor}
use Rattle.sort_table.specs.SortIndexes.{place_under}
use Rattle.sort_table.specs.Repeats.{Mark, Leaves, Meets, IsLeast, IsLeastPair, pair_under, Precedes, IsLesser, KnowsLeast}
use Rattle.sort_table.proofs.AliasCycles.{less_or_same}

-- ---- one place more
leaves_cases : (ms : List Mark) (place : ℕ) (m : Mark) (key : List ℕ) (n : ℕ) → slice_get ms place ≡ Some m → Leaves ms (place + 1) key n → Leaves ms place key n ⊎ ((m.left ≡ key) × (m.number ≡ n))
leaves_cases ms place m key n at (p, x, l, there, left, number) = ⊎_elim
    (λ less. inl (p, x, less, there, left, number))
    (λ same. let it : x ≡ m = same_Some x m (sym there ∙ (ap (slice_get ms) same ∙ at)) in inr (ap (λ (y : Mark). y.left) (sym it) ∙ left, ap (λ (y : Mark). y.number) (sym it) ∙ number))
    (less_or_same p place (omega (arith, l)))

leaves_more : (ms : List Mark) (place : ℕ) (key : List ℕ) (n : ℕ) → Leaves ms place key n → Leaves ms (place + 1) key n
leaves_more ms place key n (p, x, l, there, left, number) = (p, x, omega (arith, l), there, left, number)

leaves_now : (ms : List Mark) (place : ℕ) (m : Mark) → slice_get ms place ≡ Some m → Leaves ms (place + 1) m.left m.number
leaves_now ms place m at = (place, m, omega arith, at, refl, refl)

-- ---- the least one, one place more
least_other : (ms : List Mark) (place : ℕ) (m : Mark) (key : List ℕ) (o : Option ℕ) → slice_get ms place ≡ Some m → ¬ (m.left ≡ key) → IsLeast (Leaves ms place key) o → IsLeast (Leaves ms (place + 1) key) o
least_other ms place m key None at differs h = λ n there. ⊎_elim (λ before. h n before) (λ now. differs now.0) (leaves_cases ms place m key n at there)
least_other ms place m key (Some k) at differs h = (leaves_more ms place key k h.0, λ n there. ⊎_elim (λ before. h.1 n before) (λ now. absurd (differs now.0)) (leaves_cases ms place m key n at there))

least_kept : (ms : List Mark) (place : ℕ) (m : Mark) (key : List ℕ) (k : ℕ) → slice_get ms place ≡ Some m → k ≤ m.number → IsLeast (Leaves ms place key) (Some k) → IsLeast (Leaves ms (place + 1) key) (Some k)
least_kept ms place m key k at low h = (
  leaves_more ms place key k h.0,
  λ n there. ⊎_elim (λ before. h.1 n before) (λ now. let same : m.number ≡ n = now.1 in omega (arith, same, low)) (leaves_cases ms place m key n at there),
)

least_new : (ms : List Mark) (place : ℕ) (m : Mark) (o : Option ℕ) → slice_get ms place ≡ Some m → ((k : ℕ) → o ≡ Some k → m.number ≤ k) → IsLeast (Leaves ms place m.left) o → IsLeast (Leaves ms (place + 1) m.left) (Some m.number)
least_new ms place m o at low h = (leaves_now ms place m at, λ n there. ⊎_elim (λ before. under o low h n before) (λ now. let same : m.number ≡ n = now.1 in omega (arith, same)) (leaves_cases ms place m m.left n at there))
  where
    under : (o : Option ℕ) → ((k : ℕ) → o ≡ Some k → m.number ≤ k) → IsLeast (Leaves ms place m.left) o → (n : ℕ) → Leaves ms place m.left n → m.number ≤ n
    under None low h n before = absurd (h n before)
    under (Some k) low h n before =
        let a : m.number ≤ k = low k refl in
        let b : k ≤ n = h.1 n before in
        omega (arith, a, b)

-- ---- the map, one entry more
pub known_kept : (map : BTreeMap (Bor (List ℕ)) ℕ) (ms : List Mark) (place : ℕ) (m : Mark) (k : ℕ) → slice_get ms place ≡ Some m → place_under map m.left ≡ Some k → k ≤ m.number → KnowsLeast map ms place → KnowsLeast map ms (place + 1)
known_kept map ms place m k at under low known key = by_test (bytes_eq m.left key) refl
  where
    by_test : (b : Bool) → bytes_eq m.left key ≡ b → IsLeast (Leaves ms (place + 1) key) (place_under map key)
    by_test true e =
        let same : m.left ≡ key = (bytes_eq-Decides m.left key).0 e in
        let here : place_under map key ≡ Some k = sym (ap (place_under map) same) ∙ under in
        subst (IsLeast (Leaves ms (place + 1) key)) (sym here) (least_kept ms place m key k at low (subst (IsLeast (Leaves ms place key)) here (known key)))
    by_test false e = least_other ms place m key (place_under map key) at (λ same. let yes : bytes_eq m.left key ≡ true = (bytes_eq-Decides m.left key).1 same in cc) (known key)

pub known_put : (old new : BTreeMap (Bor (List ℕ)) ℕ) (ms : List Mark) (place : ℕ) (m : Mark) → slice_get ms place ≡ Some m → ((k : ℕ) → place_under old m.left ≡ Some k → m.number ≤ k)
    → ((key : List ℕ) → place_under new key ≡ cond (bytes_eq m.left key) (Some m.number) (place_under old key)) → KnowsLeast old ms place → KnowsLeast new ms (place + 1)
known_put old new ms place m at low put known key = by_test (bytes_eq m.left key) refl
  where
    by_test : (b : Bool) → bytes_eq m.left key ≡ b → IsLeast (Leaves ms (place + 1) key) (place_under new key)
    by_test true e =
        let same : m.left ≡ key = (bytes_eq-Decides m.left key).0 e in
        let now : place_under new key ≡ Some m.number = put key ∙ ap (λ (b : Bool). cond b (Some m.number) (place_under old key)) e in
        subst (IsLeast (Leaves ms (place + 1) key)) (sym now)
        (subst (λ (k : List ℕ). IsLeast (Leaves ms (place + 1) k) (Some m.number)) same (least_new ms place m (place_under old m.left) at low (known m.left)))
    by_test false e =
        let now : place_under new key ≡ place_under old key = put key ∙ ap (λ (b : Bool). cond b (Some m.number) (place_under old key)) e in
        subst (IsLeast (Leaves ms (place + 1) key)) (sym now)
        (least_other ms place m key (place_under old key) at (λ same. let yes : bytes_eq m.left key ≡ true = (bytes_eq-Decides m.left key).1 same in cc) (known key))

-- ---- pairs
pub pair_least : (P : ℕ → Type 0) (o : Option ℕ) (s : ℕ) → IsLeast P o → IsLeastPair (λ i j. (s ≡ j) × P i) (pair_under o s)
pair_least P None s h = λ i j there. h i there.1
pair_least P (Some k) s h = ((refl, h.0), (λ i j there. let same : s ≡ j = there.0 in omega (arith, same)), λ i there. h.1 i there.1)

precedes_second : (p q : ℕ × ℕ) → Precedes (Some p) (Some q) → p.1 ≤ q.1
precedes_second p q (inl l) = omega (arith, l)
precedes_second p q (inr e) = let same : p.1 ≡ q.1 = e.0 in omega (arith, same)

precedes_first : (p q : ℕ × ℕ) → Precedes (Some p) (Some q) → p.1 ≡ q.1 → p.0 ≤ q.0
precedes_first p q (inl l) same = absurd (omega (arith, l, same))
precedes_first p q (inr e) same = e.1

-- a pair of either relation comes no earlier
module _ (R : ℕ → ℕ → Type 0) (p : ℕ × ℕ) where
  not_before : (a : Option (ℕ × ℕ)) → IsLeastPair R a → Precedes (Some p) a → (i j : ℕ) → R i j → p.1 ≤ j
  not_before None least pre i j there = absurd (least i j there)
  not_before (Some q) least pre i j there =
      let x : p.1 ≤ q.1 = precedes_second p q pre in
      let y : q.1 ≤ j = least.1 i j there in
      omega (arith, x, y)

  not_less : (a : Option (ℕ × ℕ)) → IsLeastPair R a → Precedes (Some p) a → (i : ℕ) → R i p.1 → p.0 ≤ i
  not_less None least pre i there = absurd (least i p.1 there)
  not_less (Some q) least pre i there =
      let x : p.1 ≤ q.1 = precedes_second p q pre in
      let y : q.1 ≤ p.1 = least.1 i p.1 there in
      let same : p.1 ≡ q.1 = omega (arith, x, y) in
      let low : q.0 ≤ i = least.2 i (subst (R i) same there) in
      let less : p.0 ≤ q.0 = precedes_first p q pre same in
      omega (arith, low, less)

none_precedes : (R : ℕ → ℕ → Type 0) (a : Option (ℕ × ℕ)) → IsLeastPair R a → Precedes None a → (i j : ℕ) → ¬ (R i j)
none_precedes R None least pre i j = least i j
none_precedes R (Some q) least pre i j = absurd pre

its_pair : (R : ℕ → ℕ → Type 0) (a : Option (ℕ × ℕ)) (p : ℕ × ℕ) → IsLeastPair R a → Some p ≡ a → R p.0 p.1
its_pair R a p least e = (subst (IsLeastPair R) (sym e) least).0

-- the lesser of two least pairs is the least of both relations
pub joined : (R S T : ℕ → ℕ → Type 0) (a b r : Option (ℕ × ℕ)) → IsLeastPair R a → IsLeastPair S b → IsLesser a b r → ((i j : ℕ) → R i j → T i j) → ((i j : ℕ) → S i j → T i j) → ((i j : ℕ) → T i j → R i j ⊎ S i j) → IsLeastPair T r
joined R S T a b None least other is in_r in_s cases = λ i j there. ⊎_elim (none_precedes R a least is.first i j) (none_precedes S b other is.second i j) (cases i j there)
joined R S T a b (Some p) least other is in_r in_s cases = (
  ⊎_elim (λ e. in_r p.0 p.1 (its_pair R a p least e)) (λ e. in_s p.0 p.1 (its_pair S b p other e)) is.one,
  (λ i j there. ⊎_elim (not_before R p a least is.first i j) (not_before S p b other is.second i j) (cases i j there)),
  λ i there. ⊎_elim (not_less R p a least is.first i) (not_less S p b other is.second i) (cases i p.1 there),
)

pub least_by : (R S : ℕ → ℕ → Type 0) (a : Option (ℕ × ℕ)) → ((i j : ℕ) → R i j → S i j) → ((i j : ℕ) → S i j → R i j) → IsLeastPair R a → IsLeastPair S a
least_by R S None to from least = λ i j there. least i j (from i j there)
least_by R S (Some p) to from least = (to p.0 p.1 least.0, (λ i j there. least.1 i j (from i j there)), λ i there. least.2 i (from i p.1 there))

-- ---- what meets, one place more
meets_cases : (ms : List Mark) (place : ℕ) (m : Mark) → slice_get ms place ≡ Some m → (i j : ℕ) → Meets ms (place + 1) i j → Meets ms place i j ⊎ ((m.number ≡ j) × Leaves ms place m.met i)
meets_cases ms place m at i j (q, x, l, there, number, leaves) = ⊎_elim
    (λ less. inl (q, x, less, there, number, leaves))
    (λ same.
    let it : x ≡ m = same_Some x m (sym there ∙ (ap (slice_get ms) same ∙ at)) in
    inr (ap (λ (y : Mark). y.number) (sym it) ∙ number, subst (λ (y : Mark). Leaves ms place y.met i) it (subst (λ (z : ℕ). Leaves ms z x.met i) same leaves)))
    (less_or_same q place (omega (arith, l)))

pub meets_more : (ms : List Mark) (place : ℕ) (m : Mark) (least : BTreeMap (Bor (List ℕ)) ℕ) (a b r : Option (ℕ × ℕ)) → slice_get ms place ≡ Some m → KnowsLeast least ms place → IsLeastPair (Meets ms place) a
    → b ≡ pair_under (place_under least m.met) m.number → IsLesser a b r → IsLeastPair (Meets ms (place + 1)) r
meets_more ms place m least a b r at known found pair lesser =
    joined (Meets ms place) (λ i j. (m.number ≡ j) × Leaves ms place m.met i) (Meets ms (place + 1)) a b r found
    (subst (IsLeastPair (λ i j. (m.number ≡ j) × Leaves ms place m.met i)) (sym pair) (pair_least (Leaves ms place m.met) (place_under least m.met) m.number (known m.met))) lesser
    (λ i j (q, x, l, there, number, leaves). (q, x, omega (arith, l), there, number, leaves))
    (λ i j (number, leaves). (place, m, omega arith, at, number, leaves))
    (meets_cases ms place m at)

pub meets_none : (ms : List Mark) → IsLeastPair (Meets ms 0) None
meets_none ms = λ i j (q, x, l, there, number, leaves). absurd (omega (arith, l))

pub known_none : (map : BTreeMap (Bor (List ℕ)) ℕ) (ms : List Mark) → IsEmpty map → KnowsLeast map ms 0
known_none map ms empty key =
    let none : place_under map key ≡ None = ap (lookup (is_at (λ (k : Bor (List ℕ)). slice_cmp nat_cmp key k.now))) empty in
    subst (IsLeast (Leaves ms 0 key)) (sym none) (λ n (p, x, l, there, left, number). absurd (omega (arith, l)))

-- what stands at a place of a list of marks
pub read_map : {A B : Type 0} (f : A → B) (xs : List A) (i : ℕ) (x : A) → i < length xs → x ≡ get_or xs i x → slice_get (map f xs) i ≡ Some (f x)
read_map f [] i x l e = absurd (omega (arith, l))
read_map f (y ∷ xs) zero x l e = ap (λ z. Some (f z)) (sym e)
read_map f (y ∷ xs) (suc i) x l e = let m : i < length xs = omega (arith, l) in read_map f xs i x m e
