-- Orders of columns, and that no matching is left where rows share too few columns.
use Rattle.std.specs.Prelude.{◌≡◌, ◌≢◌, ◌<◌, ◌≤◌, ◌+◌, ◌⊎◌, ℕ, zero, suc, Bool, true, false, List, [], ◌∷◌, length, cond, eqb, ◌||◌, slice_index_or}
use Rattle.std.proofs.Common.{refl, sym, subst, ap, ◌∙◌, arith, inl, inr, ⊎_elim}
use Rattle.std.specs.Cmp.{nat_eq_equiv}
use Rattle.std.specs.List.{AllByRecursion, IsDistinct, SwappedAt, list_any}
use Rattle.std.proofs.lemmas.Bool.Decides.{eqb_tells}
use Rattle.std.proofs.lemmas.Map.Made.{length-le_from_is_member}
use Rattle.std.proofs.lemmas.Map.Steps.{length-le_from_distinct_below}
use Rattle.aut_check.specs.Matchings.{column_of, mark_at, IsBegun, IsMatching, IsMoved, IsOrder}

pub same_or_not : (a b : ℕ) → (a ≡ b) ⊎ (a ≢ b)
same_or_not a b = elim (eqb_tells a b) [ inl w ↦ inl w.1 | inr w ↦ inr w.1 ]

pub less_unless_same : (i j : ℕ) → i < j + 1 → (i ≡ j → ⊥) → i < j
less_unless_same i j l n = grind (arith, l, n)

pub less_or_same : (i j : ℕ) → i < j + 1 → (i < j) ⊎ (i ≡ j)
less_or_same i j l = ⊎_elim (λ e. inr e) (λ n. inl (less_unless_same i j l n)) (same_or_not i j)

-- ---- two columns exchanged
data Where (a b m : ℕ) : Type 0 where
  here : m ≡ a → Where a b m
  there : m ≢ a → m ≡ b → Where a b m
  away : m ≢ a → m ≢ b → Where a b m

where_is : (a b m : ℕ) → Where a b m
where_is a b m = ⊎_elim (λ e. here e) (λ n. ⊎_elim (λ e. there n e) (λ o. away n o) (same_or_not m b)) (same_or_not m a)

module _ (k : ℕ) (xs ys : List ℕ) (a b : ℕ) (order : IsOrder k xs) (inside : a < k) (other : b < k) (long : length ys ≡ length xs) (swapped : SwappedAt xs ys a b) where
  at_a : (m : ℕ) → m ≡ a → column_of ys m ≡ column_of xs b
  at_a m e = ap (column_of ys) e ∙ swapped.0 0

  at_b : (m : ℕ) → m ≡ b → column_of ys m ≡ column_of xs a
  at_b m e = ap (column_of ys) e ∙ swapped.1 0

  elsewhere : (m : ℕ) → m ≢ a → m ≢ b → column_of ys m ≡ column_of xs m
  elsewhere m n o = swapped.2 m 0 n o

  exchanged_within : (m : ℕ) → m < k → column_of ys m < k
  exchanged_within m l = by (where_is a b m)
    where
      by : Where a b m → column_of ys m < k
      by (here e) = subst (λ (c : ℕ). c < k) (sym (at_a m e)) (order.within b other)
      by (there n e) = subst (λ (c : ℕ). c < k) (sym (at_b m e)) (order.within a inside)
      by (away n o) = subst (λ (c : ℕ). c < k) (sym (elsewhere m n o)) (order.within m l)

  exchanged_differ : (m n : ℕ) → m < k → n < k → column_of ys m ≡ column_of ys n → m ≡ n
  exchanged_differ m n l h same = by (where_is a b m) (where_is a b n)
    where
      by : Where a b m → Where a b n → m ≡ n
      by (here e) (here f) = e ∙ sym f
      by (here e) (there _ f) = e ∙ sym (order.differ b a other inside (sym (at_a m e) ∙ same ∙ at_b n f)) ∙ sym f
      by (here e) (away p q) = absurd (q (sym (order.differ b n other h (sym (at_a m e) ∙ same ∙ elsewhere n p q))))
      by (there _ e) (here f) = e ∙ sym (order.differ a b inside other (sym (at_b m e) ∙ same ∙ at_a n f)) ∙ sym f
      by (there _ e) (there _ f) = e ∙ sym f
      by (there _ e) (away p q) = absurd (p (sym (order.differ a n inside h (sym (at_b m e) ∙ same ∙ elsewhere n p q))))
      by (away p q) (here f) = absurd (q (order.differ m b l other (sym (elsewhere m p q) ∙ same ∙ at_a n f)))
      by (away p q) (there _ f) = absurd (p (order.differ m a l inside (sym (elsewhere m p q) ∙ same ∙ at_b n f)))
      by (away p q) (away u v) = order.differ m n l h (sym (elsewhere m p q) ∙ same ∙ elsewhere n u v)

  pub exchanged_order : IsOrder k ys
  exchanged_order = record { long = long ∙ order.long; within = exchanged_within; differ = exchanged_differ }

-- ---- the columns of some rows
abbrev pub picks : (ℕ → Bool) → (ℕ → ℕ) → ℕ → List ℕ
picks p f zero = []
picks p f (suc n) = cond (p n) (f n ∷ picks p f n) (picks p f n)

picks_long : (p : ℕ → Bool) (f g : ℕ → ℕ) (n : ℕ) → length (picks p f n) ≡ length (picks p g n)
picks_long p f g zero = refl
picks_long p f g (suc n) = by (p n) (picks p f n) (picks p g n) (picks_long p f g n)
  where
    by : (b : Bool) (xs ys : List ℕ) → length xs ≡ length ys → length (cond b (f n ∷ xs) xs) ≡ length (cond b (g n ∷ ys) ys)
    by true xs ys e = ap suc e
    by false xs ys e = e

all_picks_long : (f : ℕ → ℕ) (n : ℕ) → length (picks (λ _. true) f n) ≡ n
all_picks_long f zero = refl
all_picks_long f (suc n) = ap suc (all_picks_long f n)

module _ (p : ℕ → Bool) (f : ℕ → ℕ) where
  pub record IsPicked (n x : ℕ) : Type 0 where
    pub row : ℕ
    pub below : row < n
    pub is : p row ≡ true
    pub column : f row ≡ x

  later : (n x : ℕ) → IsPicked n x → IsPicked (suc n) x
  later n x h = let l = h.below in record { row = h.row; below = omega (arith, l); is = h.is; column = h.column }

  picked : (n x : ℕ) → list_any (eqb x) (picks p f n) ≡ true → IsPicked n x
  picked zero x e = absurd (let never : ⊥ = cc in never)
  picked (suc n) x e = by (p n) refl (picked n x) e
    where
      by : (b : Bool) → p n ≡ b → (list_any (eqb x) (picks p f n) ≡ true → IsPicked n x) → list_any (eqb x) (cond b (f n ∷ picks p f n) (picks p f n)) ≡ true → IsPicked (suc n) x
      by true is before h = ⊎_elim
          (λ w. record { row = n; below = omega arith; is = is; column = sym w.1 })
          (λ w. later n x (before (subst (λ (b : Bool). (b || list_any (eqb x) (picks p f n)) ≡ true) w.0 h)))
          (eqb_tells x (f n))
      by false is before h = later n x (before h)

  is_picked : (n i : ℕ) → i < n → p i ≡ true → list_any (eqb (f i)) (picks p f n) ≡ true
  is_picked zero i l is = absurd (omega (arith, l))
  is_picked (suc n) i l is = ⊎_elim
      (λ e. subst (λ (b : Bool). list_any (eqb (f i)) (cond b (f n ∷ picks p f n) (picks p f n)) ≡ true) (sym (ap p (sym e) ∙ is)) (front (f n) (ap f e)))
      (λ other. behind (p n) (is_picked n i (less i n l other) is))
      (same_or_not i n)
    where
      front : (y : ℕ) → f i ≡ y → list_any (eqb (f i)) (y ∷ picks p f n) ≡ true
      front y e = ⊎_elim (λ w. subst (λ (b : Bool). (b || list_any (eqb (f i)) (picks p f n)) ≡ true) (sym w.0) refl) (λ w. absurd (w.1 e)) (eqb_tells (f i) y)

      or_true : (b : Bool) {c : Bool} → c ≡ true → (b || c) ≡ true
      or_true true e = refl
      or_true false e = e

      behind : (b : Bool) → list_any (eqb (f i)) (picks p f n) ≡ true → list_any (eqb (f i)) (cond b (f n ∷ picks p f n) (picks p f n)) ≡ true
      behind true e = or_true (eqb (f i) (f n)) e
      behind false e = e

      less : (j m : ℕ) → j < suc m → (j ≡ m → ⊥) → j < m
      less j m h o = grind (arith, h, o)

  picks_apart : (n x : ℕ) → ((i : ℕ) → i < n → p i ≡ true → x ≡ f i → ⊥) → AllByRecursion (λ (y : ℕ). eqb x y ≡ false) (picks p f n)
  picks_apart zero x h = tt
  picks_apart (suc n) x h = by (p n) refl (picks_apart n x (λ i l. h i (omega (arith, l))))
    where
      by : (b : Bool) → p n ≡ b → AllByRecursion (λ (y : ℕ). eqb x y ≡ false) (picks p f n) → AllByRecursion (λ (y : ℕ). eqb x y ≡ false) (cond b (f n ∷ picks p f n) (picks p f n))
      by true is r = (⊎_elim (λ w. absurd (h n (omega arith) is w.1)) (λ w. w.0) (eqb_tells x (f n)), r)
      by false is r = r

  picks_differ : (n : ℕ) → ((i j : ℕ) → i < n → j < n → p i ≡ true → p j ≡ true → f i ≡ f j → i ≡ j) → IsDistinct eqb (picks p f n)
  unfolding IsDistinct
  picks_differ zero h = tt
  picks_differ (suc n) h = by (p n) refl (picks_differ n (λ i j l m. h i j (omega (arith, l)) (omega (arith, m))))
    where
      by : (b : Bool) → p n ≡ b → IsDistinct eqb (picks p f n) → IsDistinct eqb (cond b (f n ∷ picks p f n) (picks p f n))
      by true is r = (picks_apart n (f n) (λ i l q e. let same : n ≡ i = h n i (omega arith) (omega (arith, l)) is q e in omega (arith, l, same)), r)
      by false is r = r

-- ---- each column has a row
pub record HasRow (k : ℕ) (xs : List ℕ) (c : ℕ) : Type 0 where
  pub row : ℕ
  pub below : row < k
  pub column : column_of xs row ≡ c

look_for : (f : ℕ → ℕ) (n c : ℕ) → IsPicked (λ _. true) f n c ⊎ ((i : ℕ) → i < n → f i ≡ c → ⊥)
look_for f zero c = inr (λ i l e. omega (arith, l))
look_for f (suc n) c = ⊎_elim
    (λ e. inl (record { row = n; below = omega arith; is = refl; column = e }))
    (λ o. ⊎_elim
    (λ h. inl (later (λ _. true) f n c h))
    (λ none. inr (λ i l e. ⊎_elim (λ q. o (ap f (sym q) ∙ e)) (λ q. none i (less i n l q) e) (same_or_not i n)))
    (look_for f n c))
    (same_or_not (f n) c)
  where
    less : (j m : ℕ) → j < suc m → (j ≡ m → ⊥) → j < m
    less j m h o = grind (arith, h, o)

pub has_row : (k : ℕ) (xs : List ℕ) → IsOrder k xs → (c : ℕ) → c < k → HasRow k xs c
unfolding IsDistinct
has_row k xs order c l = ⊎_elim (λ h. record { row = h.row; below = h.below; column = h.column }) (λ none. absurd (too_many none)) (look_for (column_of xs) k c)
  where
    too_many : ((i : ℕ) → i < k → column_of xs i ≡ c → ⊥) → ⊥
    too_many none =
        let ys : List ℕ = c ∷ picks (λ _. true) (column_of xs) k in
        let apart : AllByRecursion (λ (y : ℕ). eqb c y ≡ false) (picks (λ _. true) (column_of xs) k) = picks_apart (λ _. true) (column_of xs) k c (λ i m _ e. none i m (sym e)) in
        let different : IsDistinct eqb ys = (apart, picks_differ (λ _. true) (column_of xs) k (λ i j m n _ _ e. order.differ i j m n e)) in
        let few : length ys ≤ k = length-le_from_distinct_below ys k different (λ q h. below q (eqb_tells q c) h) in
        let many : length (picks (λ _. true) (column_of xs) k) ≡ k = all_picks_long (column_of xs) k in
        omega (arith, few, many)
      where
        below : (q : ℕ) → ((eqb q c ≡ true) × (q ≡ c)) ⊎ ((eqb q c ≡ false) × (q ≢ c)) → list_any (eqb q) (c ∷ picks (λ _. true) (column_of xs) k) ≡ true → q < k
        below q (inl w) h = subst (λ (z : ℕ). z < k) (sym w.1) l
        below q (inr w) h =
            let r = picked (λ _. true) (column_of xs) k q (subst (λ (b : Bool). (b || list_any (eqb q) (picks (λ _. true) (column_of xs) k)) ≡ true) w.0 h) in
            subst (λ (z : ℕ). z < k) r.column (order.within r.row r.below)

-- ---- rows that share too few columns
module _ (marks : List (List Bool)) (row : ℕ) (first : List ℕ) (begun : IsBegun marks row first) (moved : List Bool) (root : IsMoved moved row) (upto : (v : ℕ) → IsMoved moved v → v ≤ row)
    (closed : (v q : ℕ) → IsMoved moved v → q < length marks → mark_at marks v (column_of first q) ≡ true → IsMoved moved q × (q < row)) where
  abbrev is_moved : ℕ → Bool
  is_moved v = slice_index_or moved v false

  within : (v : ℕ) → v < suc row → v < length marks
  within v l = let b = begun.below in omega (arith, l, b)

  module _ (columns : List ℕ) (h : IsMatching marks columns) where
    -- the column of a moved row is the first one of a moved row in front of the root
    record IsTaken (c : ℕ) : Type 0 where
      by_row : ℕ
      before : by_row < row
      moves : IsMoved moved by_row
      column : column_of first by_row ≡ c

    taken : (v : ℕ) → v < suc row → IsMoved moved v → IsTaken (column_of columns v)
    taken v l m =
        let r = has_row (length marks) first begun.order (column_of columns v) (h.order.within v (within v l)) in
        let marked : mark_at marks v (column_of first r.row) ≡ true = ap (mark_at marks v) r.column ∙ h.marked v (within v l) in
        let q = closed v r.row m r.below marked in
        record { by_row = r.row; before = q.1; moves = q.0; column = r.column }

    root_differs : (v : ℕ) → v < suc row → is_moved v ≡ true → column_of first row ≡ column_of columns v → ⊥
    root_differs v l m e =
        let t = taken v l m in
        let before = t.before in
        let same : row ≡ t.by_row = begun.order.differ row t.by_row begun.below (within t.by_row (omega (arith, before))) (e ∙ sym t.column) in
        omega (arith, before, same)

    pub no_matching_left : ⊥
    unfolding IsDistinct
    no_matching_left =
        let xs : List ℕ = column_of first row ∷ picks is_moved (column_of columns) (suc row) in
        let ys : List ℕ = picks is_moved (column_of first) (suc row) in
        let different : IsDistinct eqb xs = (
          picks_apart is_moved (column_of columns) (suc row) (column_of first row) root_differs,
          picks_differ is_moved (column_of columns) (suc row) (λ i j l m _ _ e. h.order.differ i j (within i l) (within j m) e),
        ) in
        let few : length xs ≤ length ys = length-le_from_is_member nat_eq_equiv xs ys different (λ q e. among q (eqb_tells q (column_of first row)) e) in
        let same : length (picks is_moved (column_of columns) (suc row)) ≡ length ys = picks_long is_moved (column_of columns) (column_of first) (suc row) in
        omega (arith, few, same)
      where
        among : (q : ℕ) → ((eqb q (column_of first row) ≡ true) × (q ≡ column_of first row)) ⊎ ((eqb q (column_of first row) ≡ false) × (q ≢ column_of first row)) → list_any (eqb q) (column_of first row ∷ picks is_moved (column_of columns) (suc row)) ≡ true
            → list_any (eqb q) (picks is_moved (column_of first) (suc row)) ≡ true
        among q (inl w) e = subst (λ (z : ℕ). list_any (eqb z) (picks is_moved (column_of first) (suc row)) ≡ true) (sym w.1) (is_picked is_moved (column_of first) (suc row) row (omega arith) root)
        among q (inr w) e =
            let r = picked is_moved (column_of columns) (suc row) q (subst (λ (b : Bool). (b || list_any (eqb q) (picks is_moved (column_of columns) (suc row))) ≡ true) w.0 e) in
            let t = taken r.row r.below r.is in
            let before = t.before in
            subst (λ (z : ℕ). list_any (eqb z) (picks is_moved (column_of first) (suc row)) ≡ true) (t.column ∙ r.column) (is_picked is_moved (column_of first) (suc row) t.by_row (omega (arith, before)) t.moves)
