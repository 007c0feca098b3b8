-- Orders of places, and lists in another order.
use Rattle.std.specs.Prelude.{◌≡◌, ◌≢◌, ◌<◌, ◌++◌, ℕ, zero, suc, List, [], ◌∷◌, length, map, take, drop, slice_index_or}
use Rattle.std.proofs.Common.{refl, sym, subst, ap, ap₂, ◌∙◌, arith}
use Rattle.std.specs.List.{AllByRecursion}
use Rattle.std.proofs.lemmas.List.{length-map}
use Rattle.process_terms.specs.Labels.{Inserted, at_front, further, Permuted, nothing_left, one_placed}
use Rattle.aut_check.specs.Matchings.{column_of, IsOrder}

-- no element stands twice
abbrev pub AreApart : List ℕ → Type 0
AreApart [] = Unit {0}
AreApart (c ∷ cs) = AllByRecursion (λ (e : ℕ). c ≢ e) cs × AreApart cs

-- ---- by places
all_by_place : (P : ℕ → Type 0) (xs : List ℕ) → ((i : ℕ) → i < length xs → P (column_of xs i)) → AllByRecursion P xs
all_by_place P [] h = tt
all_by_place P (x ∷ xs) h = (h zero (omega arith), all_by_place P xs (λ i l. h (suc i) (omega (arith, l))))

place_of_all : (P : ℕ → Type 0) (xs : List ℕ) → AllByRecursion P xs → (i : ℕ) → i < length xs → P (column_of xs i)
place_of_all P [] h i l = absurd (omega (arith, l))
place_of_all P (x ∷ xs) h zero l = h.0
place_of_all P (x ∷ xs) h (suc i) l = place_of_all P xs h.1 i (omega (arith, l))

apart_by_place : (xs : List ℕ) → ((i j : ℕ) → i < length xs → j < length xs → column_of xs i ≡ column_of xs j → i ≡ j) → AreApart xs
apart_by_place [] h = tt
apart_by_place (x ∷ xs) h = (
  all_by_place (λ (e : ℕ). x ≢ e) xs (λ i l e. let same : zero ≡ suc i = h zero (suc i) (omega arith) (omega (arith, l)) e in omega (arith, same)),
  apart_by_place xs (λ i j l m e. let same : suc i ≡ suc j = h (suc i) (suc j) (omega (arith, l)) (omega (arith, m)) e in omega (arith, same)),
)

place_of_apart : (xs : List ℕ) → AreApart xs → (i j : ℕ) → i < length xs → j < length xs → column_of xs i ≡ column_of xs j → i ≡ j
place_of_apart [] h i j l m e = absurd (omega (arith, l))
place_of_apart (x ∷ xs) h zero zero l m e = refl
place_of_apart (x ∷ xs) h zero (suc j) l m e = absurd (place_of_all (λ (y : ℕ). x ≢ y) xs h.0 j (omega (arith, m)) e)
place_of_apart (x ∷ xs) h (suc i) zero l m e = absurd (place_of_all (λ (y : ℕ). x ≢ y) xs h.0 i (omega (arith, l)) (sym e))
place_of_apart (x ∷ xs) h (suc i) (suc j) l m e = ap suc (place_of_apart xs h.1 i j (omega (arith, l)) (omega (arith, m)) e)

-- ---- places around one that is taken out
lower : ℕ → ℕ → ℕ
lower zero zero = zero
lower zero (suc j) = j
lower (suc c) zero = zero
lower (suc c) (suc j) = suc (lower c j)

raise : ℕ → ℕ → ℕ
raise zero j = suc j
raise (suc c) zero = zero
raise (suc c) (suc j) = suc (raise c j)

module _ {A : Type 0} (d : A) where
  abbrev pub element : List A → ℕ → A
  element xs i = slice_index_or xs i d

  lower_at : (xs : List A) (c j : ℕ) → c ≢ j → c < length xs → element (take c xs ++ drop (suc c) xs) (lower c j) ≡ element xs j
  unfolding lower
  lower_at [] c j n l = absurd (omega (arith, l))
  lower_at (x ∷ xs) zero zero n l = absurd (n refl)
  lower_at (x ∷ xs) zero (suc j) n l = refl
  lower_at (x ∷ xs) (suc c) zero n l = refl
  lower_at (x ∷ xs) (suc c) (suc j) n l = lower_at xs c j (λ e. n (ap suc e)) (omega (arith, l))

  lowered : (xs : List A) (c : ℕ) (cs : List ℕ) → c < length xs → AllByRecursion (λ (e : ℕ). c ≢ e) cs → map (element (take c xs ++ drop (suc c) xs)) (map (lower c) cs) ≡ map (element xs) cs
  lowered xs c [] l h = refl
  lowered xs c (j ∷ js) l h = ap₂ (λ (y : A) (ys : List A). y ∷ ys) (lower_at xs c j h.0 l) (lowered xs c js l h.1)

  taken_long : (xs : List A) (c : ℕ) → c < length xs → suc (length (take c xs ++ drop (suc c) xs)) ≡ length xs
  taken_long [] c l = absurd (omega (arith, l))
  taken_long (x ∷ xs) zero l = refl
  taken_long (x ∷ xs) (suc c) l = ap suc (taken_long xs c (omega (arith, l)))

  taken_in : (xs : List A) (c : ℕ) → c < length xs → Inserted (element xs c) (take c xs ++ drop (suc c) xs) xs
  taken_in [] c l = absurd (omega (arith, l))
  taken_in (x ∷ xs) zero l = at_front
  taken_in (x ∷ xs) (suc c) l = further (taken_in xs c (omega (arith, l)))

lower_below : (n c j : ℕ) → c ≢ j → c < suc n → j < suc n → lower c j < n
unfolding lower
lower_below n zero zero m l h = absurd (m refl)
lower_below n zero (suc j) m l h = omega (arith, h)
lower_below zero (suc c) j m l h = absurd (omega (arith, l))
lower_below (suc n) (suc c) zero m l h = omega arith
lower_below (suc n) (suc c) (suc j) m l h = let r = lower_below n c j (λ e. m (ap suc e)) (omega (arith, l)) (omega (arith, h)) in omega (arith, r)

lower_differs : (c i j : ℕ) → c ≢ i → c ≢ j → lower c i ≡ lower c j → i ≡ j
unfolding lower
lower_differs zero zero j n m e = absurd (n refl)
lower_differs zero (suc i) zero n m e = absurd (m refl)
lower_differs zero (suc i) (suc j) n m e = ap suc e
lower_differs (suc c) zero zero n m e = refl
lower_differs (suc c) zero (suc j) n m e = absurd (omega (arith, e))
lower_differs (suc c) (suc i) zero n m e = absurd (omega (arith, e))
lower_differs (suc c) (suc i) (suc j) n m e = ap suc (lower_differs c i j (λ q. n (ap suc q)) (λ q. m (ap suc q)) (let same : lower c i ≡ lower c j = omega (arith, e) in same))

all_lower_below : (n c : ℕ) (cs : List ℕ) → c < suc n → AllByRecursion (λ (e : ℕ). c ≢ e) cs → AllByRecursion (λ (e : ℕ). e < suc n) cs → AllByRecursion (λ (e : ℕ). e < n) (map (lower c) cs)
all_lower_below n c [] l h k = tt
all_lower_below n c (j ∷ js) l h k = (lower_below n c j h.0 l k.0, all_lower_below n c js l h.1 k.1)

lower_apart : (c : ℕ) (cs : List ℕ) → AllByRecursion (λ (e : ℕ). c ≢ e) cs → AreApart cs → AreApart (map (lower c) cs)
lower_apart c [] h k = tt
lower_apart c (j ∷ js) h k = (others js h.1 k.0, lower_apart c js h.1 k.1)
  where
    others : (es : List ℕ) → AllByRecursion (λ (e : ℕ). c ≢ e) es → AllByRecursion (λ (e : ℕ). j ≢ e) es → AllByRecursion (λ (e : ℕ). lower c j ≢ e) (map (lower c) es)
    others [] p q = tt
    others (e ∷ es) p q = (λ same. q.0 (lower_differs c j e h.0 p.0 same), others es p.1 q.1)

-- ---- an order puts a list in another order
listed_permute : {A : Type 0} (d : A) (n : ℕ) (cs : List ℕ) (xs : List A) → length cs ≡ n → length cs ≡ length xs → AllByRecursion (λ (e : ℕ). e < length xs) cs → AreApart cs → Permuted (map (element d xs) cs) xs
listed_permute d n [] [] size long below apart = nothing_left
listed_permute d n [] (x ∷ xs) size long below apart = absurd (omega (arith, long))
listed_permute d zero (c ∷ cs) xs size long below apart = absurd (omega (arith, size))
listed_permute d (suc n) (c ∷ cs) xs size long below apart =
    let ys : List _ = take c xs ++ drop (suc c) xs in
    let others : suc (length ys) ≡ length xs = taken_long d xs c below.0 in
    let m : length (map (lower c) cs) ≡ length cs = length-map cs (lower c) in
    let fewer : length (map (lower c) cs) ≡ length ys = omega (arith, m, long, others) in
    let within : AllByRecursion (λ (e : ℕ). e < length ys) (map (lower c) cs) = all_lower_below (length ys) c cs (subst (λ (n : ℕ). c < n) (sym others) below.0) apart.0 (subst (λ (n : ℕ). AllByRecursion (λ (e : ℕ). e < n) cs) (sym others) below.1) in
    one_placed (subst (λ (zs : List _). Permuted zs ys) (lowered d xs c cs below.0 apart.0) (listed_permute d n (map (lower c) cs) ys (omega (arith, m, size)) fewer within (lower_apart c cs apart.0 apart.1))) (taken_in d xs c below.0)

pub order_permutes : {A : Type 0} (d : A) (xs : List A) (cs : List ℕ) → IsOrder (length xs) cs → Permuted (map (element d xs) cs) xs
order_permutes d xs cs h =
    listed_permute d (length cs) cs xs refl h.long (all_by_place (λ (e : ℕ). e < length xs) cs (λ i l. h.within i (subst (λ (n : ℕ). i < n) h.long l)))
    (apart_by_place cs (λ i j l m e. h.differ i j (subst (λ (n : ℕ). i < n) h.long l) (subst (λ (n : ℕ). j < n) h.long m) e))

-- ---- a list in another order has an order
raise_below : (n c j : ℕ) → c < suc n → j < n → raise c j < suc n
unfolding raise
raise_below n zero j l h = omega (arith, h)
raise_below n (suc c) zero l h = omega arith
raise_below zero (suc c) (suc j) l h = absurd (omega (arith, h))
raise_below (suc n) (suc c) (suc j) l h = let r = raise_below n c j (omega (arith, l)) (omega (arith, h)) in omega (arith, r)

raise_other : (c j : ℕ) → c ≢ raise c j
unfolding raise
raise_other zero j e = omega (arith, e)
raise_other (suc c) zero e = omega (arith, e)
raise_other (suc c) (suc j) e = raise_other c j (let same : c ≡ raise c j = omega (arith, e) in same)

raise_differs : (c i j : ℕ) → raise c i ≡ raise c j → i ≡ j
unfolding raise
raise_differs zero i j e = omega (arith, e)
raise_differs (suc c) zero zero e = refl
raise_differs (suc c) zero (suc j) e = absurd (omega (arith, e))
raise_differs (suc c) (suc i) zero e = absurd (omega (arith, e))
raise_differs (suc c) (suc i) (suc j) e = ap suc (raise_differs c i j (let same : raise c i ≡ raise c j = omega (arith, e) in same))

module _ {A : Type 0} (d : A) where
  record IsPlaced (x : A) (ys zs : List A) : Type 0 where
    at : ℕ
    below : at < length zs
    is : element d zs at ≡ x
    long : length zs ≡ suc (length ys)
    others : (j : ℕ) → element d zs (raise at j) ≡ element d ys j

  placed : {x : A} {ys zs : List A} → Inserted x ys zs → IsPlaced x ys zs
  unfolding raise
  placed {x} {ys = ys} at_front = record { at = zero; below = omega arith; is = refl; long = refl; others = λ j. refl }
  placed (further {y = y} {xs = us} {ys = vs} i) =
      let r = placed i in
      let below : r.at < length vs = r.below in
      record { at = suc r.at; below = omega (arith, below); is = r.is; long = ap suc r.long; others = by us vs y r.at r.others }
    where
      by : (us vs : List A) (y : A) (at : ℕ) → ((j : ℕ) → element d vs (raise at j) ≡ element d us j) → (j : ℕ) → element d (y ∷ vs) (raise (suc at) j) ≡ element d (y ∷ us) j
      by us vs y at h zero = refl
      by us vs y at h (suc j) = h j

  record IsListed (ps xs : List A) : Type 0 where
    places : List ℕ
    long : length places ≡ length xs
    below : AllByRecursion (λ (e : ℕ). e < length xs) places
    apart : AreApart places
    are : ps ≡ map (element d xs) places

  raised : (c : ℕ) (ys zs : List A) → ((j : ℕ) → element d zs (raise c j) ≡ element d ys j) → (js : List ℕ) → map (element d zs) (map (raise c) js) ≡ map (element d ys) js
  raised c ys zs h [] = refl
  raised c ys zs h (j ∷ js) = ap₂ (λ (y : A) (us : List A). y ∷ us) (h j) (raised c ys zs h js)

  listed : {ps xs : List A} → Permuted ps xs → IsListed ps xs
  listed nothing_left = record { places = []; long = refl; below = tt; apart = tt; are = refl }
  listed (one_placed {x = x} {xs = ps} {ys = ys} {zs = zs} p i) =
      let r = listed p in
      let q = placed i in
      record {
        places = q.at ∷ map (raise q.at) r.places;
        long = let m = length-map r.places (raise q.at) in let k = r.long in let o = q.long in omega (arith, m, k, o);
        below = (q.below, all_raise_below (length ys) q.at r.places (length zs) q.long q.below r.below);
        apart = (all_other q.at r.places, raise_apart q.at r.places r.apart);
        are = ap₂ (λ (y : A) (us : List A). y ∷ us) (sym q.is) (r.are ∙ sym (raised q.at ys zs q.others r.places));
      }
    where
      all_raise_below : (n c : ℕ) (js : List ℕ) (k : ℕ) → k ≡ suc n → c < k → AllByRecursion (λ (e : ℕ). e < n) js → AllByRecursion (λ (e : ℕ). e < k) (map (raise c) js)
      all_raise_below n c [] k e l h = tt
      all_raise_below n c (j ∷ js) k e l h = (subst (λ (z : ℕ). raise c j < z) (sym e) (raise_below n c j (subst (λ (z : ℕ). c < z) e l) h.0), all_raise_below n c js k e l h.1)

      all_other : (c : ℕ) (js : List ℕ) → AllByRecursion (λ (e : ℕ). c ≢ e) (map (raise c) js)
      all_other c [] = tt
      all_other c (j ∷ js) = (raise_other c j, all_other c js)

      raise_apart : (c : ℕ) (js : List ℕ) → AreApart js → AreApart (map (raise c) js)
      raise_apart c [] h = tt
      raise_apart c (j ∷ js) h = (others js h.0, raise_apart c js h.1)
        where
          others : (es : List ℕ) → AllByRecursion (λ (e : ℕ). j ≢ e) es → AllByRecursion (λ (e : ℕ). raise c j ≢ e) (map (raise c) es)
          others [] k = tt
          others (e ∷ es) k = (λ same. k.0 (raise_differs c j e same), others es k.1)

  pub record HasOrder (ps xs : List A) : Type 0 where
    pub places : List ℕ
    pub order : IsOrder (length xs) places
    pub are : ps ≡ map (element d xs) places

  pub permuted_order : {ps xs : List A} → Permuted ps xs → HasOrder ps xs
  permuted_order {xs} p =
      let r = listed p in
      let inside : (i : ℕ) → i < length xs → i < length r.places = λ i l. subst (λ (n : ℕ). i < n) (sym r.long) l in
      record {
        places = r.places;
        order = record {
          long = r.long;
          within = λ i l. place_of_all (λ (e : ℕ). e < length xs) r.places r.below i (inside i l);
          differ = λ i j l m e. place_of_apart r.places r.apart i j (inside i l) (inside j m) e;
        };
        are = r.are;
      }
