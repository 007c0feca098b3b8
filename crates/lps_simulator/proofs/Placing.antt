-- Combinations from some places on.
use Rattle.std.proofs.Common.{◌≡◌, ◌<◌, ◌≤◌, ◌+◌, ℕ, zero, suc, List, [], ◌∷◌, ◌++◌, map, length, drop, get_or, refl, sym, ap, ap₂, ◌∙◌, subst, arith, add-one, Option, Some, None, take, Bool, true, false, not, cond, append_assoc, append-nil}
use Rattle.std.proofs.lemmas.List.{take_all, take_more, map-append}
use Rattle.std.proofs.lemmas.List.Elements.{All-nil, All-cons, All-head, All-tail}
use Rattle.std.specs.Prelude.{slice_get, Vec}
use Rattle.std.specs.Global.{Global}
use Rattle.std.specs.List.{flat_map, All}
use Rattle.data_theory.specs.declared.ids.TermId.{TermId}
use Rattle.lps_simulator.specs.Combinations.{combinations, rows, AreWithin, AreFilled, before_each, with_later, from_places, behind_places, read_before, places_read, LeavesOut}

-- ---- lists of which one is empty
none_before : {A : Type 0} (xs : List A) → flat_map (λ x. map (λ (c : List A). x ∷ c) []) xs ≡ []
none_before [] = refl
none_before (x ∷ xs) = none_before xs

pub none_with_empty : {A : Type 0} (xss : List (List A)) (k : ℕ) → k < length xss → length (get_or xss k []) ≡ 0 → combinations xss ≡ []
none_with_empty [] k l e = absurd (omega (arith, l))
none_with_empty ([] ∷ xss) zero l e = refl
none_with_empty ((x ∷ xs) ∷ xss) zero l e = absurd (omega (arith, e))
none_with_empty {A} (xs ∷ xss) (suc k) l e = ap (λ cs. flat_map (λ x. map (λ (c : List A). x ∷ c) cs) xs) (none_with_empty xss k (omega (arith, l)) e) ∙ none_before xs

pub all_filled : {A : Type 0} (xss : List (List A)) → ((k : ℕ) → k < length xss → 0 < length (get_or xss k [])) → AreFilled xss
all_filled [] h = tt
all_filled (xs ∷ xss) h = (h 0 (omega arith), all_filled xss (λ k l. h (suc k) (omega (arith, l))))

pub filled_at : {A : Type 0} (xss : List (List A)) (k : ℕ) → k < length xss → AreFilled xss → 0 < length (get_or xss k [])
filled_at [] k l h = absurd (omega (arith, l))
filled_at (xs ∷ xss) zero l h = h.0
filled_at (xs ∷ xss) (suc k) l h = filled_at xss k (omega (arith, l)) h.1

-- ---- the combinations with one first element, and those with later ones
split_at : {A : Type 0} (xs : List A) (xss : List (List A)) (j : ℕ) → before_each (slice_get xs j) (combinations xss) ++ combinations (drop (suc j) xs ∷ xss) ≡ combinations (drop j xs ∷ xss)
split_at [] xss zero = refl
split_at [] xss (suc j) = refl
split_at (x ∷ xs) xss zero = refl
split_at (x ∷ xs) xss (suc j) = split_at xs xss j

nothing_before : {A : Type 0} (o : Option A) → before_each o [] ≡ []
nothing_before None = refl
nothing_before (Some x) = refl

none_later : {A : Type 0} (xs : List A) (xss : List (List A)) (j : ℕ) → length xs ≤ j → combinations (drop j xs ∷ xss) ≡ []
none_later [] xss zero l = refl
none_later [] xss (suc j) l = refl
none_later (x ∷ xs) xss zero l = absurd (omega (arith, l))
none_later (x ∷ xs) xss (suc j) l = none_later xs xss j (omega (arith, l))

-- ---- one place more
pub first_place : {A : Type 0} (xss : List (List A)) (is : List ℕ) → length is < length xss → from_places xss (is ++ 0 ∷ []) ≡ from_places xss is
first_place [] is l = absurd (omega (arith, l))
first_place (xs ∷ xss) [] l = split_at xs xss 0
first_place (xs ∷ xss) (i ∷ is) l = ap (λ cs. before_each (slice_get xs i) cs ++ with_later xs xss i) (first_place xss is (omega (arith, l)))

next_goes : {A : Type 0} (xss : List (List A)) (is : List ℕ) (i : ℕ) → from_places xss (is ++ suc i ∷ []) ≡ behind_places xss (is ++ i ∷ [])
next_goes [] [] i = refl
next_goes [] (j ∷ is) i = refl
next_goes (xs ∷ xss) [] i = split_at xs xss (suc i) ∙ sym (ap (λ cs. cs ++ with_later xs xss i) (nothing_before (slice_get xs i)))
next_goes (xs ∷ xss) (j ∷ is) i = ap (λ cs. before_each (slice_get xs j) cs ++ with_later xs xss j) (next_goes xss is i)

pub next_place : {A : Type 0} (xss : List (List A)) (is : List ℕ) (i : ℕ) → from_places xss (is ++ (i + 1) ∷ []) ≡ behind_places xss (is ++ i ∷ [])
next_place xss is i = ap (λ n. from_places xss (is ++ n ∷ [])) (add-one i) ∙ next_goes xss is i

last_goes : {A : Type 0} (xss : List (List A)) (is : List ℕ) (i : ℕ) → length (get_or xss (length is) []) ≤ suc i → behind_places xss (is ++ i ∷ []) ≡ behind_places xss is
last_goes [] [] i l = refl
last_goes [] (j ∷ is) i l = refl
last_goes (xs ∷ xss) [] i l = ap₂ (λ cs ds. cs ++ ds) (nothing_before (slice_get xs i)) (none_later xs xss (suc i) l)
last_goes (xs ∷ xss) (j ∷ is) i l = ap (λ cs. before_each (slice_get xs j) cs ++ with_later xs xss j) (last_goes xss is i l)

pub last_place : {A : Type 0} (xss : List (List A)) (is : List ℕ) (i : ℕ) → length (get_or xss (length is) []) ≤ i + 1 → behind_places xss (is ++ i ∷ []) ≡ behind_places xss is
last_place xss is i l = last_goes xss is i (omega (arith, l))

-- ---- a place in each list
got : {A : Type 0} (xs : List A) (i : ℕ) → i < length xs → (x : A) × (slice_get xs i ≡ Some x)
got [] i l = absurd (omega (arith, l))
got (x ∷ xs) zero l = (x, refl)
got (x ∷ xs) (suc i) l = got xs i (omega (arith, l))

pub all_placed : {A : Type 0} (xss : List (List A)) (is : List ℕ) → AreWithin xss is → length is ≡ length xss → from_places xss is ≡ places_read xss is ∷ behind_places xss is
all_placed [] [] h l = refl
all_placed [] (i ∷ is) h l = absurd h
all_placed (xs ∷ xss) [] h l = absurd (omega (arith, l))
all_placed {A} (xs ∷ xss) (i ∷ is) h l = by_value (got xs i h.0) (all_placed xss is h.1 (omega (arith, l)))
  where
    by_value : (x : A) × (slice_get xs i ≡ Some x) → from_places xss is ≡ places_read xss is ∷ behind_places xss is → from_places (xs ∷ xss) (i ∷ is) ≡ places_read (xs ∷ xss) (i ∷ is) ∷ behind_places (xs ∷ xss) (i ∷ is)
    by_value (x, e) q =
        ap₂ (λ (o : Option A) cs. before_each o cs ++ with_later xs xss i) e q
        ∙ sym (ap (λ (o : Option A). read_before o (places_read xss is) ∷ (before_each o (behind_places xss is) ++ with_later xs xss i)) e)

-- ---- places within the lists
pub within_more : {A : Type 0} (xss : List (List A)) (is : List ℕ) (i : ℕ) → AreWithin xss is → length is < length xss → i < length (get_or xss (length is) []) → AreWithin xss (is ++ i ∷ [])
within_more [] is i h l k = absurd (omega (arith, l))
within_more (xs ∷ xss) [] i h l k = (k, tt)
within_more (xs ∷ xss) (j ∷ is) i h l k = (h.0, within_more xss is i h.1 (omega (arith, l)) k)

pub within_before : {A : Type 0} (xss : List (List A)) (is : List ℕ) (i : ℕ) → AreWithin xss (is ++ i ∷ []) → AreWithin xss is
within_before xss [] i h = tt
within_before [] (j ∷ is) i h = absurd h
within_before (xs ∷ xss) (j ∷ is) i h = (h.0, within_before xss is i h.1)

pub within_last : {A : Type 0} (xss : List (List A)) (is : List ℕ) (i : ℕ) → AreWithin xss (is ++ i ∷ []) → (length is < length xss) × (i < length (get_or xss (length is) []))
within_last [] [] i h = absurd h
within_last (xs ∷ xss) [] i h = (omega arith, h.0)
within_last [] (j ∷ is) i h = absurd h
within_last (xs ∷ xss) (j ∷ is) i h = let r = within_last xss is i h.1 in (omega (arith, r.0), r.1)

pub within_at : {A : Type 0} (xss : List (List A)) (is : List ℕ) (k : ℕ) → AreWithin xss is → k < length is → (k < length xss) × (get_or is k 0 < length (get_or xss k []))
within_at xss [] k h l = absurd (omega (arith, l))
within_at [] (i ∷ is) k h l = absurd h
within_at (xs ∷ xss) (i ∷ is) zero h l = (omega arith, h.0)
within_at (xs ∷ xss) (i ∷ is) (suc k) h l = let r = within_at xss is k h.1 (omega (arith, l)) in (omega (arith, r.0), r.1)

pub within_short : {A : Type 0} (xss : List (List A)) (is : List ℕ) → AreWithin xss is → length is ≤ length xss
within_short xss [] h = omega arith
within_short [] (i ∷ is) h = absurd h
within_short (xs ∷ xss) (i ∷ is) h = let r = within_short xss is h.1 in omega (arith, r)

-- ---- the lists in code
pub rows_long : (lists : List (Vec TermId Global)) → length (rows lists) ≡ length lists
rows_long [] = refl
rows_long (v ∷ vs) = ap suc (rows_long vs)

pub row_is : (lists : List (Vec TermId Global)) (k : ℕ) (list : Vec TermId Global) → k < length lists → list ≡ get_or lists k list → get_or (rows lists) k [] ≡ list.items
row_is [] k list l e = absurd (omega (arith, l))
row_is (v ∷ vs) zero list l e = sym (ap (λ (u : Vec TermId Global). u.items) e)
row_is (v ∷ vs) (suc k) list l e = row_is vs k list (omega (arith, l)) e

-- what the steps of the loops need
pub filling : (lists : List (Vec TermId Global)) (is new : List ℕ) → AreWithin (rows lists) is → AreFilled (rows lists) → length is < length lists → new ≡ is ++ 0 ∷ [] → AreWithin (rows lists) new × (from_places (rows lists) new ≡ from_places (rows lists) is)
filling lists is new w f l e =
    let k : length is < length (rows lists) = subst (λ n. length is < n) (sym (rows_long lists)) l in (
      subst (AreWithin (rows lists)) (sym e) (within_more (rows lists) is 0 w k (filled_at (rows lists) (length is) k f)),
      ap (from_places (rows lists)) e ∙ first_place (rows lists) is k,
    )

pub filled_all : (lists : List (Vec TermId Global)) (is : List ℕ) → AreWithin (rows lists) is → length lists ≤ length is → length is ≡ length lists
filled_all lists is w l = let r = within_short (rows lists) is w in let q = rows_long lists in omega (arith, r, q)

-- the place that was taken off stands in its list
pub record IsLastPlace (lists : List (Vec TermId Global)) (is : List ℕ) (i : ℕ) : Type 0 where
  pub inside : length is < length lists
  pub before : AreWithin (rows lists) is
  pub there : i < length (get_or (rows lists) (length is) [])

pub last_is : (lists : List (Vec TermId Global)) (old is : List ℕ) (i : ℕ) → AreWithin (rows lists) old → old ≡ is ++ i ∷ [] → IsLastPlace lists is i
last_is lists old is i w e =
    let v = subst (AreWithin (rows lists)) e w in
    let r = within_last (rows lists) is i v in
    record { inside = subst (λ n. length is < n) (rows_long lists) r.0; before = within_before (rows lists) is i v; there = r.1 }

pub passing_on : (lists : List (Vec TermId Global)) (old is new : List ℕ) (i n : ℕ) (list : Vec TermId Global) → AreWithin (rows lists) old → old ≡ is ++ i ∷ [] → n ≡ length is → list ≡ get_or lists n list → i + 1 < length list.items → new ≡ is ++ (i + 1) ∷ []
    → AreWithin (rows lists) new × (from_places (rows lists) new ≡ behind_places (rows lists) old)
passing_on lists old is new i n list w e q g l m =
    let p = last_is lists old is i w e in
    let h : list ≡ get_or lists (length is) list = subst (λ k. list ≡ get_or lists k list) q g in
    let r = row_is lists (length is) list p.inside h in (
      subst (AreWithin (rows lists)) (sym m) (within_more (rows lists) is (i + 1) p.before (subst (λ k. length is < k) (sym (rows_long lists)) p.inside) (subst (λ xs. i + 1 < length xs) (sym r) l)),
      ap (from_places (rows lists)) m ∙ next_place (rows lists) is i ∙ ap (behind_places (rows lists)) (sym e),
    )

pub passing_over : (lists : List (Vec TermId Global)) (old is : List ℕ) (i n : ℕ) (list : Vec TermId Global) → AreWithin (rows lists) old → old ≡ is ++ i ∷ [] → n ≡ length is → list ≡ get_or lists n list → length list.items ≤ i + 1
    → AreWithin (rows lists) is × (behind_places (rows lists) is ≡ behind_places (rows lists) old)
passing_over lists old is i n list w e q g l =
    let p = last_is lists old is i w e in
    let h : list ≡ get_or lists (length is) list = subst (λ k. list ≡ get_or lists k list) q g in
    let r = row_is lists (length is) list p.inside h in (
      p.before,
      sym (last_place (rows lists) is i (subst (λ xs. length xs ≤ i + 1) (sym r) l)) ∙ ap (behind_places (rows lists)) (sym e),
    )

-- ---- values that are read
place_is : {A : Type 0} (xs : List A) (i : ℕ) (d : A) → i < length xs → slice_get xs i ≡ Some (get_or xs i d)
place_is [] i d l = absurd (omega (arith, l))
place_is (y ∷ ys) zero d l = refl
place_is (y ∷ ys) (suc i) d l = place_is ys i d (omega (arith, l))

reading_one : {A : Type 0} (xss : List (List A)) (is : List ℕ) (n : ℕ) (x : A) → AreWithin xss is → n < length is → slice_get (get_or xss n []) (get_or is n 0) ≡ Some x → places_read xss (take (suc n) is) ≡ places_read xss (take n is) ++ x ∷ []
reading_one xss [] n x w l e = absurd (omega (arith, l))
reading_one [] (i ∷ is) n x w l e = absurd w
reading_one {A} (xs ∷ xss) (i ∷ is) zero x w l e = ap (λ (o : Option A). read_before o []) e
reading_one {A} (xs ∷ xss) (i ∷ is) (suc n) x w l e = by_value (slice_get xs i) (reading_one xss is n x w.1 (omega (arith, l)) e)
  where
    by_value : (o : Option A) → places_read xss (take (suc n) is) ≡ places_read xss (take n is) ++ x ∷ [] → read_before o (places_read xss (take (suc n) is)) ≡ read_before o (places_read xss (take n is)) ++ x ∷ []
    by_value None q = q
    by_value (Some y) q = ap (λ zs. y ∷ zs) q

pub value_more : (lists : List (Vec TermId Global)) (is : List ℕ) (n : ℕ) (list : Vec TermId Global) (items : List TermId) (d : TermId) → AreWithin (rows lists) is → n < length is → list ≡ get_or lists n list → items ≡ list.items
    → places_read (rows lists) (take (n + 1) is) ≡ places_read (rows lists) (take n is) ++ get_or items (get_or is n 0) d ∷ []
value_more lists is n list items d w l g q =
    let p = within_at (rows lists) is n w l in
    let inside : n < length lists = subst (λ k. n < k) (rows_long lists) p.0 in
    let r = row_is lists n list inside g ∙ sym q in
    ap (λ k. places_read (rows lists) (take k is)) (add-one n)
    ∙ reading_one (rows lists) is n (get_or items (get_or is n 0) d) w l (ap (λ xs. slice_get xs (get_or is n 0)) r ∙ place_is items (get_or is n 0) d (subst (λ xs. get_or is n 0 < length xs) r p.1))

-- ---- whether a list is empty
pub none_with_empty_in : (lists : List (Vec TermId Global)) (k : ℕ) (list : Vec TermId Global) → k < length lists → list ≡ get_or lists k list → length list.items ≡ 0 → combinations (rows lists) ≡ []
none_with_empty_in lists k list l e z = none_with_empty (rows lists) k (subst (λ n. k < n) (sym (rows_long lists)) l) (ap length (row_is lists k list l e) ∙ z)

pub filled_more : (lists : List (Vec TermId Global)) (k : ℕ) (list : Vec TermId Global) → k < length lists → list ≡ get_or lists k list → 0 < length list.items → 0 < length (get_or (rows lists) k [])
filled_more lists k list l e z = subst (λ xs. 0 < length xs) (sym (row_is lists k list l e)) z

pub filled_in : (lists : List (Vec TermId Global)) (n : ℕ) → length lists ≤ n → ((k : ℕ) → k < n → 0 < length (get_or (rows lists) k [])) → AreFilled (rows lists)
filled_in lists n l h = all_filled (rows lists) (λ k i. h k (let q = rows_long lists in omega (arith, i, l, q)))

pub value_in : (lists : List (Vec TermId Global)) (is : List ℕ) (n : ℕ) → AreWithin (rows lists) is → n < length is → n < length lists
value_in lists is n w l = subst (λ k. n < k) (rows_long lists) (within_at (rows lists) is n w l).0

pub place_in : (lists : List (Vec TermId Global)) (is : List ℕ) (n : ℕ) (list : Vec TermId Global) (items : List TermId) → AreWithin (rows lists) is → n < length is → list ≡ get_or lists n list → items ≡ list.items → get_or is n 0 < length items
place_in lists is n list items w l g q = subst (λ xs. get_or is n 0 < length xs) (row_is lists n list (value_in lists is n w l) g ∙ sym q) (within_at (rows lists) is n w l).1

pub place_below : (lists : List (Vec TermId Global)) (old is : List ℕ) (i n : ℕ) (list : Vec TermId Global) → AreWithin (rows lists) old → old ≡ is ++ i ∷ [] → n ≡ length is → list ≡ get_or lists n list → i < length list.items
place_below lists old is i n list w e q g =
    let p = last_is lists old is i w e in
    subst (λ xs. i < length xs) (row_is lists (length is) list p.inside (subst (λ k. list ≡ get_or lists k list) q g)) p.there

pub read_all : (lists : List (Vec TermId Global)) (is : List ℕ) (n : ℕ) → length is ≤ n → places_read (rows lists) (take n is) ≡ places_read (rows lists) is
read_all lists is n l = ap (places_read (rows lists)) (take_all n is l)

-- the next one, and the others
pub gives_next : (lists items : List (Vec TermId Global)) (places filled read after : List ℕ) (over more : Bool) (value : List (List TermId)) (values : List TermId) → cond over [] (from_places (rows lists) places) ≡ value → over ≡ false → items ≡ lists
    → from_places (rows items) filled ≡ from_places (rows items) places → AreWithin (rows items) filled → length filled ≡ length items → read ≡ filled → values ≡ places_read (rows items) read → cond more (from_places (rows items) after) [] ≡ behind_places (rows items) filled
    → value ≡ values ∷ cond (not more) [] (from_places (rows lists) after)
gives_next lists items places filled read after over more value values view test same left within full reads is rest =
    sym view
    ∙ ap (λ b. cond b [] (from_places (rows lists) places)) test
    ∙ ap (λ z. from_places (rows z) places) (sym same)
    ∙ sym left
    ∙ all_placed (rows items) filled within (full ∙ sym (rows_long items))
    ∙ ap₂ (λ v vs. v ∷ vs) (ap (places_read (rows items)) (sym reads) ∙ sym is) (sym rest ∙ turned more ∙ ap (λ z. cond (not more) [] (from_places (rows z) after)) same)
  where
    turned : (b : Bool) → cond b (from_places (rows items) after) [] ≡ cond (not b) [] (from_places (rows items) after)
    turned true = refl
    turned false = refl

-- ---- what begins with the values at some of the places
begins_before : {A : Type 0} (xs : List A) (i : ℕ) (n : ℕ) (ys : List A) (cs : List (List A)) → All (λ (c : List A). take n c ≡ ys) cs → All (λ (c : List A). take (suc n) c ≡ read_before (slice_get xs i) ys) (before_each (slice_get xs i) cs)
begins_before {A} xs i n ys cs h = by_value (slice_get xs i)
  where
    each : (x : A) (cs : List (List A)) → All (λ (c : List A). take n c ≡ ys) cs → All (λ (c : List A). take (suc n) c ≡ x ∷ ys) (map (λ c. x ∷ c) cs)
    each x [] k = All-nil (λ (c : List A). take (suc n) c ≡ x ∷ ys)
    each x (c ∷ cs) k = All-cons (λ (c : List A). take (suc n) c ≡ x ∷ ys) (x ∷ c) (map (λ c. x ∷ c) cs) (ap (λ zs. x ∷ zs) (All-head (λ (c : List A). take n c ≡ ys) c cs k)) (each x cs (All-tail (λ (c : List A). take n c ≡ ys) c cs k))

    by_value : (o : Option A) → All (λ (c : List A). take (suc n) c ≡ read_before o ys) (before_each o cs)
    by_value None = All-nil (λ (c : List A). take (suc n) c ≡ ys)
    by_value (Some x) = each x cs h

all_begin : {A : Type 0} (cs : List (List A)) → All (λ (c : List A). take 0 c ≡ []) cs
all_begin {A} [] = All-nil (λ (c : List A). take 0 c ≡ [])
all_begin {A} (c ∷ cs) = All-cons (λ (c : List A). take 0 c ≡ []) c cs refl (all_begin cs)

before_both : {A : Type 0} (o : Option A) (cs ds : List (List A)) → before_each o (cs ++ ds) ≡ before_each o cs ++ before_each o ds
before_both None cs ds = refl
before_both (Some x) cs ds = map-append (λ c. x ∷ c) cs ds

pub record PassesOver {A : Type 0} (xss : List (List A)) (is : List ℕ) (n : ℕ) : Type 0 where
  pub passed : List (List A)
  pub split : from_places xss is ≡ passed ++ behind_places xss (take n is)
  pub begin : All (λ (c : List A). take n c ≡ places_read xss (take n is)) passed

pub passes_over : {A : Type 0} (xss : List (List A)) (is : List ℕ) (n : ℕ) → n ≤ length is → AreWithin xss is → PassesOver xss is n
passes_over xss is zero l w = record { passed = from_places xss is; split = sym (append-nil (from_places xss is)); begin = all_begin (from_places xss is) }
passes_over xss [] (suc n) l w = absurd (omega (arith, l))
passes_over [] (i ∷ is) (suc n) l w = absurd w
passes_over {A} (xs ∷ xss) (i ∷ is) (suc n) l w =
    let r = passes_over xss is n (omega (arith, l)) w.1 in
    record {
      passed = before_each (slice_get xs i) r.passed;
      split =
          ap (λ cs. before_each (slice_get xs i) cs ++ with_later xs xss i) r.split
          ∙ ap (λ cs. cs ++ with_later xs xss i) (before_both (slice_get xs i) r.passed (behind_places xss (take n is)))
          ∙ append_assoc (before_each (slice_get xs i) r.passed) (before_each (slice_get xs i) (behind_places xss (take n is))) (with_later xs xss i);
      begin = begins_before xs i n (places_read xss (take n is)) r.passed r.begin;
    }

pub within_first : {A : Type 0} (xss : List (List A)) (is : List ℕ) (n : ℕ) → AreWithin xss is → AreWithin xss (take n is)
within_first xss is zero w = tt
within_first xss [] (suc n) w = tt
within_first [] (i ∷ is) (suc n) w = absurd w
within_first (xs ∷ xss) (i ∷ is) (suc n) w = (w.0, within_first xss is n w.1)

turned_round : (b : Bool) (cs : List (List TermId)) → cond b cs [] ≡ cond (not b) [] cs
turned_round true cs = refl
turned_round false cs = refl

pub leaves_out : (lists items : List (Vec TermId Global)) (places is first new : List ℕ) (level : ℕ) (values : List TermId) (over more : Bool) (value : List (List TermId)) → cond over [] (from_places (rows lists) places) ≡ value → over ≡ false → items ≡ lists → is ≡ places → AreWithin (rows lists) places
    → (level ≤ length is) × (places_read (rows items) (take level is) ≡ take level values) → first ≡ take level is → cond more (from_places (rows items) new) [] ≡ behind_places (rows items) first → LeavesOut level values value (cond (not more) [] (from_places (rows lists) new))
leaves_out lists items places is first new level values over more value view test same own within h q p =
    let r = passes_over (rows lists) is level h.0 (subst (AreWithin (rows lists)) (sym own) within) in
    let left : cond (not more) [] (from_places (rows lists) new) ≡ behind_places (rows lists) (take level is) =
    sym (turned_round more (from_places (rows lists) new)) ∙ subst (λ (z : List (Vec TermId Global)). cond more (from_places (rows z) new) [] ≡ behind_places (rows z) first) same p ∙ ap (behind_places (rows lists)) q in
    record {
      left_out = r.passed;
      split = sym view ∙ ap (λ b. cond b [] (from_places (rows lists) places)) test ∙ ap (from_places (rows lists)) (sym own) ∙ r.split ∙ ap (λ z. r.passed ++ z) (sym left);
      alike = subst (λ z. All (λ (c : List TermId). take level c ≡ z) r.passed) (subst (λ (z : List (Vec TermId Global)). places_read (rows z) (take level is) ≡ take level values) same h.1) r.begin;
    }

pub leaves_none : (level : ℕ) (values : List TermId) (old new : List (List TermId)) → new ≡ old → LeavesOut level values old new
leaves_none level values old new e = record { left_out = []; split = sym e; alike = All-nil (λ (c : List TermId). take level c ≡ take level values) }

-- the first values are read one more
pub begin_none : (lists : List (Vec TermId Global)) (is : List ℕ) (values : List TermId) → places_read (rows lists) (take 0 is) ≡ take 0 values
begin_none lists is values = refl

pub begin_more : (lists : List (Vec TermId Global)) (is : List ℕ) (n : ℕ) (list : Vec TermId Global) (items values : List TermId) (d : TermId) → AreWithin (rows lists) is → n < length is → n < length values → list ≡ get_or lists n list → items ≡ list.items
    → get_or items (get_or is n 0) d ≡ get_or values n d → places_read (rows lists) (take n is) ≡ take n values → places_read (rows lists) (take (n + 1) is) ≡ take (n + 1) values
begin_more lists is n list items values d w l k g q same h =
    value_more lists is n list items d w l g q
    ∙ ap₂ (λ (us : List TermId) u. us ++ u ∷ []) h same
    ∙ sym (take_more values n d k)
