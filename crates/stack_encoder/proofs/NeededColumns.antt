-- Columns in need of a closed term, as they are found.
use Rattle.std.proofs.Common.{◌≡◌, ◌⊎◌, ◌<◌, ◌≤◌, ◌+◌, ◌-◌, ◌==◌, ◌||◌, ℕ, zero, suc, Bool, true, false, List, [], ◌∷◌, ◌++◌, map, take, drop, length, get_or, refl, sym, ap, ap₂, ◌∙◌, subst, arith, cond, inl, inr, ⊎_elim, Option, Some, None}
use Rattle.std.specs.Prelude.{slice_get, Vec}
use Rattle.std.specs.Global.{Global}
use Rattle.std.specs.List.{All, Contains, flat_map, list_any}
use Rattle.std.proofs.lemmas.Bool.Decides.{eqb_tells}
use Rattle.std.proofs.lemmas.List.{append-nil, map-append, take_more, take_all}
use Rattle.std.proofs.lemmas.List.Concat.{flat_map-append}
use Rattle.std.proofs.lemmas.List.Elements.{Contains-append_left, Contains-append_right, All-from_recursion, All-nil, All-head, All-tail, All-append, All-push}
use Rattle.data_theory.specs.declared.ids.TermId.{TermId}
use Rattle.data_theory.proofs.EnvironmentLemmas.{contains_first, contains_later, contains_cases, contains_nothing}
use Rattle.greibach.specs.declared.forms.GreibachEquation.{GreibachEquation}
use Rattle.greibach.specs.declared.forms.GreibachSummand.{GreibachSummand}
use Rattle.greibach.specs.PlainForms.{PlainFormSummand, PlainEquation, plain_call, plain_equation, plain_form_summand}
use Rattle.regular_encoder.proofs.FirstTerms.{no_some}
use Rattle.stack_encoder.specs.StackColumns.{unless_used, unused, with_number, with_numbers, needed_for, needed_in, in_need, numbered_place, value_at, or_else, default_at}

-- ---- numbers that are added
pub with_numbers_append : (xs ys zs : List ℕ) → with_numbers xs (ys ++ zs) ≡ with_numbers (with_numbers xs ys) zs
with_numbers_append xs [] zs = refl
with_numbers_append xs (y ∷ ys) zs = with_numbers_append (with_number xs y) ys zs

pub added_used : (keys place : List ℕ) (x : ℕ) (b : Bool) → b ≡ list_any (λ (p : ℕ). p == x) place → b ≡ true → keys ≡ with_numbers keys (unless_used place x)
added_used keys place x b e t = ap (λ c. with_numbers keys (cond c [] (x ∷ []))) (sym t ∙ e)

pub added_unused : (keys place new : List ℕ) (x : ℕ) (b : Bool) → b ≡ list_any (λ (p : ℕ). p == x) place → b ≡ false → new ≡ with_number keys x → new ≡ with_numbers keys (unless_used place x)
added_unused keys place new x b e t n = n ∙ ap (λ c. with_numbers keys (cond c [] (x ∷ []))) (sym t ∙ e)

pub unused_more : (old keys new place : List ℕ) (n : ℕ) → keys ≡ with_numbers old (unused n place) → new ≡ with_numbers keys (unless_used place n) → new ≡ with_numbers old (unused (n + 1) place)
unused_more old keys new place n e k =
    k ∙ ap (λ z. with_numbers z (unless_used place n)) e ∙ sym (with_numbers_append old (unused n place) (unless_used place n))
    ∙ ap (λ m. with_numbers old (unused m place)) (let m : suc n ≡ n + 1 = omega arith in m)

-- ---- calls, from the last one
drop_at : {A : Type 0} (xs : List A) (n : ℕ) (d : A) → n < length xs → drop n xs ≡ get_or xs n d ∷ drop (suc n) xs
drop_at [] n d l = absurd (omega (arith, l))
drop_at (x ∷ xs) zero d l = refl
drop_at (x ∷ xs) (suc n) d l = drop_at xs n d (omega (arith, l))

pub drop_last : {A : Type 0} (xs : List A) → drop (length xs) xs ≡ []
drop_last [] = refl
drop_last (x ∷ xs) = drop_last xs

-- one more from the end
pub drop_more_back : {A : Type 0} (xs : List A) (k : ℕ) (x : A) → k < length xs → x ≡ get_or xs (length xs - 1 - k) x → drop (length xs - (k + 1)) xs ≡ x ∷ drop (length xs - k) xs
drop_more_back xs k x w read =
    ap (λ m. drop m xs) (let e : length xs - (k + 1) ≡ length xs - 1 - k = omega (arith, w) in e) ∙ drop_at xs (length xs - 1 - k) x (omega (arith, w))
    ∙ ap₂ (λ c m. c ∷ drop m xs) (sym read) (let e : suc (length xs - 1 - k) ≡ length xs - k = omega (arith, w) in e)

pub needed_none : (old keys : List ℕ) (n : ℕ) (places : List (List ℕ)) (calls : List (ℕ × Vec TermId Global)) → keys ≡ old → keys ≡ with_numbers old (needed_for n places (map plain_call (drop (length calls - 0) calls)))
needed_none old keys n places calls e =
    e ∙ ap (λ cs. with_numbers old (needed_for n places (map plain_call cs))) (sym (ap (λ m. drop m calls) (let q : length calls - 0 ≡ length calls = omega arith in q) ∙ drop_last calls))

pub needed_more : (old keys new : List ℕ) (n : ℕ) (places : List (List ℕ)) (calls : List (ℕ × Vec TermId Global)) (k : ℕ) (call : ℕ × Vec TermId Global) (place : List ℕ) → keys ≡ with_numbers old (needed_for n places (map plain_call (drop (length calls - k) calls)))
    → k < length calls → call ≡ get_or calls (length calls - 1 - k) call → place ≡ numbered_place places call.0 → new ≡ with_numbers keys (unused n place)
    → new ≡ with_numbers old (needed_for n places (map plain_call (drop (length calls - (k + 1)) calls)))
needed_more old keys new n places calls k call place e w read p a =
    let others = needed_for n places (map plain_call (drop (length calls - k) calls)) in
    a ∙ ap₂ (λ z q. with_numbers z (unused n q)) e p ∙ sym (with_numbers_append old others (unused n (numbered_place places call.0)))
    ∙ ap (λ cs. with_numbers old (needed_for n places (map plain_call cs))) (sym (drop_more_back calls k call w read))

pub needed_all : (old keys : List ℕ) (n : ℕ) (places : List (List ℕ)) (calls : List (ℕ × Vec TermId Global)) (k : ℕ) → keys ≡ with_numbers old (needed_for n places (map plain_call (drop (length calls - k) calls))) → length calls ≤ k
    → keys ≡ with_numbers old (needed_for n places (map plain_call calls))
needed_all old keys n places calls k e l = e ∙ ap (λ m. with_numbers old (needed_for n places (map plain_call (drop m calls)))) (let q : length calls - k ≡ 0 = omega (arith, l) in q)

-- ---- summands and equations
flat_more : {A B : Type 0} (f : A → B) (h : B → List ℕ) (items : List A) (k : ℕ) (x : A) → k < length items → x ≡ get_or items k x → flat_map h (map f (take (k + 1) items)) ≡ flat_map h (map f (take k items)) ++ h (f x)
flat_more f h items k x w read =
    ap (λ z. flat_map h (map f z)) (take_more items k x w ∙ ap (λ z. take k items ++ z ∷ []) (sym read)) ∙ ap (flat_map h) (map-append f (take k items) (x ∷ []))
    ∙ flat_map-append h (map f (take k items)) (f x ∷ []) ∙ ap (λ z. flat_map h (map f (take k items)) ++ z) (append-nil (h (f x)))

pub summand_added : (old keys new : List ℕ) (n : ℕ) (places : List (List ℕ)) (items : List GreibachSummand) (k : ℕ) (s : GreibachSummand) (calls : List (ℕ × Vec TermId Global))
    → keys ≡ with_numbers old (flat_map (λ (s : PlainFormSummand). needed_for n places s.next) (map plain_form_summand (take k items))) → k < length items → s ≡ get_or items k s → calls ≡ s.next.items
    → new ≡ with_numbers keys (needed_for n places (map plain_call calls)) → new ≡ with_numbers old (flat_map (λ (s : PlainFormSummand). needed_for n places s.next) (map plain_form_summand (take (k + 1) items)))
summand_added old keys new n places items k s calls e w read c a =
    let h : PlainFormSummand → List ℕ = λ s. needed_for n places s.next in
    a ∙ ap₂ (λ z cs. with_numbers z (needed_for n places (map plain_call cs))) e c ∙ sym (with_numbers_append old (flat_map h (map plain_form_summand (take k items))) (h (plain_form_summand s)))
    ∙ ap (with_numbers old) (sym (flat_more plain_form_summand h items k s w read))

pub summands_added : (old keys : List ℕ) (n : ℕ) (places : List (List ℕ)) (items : List GreibachSummand) (k : ℕ) → keys ≡ with_numbers old (flat_map (λ (s : PlainFormSummand). needed_for n places s.next) (map plain_form_summand (take k items))) → length items ≤ k
    → keys ≡ with_numbers old (flat_map (λ (s : PlainFormSummand). needed_for n places s.next) (map plain_form_summand items))
summands_added old keys n places items k e l = e ∙ ap (λ z. with_numbers old (flat_map (λ (s : PlainFormSummand). needed_for n places s.next) (map plain_form_summand z))) (take_all k items l)

pub equation_added : (first keys new : List ℕ) (n : ℕ) (places : List (List ℕ)) (items : List GreibachEquation) (k : ℕ) (q : GreibachEquation) (summands : List GreibachSummand) → keys ≡ with_numbers [] (first ++ flat_map (needed_in n places) (map plain_equation (take k items)))
    → k < length items → q ≡ get_or items k q → summands ≡ q.summands.items → new ≡ with_numbers keys (flat_map (λ (s : PlainFormSummand). needed_for n places s.next) (map plain_form_summand summands))
    → new ≡ with_numbers [] (first ++ flat_map (needed_in n places) (map plain_equation (take (k + 1) items)))
equation_added first keys new n places items k q summands e w read c a =
    let front = flat_map (needed_in n places) (map plain_equation (take k items)) in
    let one = needed_in n places (plain_equation q) in
    a ∙ ap₂ (λ z cs. with_numbers z (flat_map (λ (s : PlainFormSummand). needed_for n places s.next) (map plain_form_summand cs))) e c
    ∙ sym (with_numbers_append [] (first ++ front) one) ∙ ap (with_numbers []) (joined first front one ∙ ap (λ z. first ++ z) (sym (flat_more plain_equation (needed_in n places) items k q w read)))
  where
    joined : (xs ys zs : List ℕ) → (xs ++ ys) ++ zs ≡ xs ++ (ys ++ zs)
    joined [] ys zs = refl
    joined (x ∷ xs) ys zs = ap (λ l. x ∷ l) (joined xs ys zs)

pub equation_item : (P : PlainEquation → Type 0) (items : List GreibachEquation) (k : ℕ) (q : GreibachEquation) → k < length items → q ≡ get_or items k q → All P (map plain_equation items) → P (plain_equation q)
equation_item P items k q w e h = subst (λ z. P (plain_equation z)) (sym e) (at_place items k q w h)
  where
    at_place : (items : List GreibachEquation) (k : ℕ) (d : GreibachEquation) → k < length items → All P (map plain_equation items) → P (plain_equation (get_or items k d))
    at_place [] k d w h = absurd (omega (arith, w))
    at_place (x ∷ items) zero d w h = All-head P (plain_equation x) (map plain_equation items) h
    at_place (x ∷ items) (suc k) d w h = at_place items k d (omega (arith, w)) (All-tail P (plain_equation x) (map plain_equation items) h)

-- ---- what is in need
among_any : (place : List ℕ) (x : ℕ) → list_any (λ (p : ℕ). p == x) place ≡ true → Contains place x
among_any [] x e = cc
among_any (p ∷ place) x e = ⊎_elim
    (λ q. subst (λ z. Contains (p ∷ place) z) q.1 (contains_first p place))
    (λ q. contains_later p x place (among_any place x (subst (λ b. (b || list_any (λ (p : ℕ). p == x) place) ≡ true) q.0 e)))
    (eqb_tells p x)

with_number_keeps : (xs : List ℕ) (y x : ℕ) → Contains xs x → Contains (with_number xs y) x
with_number_keeps xs y x i = elim (list_any (λ z. y == z) xs) as (λ b. Contains (cond b xs (xs ++ y ∷ [])) x) [ true ↦ i | false ↦ Contains-append_left xs (y ∷ []) x i ]

with_number_has : (xs : List ℕ) (y : ℕ) → Contains (with_number xs y) y
with_number_has xs y = by_test (list_any (λ z. y == z) xs) refl
  where
    among : (xs : List ℕ) → list_any (λ z. y == z) xs ≡ true → Contains xs y
    among [] e = cc
    among (z ∷ xs) e = ⊎_elim
        (λ q. subst (λ w. Contains (z ∷ xs) w) (sym q.1) (contains_first z xs))
        (λ q. contains_later z y xs (among xs (subst (λ b. (b || list_any (λ z. y == z) xs) ≡ true) q.0 e)))
        (eqb_tells y z)

    by_test : (b : Bool) → list_any (λ z. y == z) xs ≡ b → Contains (with_number xs y) y
    by_test true e = subst (λ b. Contains (cond b xs (xs ++ y ∷ [])) y) (sym e) (among xs e)
    by_test false e = subst (λ b. Contains (cond b xs (xs ++ y ∷ [])) y) (sym e) (Contains-append_right xs (y ∷ []) y (contains_first y []))

with_numbers_keep : (ys xs : List ℕ) (x : ℕ) → Contains xs x → Contains (with_numbers xs ys) x
with_numbers_keep [] xs x i = i
with_numbers_keep (y ∷ ys) xs x i = with_numbers_keep ys (with_number xs y) x (with_number_keeps xs y x i)

with_numbers_have : (ys xs : List ℕ) (x : ℕ) → Contains ys x → Contains (with_numbers xs ys) x
with_numbers_have [] xs x i = absurd (contains_nothing x i)
with_numbers_have (y ∷ ys) xs x i = ⊎_elim
    (λ q. with_numbers_keep ys (with_number xs y) x (subst (λ z. Contains (with_number xs y) z) q (with_number_has xs y)))
    (λ j. with_numbers_have ys (with_number xs y) x j)
    (contains_cases y x ys i)

unused_has : (n : ℕ) (place : List ℕ) (x : ℕ) → x < n → list_any (λ (p : ℕ). p == x) place ≡ false → Contains (unused n place) x
unused_has zero place x l e = absurd (omega (arith, l))
unused_has (suc n) place x l e = ⊎_elim
    (λ q. Contains-append_right (unused n place) (unless_used place n) x (subst (λ m. Contains (unless_used place m) x) (sym q.1) (subst (λ b. Contains (cond b [] (x ∷ [])) x) (sym e) (contains_first x []))))
    (λ q. Contains-append_left (unused n place) (unless_used place n) x (unused_has n place x (let m = q.1 in below n x l m) e))
    (eqb_tells n x)
  where
    below : (n x : ℕ) → x < suc n → (n ≡ x → ⊥) → x < n
    below n x l m = ⊎_elim (λ q. absurd (m (sym q))) (λ k. k) (two_cases n x l)
      where
        two_cases : (n x : ℕ) → x < suc n → (x ≡ n) ⊎ (x < n)
        two_cases zero zero l = inl refl
        two_cases zero (suc x) l = absurd (omega (arith, l))
        two_cases (suc n) zero l = inr (omega arith)
        two_cases (suc n) (suc x) l = ⊎_elim (λ q. inl (ap suc q)) (λ k. inr (omega (arith, k))) (two_cases n x (omega (arith, l)))

-- a column that the first equation doesn't use is in need
pub first_or_needed : (n : ℕ) (places : List (List ℕ)) (qs : List PlainEquation) (x : ℕ) → x < n → Contains (in_need n places qs) x ⊎ Contains (numbered_place places 1) x
first_or_needed n places qs x l = by_test (list_any (λ (p : ℕ). p == x) place) refl
  where
    place : List ℕ
    place = numbered_place places 1

    by_test : (b : Bool) → list_any (λ (p : ℕ). p == x) (numbered_place places 1) ≡ b → Contains (in_need n places qs) x ⊎ Contains (numbered_place places 1) x
    by_test true e = inr (among_any (numbered_place places 1) x e)
    by_test false e = inl (with_numbers_have (unused n (numbered_place places 1) ++ flat_map (needed_in n places) qs) [] x (Contains-append_left (unused n (numbered_place places 1)) (flat_map (needed_in n places) qs) x (unused_has n (numbered_place places 1) x l e)))

-- and all in need are columns
below_more : (n : ℕ) (xs : List ℕ) (y : ℕ) → All (λ x. x < n) xs → y < n → All (λ x. x < n) (with_number xs y)
below_more n xs y h l = elim (list_any (λ z. y == z) xs) as (λ b. All (λ x. x < n) (cond b xs (xs ++ y ∷ []))) [ true ↦ h | false ↦ All-push (λ x. x < n) xs y h l ]

all_below : (n : ℕ) (ys xs : List ℕ) → All (λ x. x < n) xs → All (λ x. x < n) ys → All (λ x. x < n) (with_numbers xs ys)
all_below n [] xs h k = h
all_below n (y ∷ ys) xs h k = all_below n ys (with_number xs y) (below_more n xs y h (All-head (λ x. x < n) y ys k)) (All-tail (λ x. x < n) y ys k)

unused_below : (n m : ℕ) (place : List ℕ) → m ≤ n → All (λ x. x < n) (unused m place)
unused_below n zero place l = All-nil (λ x. x < n)
unused_below n (suc m) place l = All-append (λ x. x < n) (unused m place) (unless_used place m) (unused_below n m place (omega (arith, l)))
    (elim (list_any (λ (p : ℕ). p == m) place) as (λ b. All (λ x. x < n) (cond b [] (m ∷ []))) [ true ↦ All-nil (λ x. x < n) | false ↦ All-from_recursion (λ x. x < n) (m ∷ []) (omega (arith, l), tt) ])

calls_below : (n : ℕ) (places : List (List ℕ)) (cs : List (ℕ × List TermId)) → All (λ x. x < n) (needed_for n places cs)
calls_below n places [] = All-nil (λ x. x < n)
calls_below n places (c ∷ cs) = All-append (λ x. x < n) (needed_for n places cs) (unused n (numbered_place places c.0)) (calls_below n places cs) (unused_below n n (numbered_place places c.0) (omega arith))

flat_below : {A : Type 0} (n : ℕ) (h : A → List ℕ) → ((x : A) → All (λ x. x < n) (h x)) → (xs : List A) → All (λ x. x < n) (flat_map h xs)
flat_below n h k [] = All-nil (λ x. x < n)
flat_below n h k (x ∷ xs) = All-append (λ x. x < n) (h x) (flat_map h xs) (k x) (flat_below n h k xs)

pub needed_below : (n : ℕ) (places : List (List ℕ)) (qs : List PlainEquation) → All (λ x. x < n) (in_need n places qs)
needed_below n places qs =
    all_below n (unused n (numbered_place places 1) ++ flat_map (needed_in n places) qs) [] (All-nil (λ x. x < n))
    (All-append (λ x. x < n) (unused n (numbered_place places 1)) (flat_map (needed_in n places) qs) (unused_below n n (numbered_place places 1) (omega arith))
    (flat_below n (needed_in n places) (λ q. flat_below n (λ (s : PlainFormSummand). needed_for n places s.next) (λ s. calls_below n places s.next) q.summands) qs))

-- ---- a term for each
value_there : (ps : List ℕ) (ids : List TermId) (x : ℕ) → length ps ≡ length ids → Contains ps x → None ≡ value_at ps ids x → ⊥
value_there [] ids x l i e = contains_nothing x i
value_there (p ∷ ps) [] x l i e = omega (arith, l)
value_there (p ∷ ps) (u ∷ ids) x l i e = ⊎_elim
    (λ q. no_some (e ∙ ap (λ b. cond b (Some u) (value_at ps ids x)) q.0))
    (λ q. ⊎_elim (λ s. q.1 s) (λ j. value_there ps ids x (omega (arith, l)) j (e ∙ ap (λ b. cond b (Some u) (value_at ps ids x)) q.0)) (contains_cases p x ps i))
    (eqb_tells p x)

pub default_there : (needed : List ℕ) (closed : List TermId) (place : List ℕ) (init : List TermId) (x : ℕ) → length needed ≡ length closed → length place ≡ length init → Contains needed x ⊎ Contains place x → None ≡ default_at needed closed place init x → ⊥
default_there needed closed place init x l m c e = by_first (value_at needed closed x) refl
  where
    by_first : (o : Option TermId) → value_at needed closed x ≡ o → ⊥
    by_first None q = ⊎_elim (λ i. value_there needed closed x l i (sym q)) (λ i. value_there place init x m i (e ∙ ap (λ z. or_else z (value_at place init x)) q)) c
    by_first (Some t) q = no_some (e ∙ ap (λ z. or_else z (value_at place init x)) q)

pub default_more : (F : ℕ → Option TermId) (found : List TermId) (i : ℕ) (t : TermId) → length found ≡ i → ((x : ℕ) → x < i → slice_get found x ≡ F x) → Some t ≡ F i → (x : ℕ) → x < i + 1 → slice_get (found ++ t ∷ []) x ≡ F x
default_more F found i t l h e x w = at_place found x i l h e w
  where
    at_place : (found : List TermId) (x i : ℕ) → length found ≡ i → ((y : ℕ) → y < i → slice_get found y ≡ F y) → Some t ≡ F i → x < i + 1 → slice_get (found ++ t ∷ []) x ≡ F x
    at_place found x i l h e w = ⊎_elim (λ k. read_in_front found (t ∷ []) x (omega (arith, k, l)) ∙ h x k) (λ q. ap (slice_get (found ++ t ∷ [])) (q ∙ sym l) ∙ read_end found t ∙ e ∙ ap F (sym q)) (cases x i w)
      where
        cases : (x i : ℕ) → x < i + 1 → (x < i) ⊎ (x ≡ i)
        cases zero zero w = inr refl
        cases zero (suc i) w = inl (omega arith)
        cases (suc x) zero w = absurd (omega (arith, w))
        cases (suc x) (suc i) w = ⊎_elim (λ k. inl (omega (arith, k))) (λ q. inr (ap suc q)) (cases x i (omega (arith, w)))

        read_in_front : (xs ys : List TermId) (n : ℕ) → n < length xs → slice_get (xs ++ ys) n ≡ slice_get xs n
        read_in_front [] ys n l = absurd (omega (arith, l))
        read_in_front (z ∷ xs) ys zero l = refl
        read_in_front (z ∷ xs) ys (suc n) l = read_in_front xs ys n (omega (arith, l))

        read_end : (xs : List TermId) (y : TermId) → slice_get (xs ++ y ∷ []) (length xs) ≡ Some y
        read_end [] y = refl
        read_end (z ∷ xs) y = read_end xs y
