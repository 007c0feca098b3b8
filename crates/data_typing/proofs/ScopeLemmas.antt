-- The innermost variables of names.
use Rattle.std.proofs.Common.{◌≡◌, ◌<◌, ◌≤◌, ◌+◌, ◌==◌, ◌⊎◌, inl, inr, ℕ, zero, suc, Bool, true, false, cond, List, [], ◌∷◌, ◌++◌, length, get_or, refl, sym, subst, ap, ◌∙◌, arith, length-append}
use Rattle.std.specs.Prelude.{Option, Some, None, slice_get, option_map, option_and_then}
use Rattle.std.specs.List.{All}
use lib.ListN.{set}
use Rattle.std.proofs.lemmas.List.{append_assoc, map-append, length-map, length-set}
use Rattle.std.proofs.lemmas.List.Elements.{All-nil, All-push, All-pop, All-weaker}
use Rattle.std.proofs.lemmas.Option.{slice_get-map, slice_get-get_or}
use Rattle.std.proofs.lemmas.Bool.Decides.{eqb_tells}
use Rattle.data_theory.specs.declared.ids.NameId.{NameId}
use Rattle.data_typing.specs.declared.scope.Bound.{Bound}
use Rattle.data_typing.specs.declared.scope.Entry.{Entry}
use Rattle.data_typing.specs.CodeWords.{found_behind}
use Rattle.data_typing.specs.Scopes.{bounds_of, place_behind, last_place, AreFound}

-- ---- places
place_pushed : (n k : ℕ) (o : Option ℕ) (bs : List Bound) (b : Bound) → place_behind n k o (bs ++ b ∷ []) ≡ cond (b.name.0 == n) (Some (k + length bs)) (place_behind n k o bs)
place_pushed n k o [] b = ap (λ m. cond (b.name.0 == n) (Some m) o) (let same : k ≡ k + 0 = omega arith in same)
place_pushed n k o (x ∷ bs) b = place_pushed n (suc k) (cond (x.name.0 == n) (Some k) o) bs b ∙ ap (λ m. cond (b.name.0 == n) (Some m) (place_behind n (suc k) (cond (x.name.0 == n) (Some k) o) bs)) (let same : suc k + length bs ≡ k + suc (length bs) = omega arith in same)

last_pushed : (n : ℕ) (bs : List Bound) (b : Bound) → last_place n (bs ++ b ∷ []) ≡ cond (b.name.0 == n) (Some (length bs)) (last_place n bs)
last_pushed n bs b = place_pushed n 0 None bs b ∙ ap (λ m. cond (b.name.0 == n) (Some m) (last_place n bs)) (let same : 0 + length bs ≡ length bs = omega arith in same)

-- ---- what is found
found_at : (n : NameId) (all front : List Bound) (k : ℕ) (o : Option Bound) (p : Option ℕ) (bs : List Bound) → all ≡ front ++ bs → k ≡ length front → o ≡ option_and_then (slice_get all) p
    → found_behind n o bs ≡ option_and_then (slice_get all) (place_behind n.0 k p bs)
found_at n all front k o p [] e l q = q
found_at n all front k o p (b ∷ bs) e l q =
    found_at n all (front ++ b ∷ []) (suc k) (cond (b.name.0 == n.0) (Some b) o) (cond (b.name.0 == n.0) (Some k) p) bs (e ∙ sym (append_assoc front (b ∷ []) bs)) (let long = length-append front (b ∷ []) in omega (arith, long, l)) (by (b.name.0 == n.0))
  where
    at_front : (xs : List Bound) → slice_get (xs ++ b ∷ bs) (length xs) ≡ Some b
    at_front [] = refl
    at_front (x ∷ xs) = at_front xs

    by : (t : Bool) → cond t (Some b) o ≡ option_and_then (slice_get all) (cond t (Some k) p)
    by true = sym (ap (slice_get all) l ∙ ap (λ xs. slice_get xs (length front)) e ∙ at_front front)
    by false = q

pub found_is : (n : NameId) (bs : List Bound) → found_behind n None bs ≡ option_and_then (slice_get bs) (last_place n.0 bs)
found_is n bs = found_at n bs [] 0 None None bs refl refl refl

place_less : (n k : ℕ) (o : Option ℕ) (bs : List Bound) (p : ℕ) → ((q : ℕ) → o ≡ Some q → q < k) → place_behind n k o bs ≡ Some p → p < k + length bs
place_less n k o [] p h e = let l = h p e in omega (arith, l)
place_less n k o (b ∷ bs) p h e = let l = place_less n (suc k) (cond (b.name.0 == n) (Some k) o) bs p (by (b.name.0 == n)) e in omega (arith, l)
  where
    by : (t : Bool) (q : ℕ) → cond t (Some k) o ≡ Some q → q < suc k
    by true q f = let same : k ≡ q = cc in omega (arith, same)
    by false q f = let l = h q f in omega (arith, l)

pub last_less : (n : ℕ) (bs : List Bound) (p : ℕ) → last_place n bs ≡ Some p → p < length bs
last_less n bs p e = let l = place_less n 0 None bs p (λ q f. cc) e in omega (arith, l)

-- ---- the entries
pub none_found : (es : List Entry) (is : List (Option ℕ)) → es ≡ [] → is ≡ [] → AreFound es is
none_found es is e f = record {
  places = λ n. ap (λ xs. get_or xs n None) f ∙ sym (ap (λ xs. last_place n (bounds_of xs)) e);
  within = subst (All (λ (x : Entry). x.bound.name.0 < length is)) (sym e) (All-nil (λ (x : Entry). x.bound.name.0 < length is));
  hidden = λ front back x q. absurd (never x back front (sym e ∙ q));
}
  where
    never : (x : Entry) (back front : List Entry) → [] ≡ front ++ x ∷ back → ⊥
    never x back [] q = cc
    never x back (y ∷ front) q = cc

pub more_room : (es : List Entry) (is js : List (Option ℕ)) → length is ≤ length js → ((n : ℕ) → get_or js n None ≡ get_or is n None) → AreFound es is → AreFound es js
more_room es is js le same are = record {
  places = λ n. same n ∙ are.places n;
  within = All-weaker (λ (x : Entry). x.bound.name.0 < length is) (λ (x : Entry). x.bound.name.0 < length js) (λ x l. omega (arith, l, le)) es are.within;
  hidden = are.hidden;
}

bounds_pushed : (es : List Entry) (e : Entry) → bounds_of (es ++ e ∷ []) ≡ bounds_of es ++ e.bound ∷ []
bounds_pushed es e = map-append (λ (x : Entry). x.bound) es (e ∷ [])

-- a front of a list that has one more
split_last : {A : Type 0} (front back xs : List A) (x y : A) → xs ++ y ∷ [] ≡ front ++ x ∷ back → (P : List A → A → Type 0) → P xs y → ((rest : List A) → xs ≡ front ++ x ∷ rest → P front x) → P front x
split_last [] [] [] x y e P last other = let same : y ≡ x = cc in subst (P []) same last
split_last [] (z ∷ back) [] x y e P last other = cc
split_last (w ∷ []) back [] x y e P last other = cc
split_last (w ∷ v ∷ front) back [] x y e P last other = cc
split_last [] back (z ∷ xs) x y e P last other = other xs (let same : z ≡ x = cc in ap (λ w. w ∷ xs) same)
split_last (w ∷ front) back (z ∷ xs) x y e P last other =
    let head : z ≡ w = cc in
    let tail : xs ++ y ∷ [] ≡ front ++ x ∷ back = cc in
    split_last front back xs x y tail (λ l a. P (w ∷ l) a) (subst (λ v. P (v ∷ xs) y) head last) (λ rest q. other rest (ap (λ v. v ∷ xs) head ∙ ap (λ l. w ∷ l) q))

set_same : (xs : List (Option ℕ)) (i : ℕ) (v : Option ℕ) → i < length xs → get_or (set xs i v) i None ≡ v
set_same [] i v l = absurd (omega (arith, l))
set_same (x ∷ xs) zero v l = refl
set_same (x ∷ xs) (suc i) v l = set_same xs i v (omega (arith, l))

set_other : (xs : List (Option ℕ)) (i n : ℕ) (v : Option ℕ) → (i ≡ n → ⊥) → get_or (set xs i v) n None ≡ get_or xs n None
set_other [] i n v h = refl
set_other (x ∷ xs) zero zero v h = absurd (h refl)
set_other (x ∷ xs) zero (suc n) v h = refl
set_other (x ∷ xs) (suc i) zero v h = refl
set_other (x ∷ xs) (suc i) (suc n) v h = set_other xs i n v (λ e. h (ap suc e))

set_read : (xs : List (Option ℕ)) (i n : ℕ) (v : Option ℕ) → i < length xs → get_or (set xs i v) n None ≡ cond (i == n) v (get_or xs n None)
set_read xs i n v l = by (eqb_tells i n)
  where
    by : (((i == n) ≡ true) × (i ≡ n)) ⊎ (((i == n) ≡ false) × (i ≡ n → ⊥)) → get_or (set xs i v) n None ≡ cond (i == n) v (get_or xs n None)
    by (inl h) = ap (λ k. get_or (set xs i v) k None) (sym h.1) ∙ set_same xs i v l ∙ sym (ap (λ t. cond t v (get_or xs n None)) h.0)
    by (inr h) = set_other xs i n v h.1 ∙ sym (ap (λ t. cond t v (get_or xs n None)) h.0)

pub entered_found : (es new : List Entry) (is js : List (Option ℕ)) (e : Entry) → AreFound es is → e.bound.name.0 < length is → e.hidden ≡ get_or is e.bound.name.0 None → new ≡ es ++ e ∷ [] → js ≡ set is e.bound.name.0 (Some (length es)) → AreFound new js
entered_found es new is js e are room hid pushed put = record {
  places = λ n.
      ap (λ xs. get_or xs n None) put ∙ set_read is e.bound.name.0 n (Some (length es)) room ∙ ap (λ o. cond (e.bound.name.0 == n) (Some (length es)) o) (are.places n)
      ∙ sym (ap (λ xs. last_place n (bounds_of xs)) pushed ∙ ap (last_place n) (bounds_pushed es e) ∙ last_pushed n (bounds_of es) e.bound ∙ ap (λ m. cond (e.bound.name.0 == n) (Some m) (last_place n (bounds_of es))) (length-map es (λ (x : Entry). x.bound)));
  within = subst (λ k. All (λ (x : Entry). x.bound.name.0 < k) new) (sym (ap length put ∙ length-set is e.bound.name.0 (Some (length es)))) (subst (All (λ (x : Entry). x.bound.name.0 < length is)) (sym pushed) (All-push (λ (x : Entry). x.bound.name.0 < length is) es e are.within room));
  hidden = λ front back x q. split_last front back es x e (sym pushed ∙ q) (λ l a. a.hidden ≡ last_place a.bound.name.0 (bounds_of l)) (hid ∙ are.places e.bound.name.0) (λ rest r. are.hidden front rest x r);
}

pub left_found : (es old : List Entry) (is js : List (Option ℕ)) (e : Entry) → AreFound old is → old ≡ es ++ e ∷ [] → js ≡ set is e.bound.name.0 e.hidden → AreFound es js
left_found es old is js e are popped put =
    let all = All-pop (λ (x : Entry). x.bound.name.0 < length is) old es (Some e) popped are.within in
    record {
      places = λ n.
          ap (λ xs. get_or xs n None) put ∙ set_read is e.bound.name.0 n e.hidden all.1 ∙ ap (λ o. cond (e.bound.name.0 == n) o (get_or is n None)) (are.hidden es [] e popped)
          ∙ ap (λ o. cond (e.bound.name.0 == n) (last_place e.bound.name.0 (bounds_of es)) o) (are.places n ∙ ap (λ xs. last_place n (bounds_of xs)) popped ∙ ap (last_place n) (bounds_pushed es e) ∙ last_pushed n (bounds_of es) e.bound)
          ∙ by n (eqb_tells e.bound.name.0 n);
      within = subst (λ k. All (λ (x : Entry). x.bound.name.0 < k) es) (sym (ap length put ∙ length-set is e.bound.name.0 e.hidden)) all.0;
      hidden = λ front back x q. are.hidden front (back ++ e ∷ []) x (popped ∙ ap (λ l. l ++ e ∷ []) q ∙ append_assoc front (x ∷ back) (e ∷ []));
    }
  where
    by : (n : ℕ) → (((e.bound.name.0 == n) ≡ true) × (e.bound.name.0 ≡ n)) ⊎ (((e.bound.name.0 == n) ≡ false) × (e.bound.name.0 ≡ n → ⊥))
        → cond (e.bound.name.0 == n) (last_place e.bound.name.0 (bounds_of es)) (cond (e.bound.name.0 == n) (Some (length (bounds_of es))) (last_place n (bounds_of es))) ≡ last_place n (bounds_of es)
    by n (inl h) = ap (λ t. cond t (last_place e.bound.name.0 (bounds_of es)) (cond t (Some (length (bounds_of es))) (last_place n (bounds_of es)))) h.0 ∙ ap (λ m. last_place m (bounds_of es)) h.1
    by n (inr h) = ap (λ t. cond t (last_place e.bound.name.0 (bounds_of es)) (cond t (Some (length (bounds_of es))) (last_place n (bounds_of es)))) h.0

-- ---- what is told of a name
pub find_none : (es : List Entry) (is : List (Option ℕ)) → AreFound es is → (now : List Bound) → bounds_of es ≡ now → (n : NameId) → get_or is n.0 None ≡ None → None ≡ found_behind n None now
find_none es is are now v n e = sym (ap (found_behind n None) (sym v) ∙ found_is n (bounds_of es) ∙ ap (option_and_then (slice_get (bounds_of es))) (sym (are.places n.0) ∙ e))

pub find_within : (es : List Entry) (is : List (Option ℕ)) → AreFound es is → (n p : ℕ) → get_or is n None ≡ Some p → p < length es
find_within es is are n p e = let l = last_less n (bounds_of es) p (sym (are.places n) ∙ e) in let many = length-map es (λ (x : Entry). x.bound) in omega (arith, l, many)

pub find_some : (es : List Entry) (is : List (Option ℕ)) → AreFound es is → (now : List Bound) → bounds_of es ≡ now → (n : NameId) (p : ℕ) → get_or is n.0 None ≡ Some p → (d : Entry) → d ≡ get_or es p d → Some d.bound ≡ found_behind n None now
find_some es is are now v n p e d at =
    let read : slice_get es p ≡ Some d = slice_get-get_or es p d (find_within es is are n.0 p e) ∙ ap Some (sym at) in
    sym (ap (found_behind n None) (sym v) ∙ found_is n (bounds_of es) ∙ ap (option_and_then (slice_get (bounds_of es))) (sym (are.places n.0) ∙ e) ∙ slice_get-map (λ (x : Entry). x.bound) es p ∙ ap (option_map (λ (x : Entry). x.bound)) read)
