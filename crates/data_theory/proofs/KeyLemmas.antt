-- Pairs of a name and a list of sorts, by places.
use Rattle.std.proofs.Common.{◌≡◌, ℕ, zero, suc, ◌<◌, ◌≤◌, ◌⊎◌, inl, inr, List, [], ◌∷◌, ◌++◌, length, get_or, take, Bool, true, false, ◌&&◌, cond, Some, Ok, Err, Result, refl, sym, ap, ◌∙◌, subst, arith, length-append}
use Rattle.std.specs.Prelude.{slice_get, OnErr}
use Rattle.std.specs.List.{Contains, list_any}
use Rattle.std.proofs.lemmas.Bool.Decides.{Decides-eqb}
use Rattle.std.proofs.lemmas.Option.{slice_get_within, get_or_from_slice_get}
use Rattle.std.proofs.lemmas.List.{get_or_append_left}
use Rattle.data_theory.specs.declared.ids.NameId.{NameId}
use Rattle.data_theory.specs.declared.ids.SortId.{SortId}
use Rattle.data_theory.specs.declared.keys.Place.{Place}
use Rattle.data_theory.specs.contracts.keys.PlacePartialEq.TheImpl as places
use Rattle.data_theory.specs.Places.{Joins}
use Rattle.data_theory.specs.Keys.{Key, key, key_at, keys_at, AreKeys}
use Rattle.data_theory.proofs.PlaceLemmas.{contains_read, pushed_by_place, seen_pushed, map_pushed}
use Rattle.data_theory.proofs.IdLemmas.{name_ids_agree}

pub on_err : {T E : Type 0} {P : Type 0} (r : Result T E) → P → OnErr r P
on_err (Ok x) p = tt
on_err (Err e) p = p

both : (a b : Bool) → (a && b) ≡ true → (a ≡ true) × (b ≡ true)
both true b e = (refl, e)
both false b e = absurd (let z : false ≡ true = e in cc)

from_both : (a b : Bool) → a ≡ true → b ≡ true → (a && b) ≡ true
from_both true b e f = f
from_both false b e f = absurd (let z : false ≡ true = e in cc)

pub places_tell : (p q : Place) → places.eq-value.it p q ≡ true → p ≡ q
places_tell p q e =
    let h = both _ _ e in
    let n : p.name ≡ q.name = (name_ids_agree p.name q.name).0 h.0 in
    let l : p.list ≡ q.list = (Decides-eqb p.list q.list).0 h.1 in
    (λ i. record { name = n i; list = l i })

pub places_told : (p q : Place) → p ≡ q → places.eq-value.it p q ≡ true
places_told p q e = from_both _ _ ((name_ids_agree p.name q.name).1 (ap (λ (r : Place). r.name) e)) ((Decides-eqb p.list q.list).1 (ap (λ (r : Place). r.list) e))

-- ---- a look-up
read_or : (xs : List (List SortId)) (k : ℕ) → k < length xs → slice_get xs k ≡ Some (get_or xs k [])
read_or [] k l = absurd (omega (arith, l))
read_or (x ∷ xs) zero l = refl
read_or (x ∷ xs) (suc k) l = read_or xs k (omega (arith, l))

-- the place with this name and this list
pub names_key : (lists : List (List SortId)) (name : NameId) (sorts : List SortId) (i : ℕ) (p : Place) → slice_get lists i ≡ Some sorts → record { name = name; list = i } ≡ p → key_at lists p ≡ key name sorts
names_key lists name sorts i p at e =
    ap (key_at lists) (sym e) ∙ ap (key name) (get_or_from_slice_get lists i sorts [] at)

pub is_place_of_key : (lists : List (List SortId)) (ps : List Place) → AreKeys lists ps → (name : NameId) (sorts : List SortId) (i : ℕ) (p : Place) → slice_get lists i ≡ Some sorts → Contains ps p → key_at lists p ≡ key name sorts → record { name = name; list = i } ≡ p
is_place_of_key lists ps are name sorts i p at c e =
    let within = are.within c.0 p (read_at ps p c) in
    let l : get_or lists p.list [] ≡ sorts = ap (λ (k : Key). k.sorts) e in
    let same : i ≡ p.list = are.different i p.list sorts at (read_or lists p.list within ∙ ap Some l) in
    (λ j. record { name = ap (λ (k : Key). k.name) (sym e) j; list = same j })
  where
    read_at : (qs : List Place) (q : Place) (c : Contains qs q) → slice_get qs c.0 ≡ Some q
    read_at [] q c = absurd (omega (arith, c.1))
    read_at (x ∷ qs) q (zero, l, e) = ap Some e
    read_at (x ∷ qs) q (suc k, l, e) = read_at qs q (k, omega (arith, l), e)

-- a list that has no place makes no key
pub no_list_no_key : (lists : List (List SortId)) (ps : List Place) → AreKeys lists ps → (name : NameId) (sorts : List SortId) → (Contains lists sorts → ⊥) → Contains (keys_at lists ps) (key name sorts) → ⊥
no_list_no_key lists ps are name sorts n c = search_places ps are.within c
  where
    search_places : (qs : List Place) → ((i : ℕ) (p : Place) → slice_get qs i ≡ Some p → p.list < length lists) → Contains (keys_at lists qs) (key name sorts) → ⊥
    search_places [] w c = absurd (omega (arith, c.1))
    search_places (p ∷ qs) w (zero, l, e) = n (contains_read lists p.list sorts (read_or lists p.list (w zero p refl) ∙ ap (λ (k : Key). Some k.sorts) e))
    search_places (p ∷ qs) w (suc i, l, e) = search_places qs (λ j q f. w (suc j) q f) (i, omega (arith, l), e)

-- ---- a pair that is new
pub longer : (lists new : List (List SortId)) (sorts : List SortId) → Joins lists sorts new → length lists ≤ length new
longer lists new sorts (inl h) = rw h.1 (omega arith)
longer lists new sorts (inr h) = rw (h.1, length-append lists (sorts ∷ [])) (omega arith)

pub keys_stay : (lists new : List (List SortId)) (sorts : List SortId) → Joins lists sorts new → (ps : List Place) → ((i : ℕ) (p : Place) → slice_get ps i ≡ Some p → p.list < length lists) → keys_at new ps ≡ keys_at lists ps
keys_stay lists new sorts j [] w = refl
keys_stay lists new sorts j (p ∷ ps) w =
    let rest = keys_stay lists new sorts j ps (λ i q e. w (suc i) q e) in
    let here : get_or new p.list [] ≡ get_or lists p.list [] = at_place j (w zero p refl) in
    (λ i. key p.name (here i) ∷ rest i)
  where
    at_place : Joins lists sorts new → p.list < length lists → get_or new p.list [] ≡ get_or lists p.list []
    at_place (inl h) l = ap (λ ls. get_or ls p.list []) h.1
    at_place (inr h) l = ap (λ ls. get_or ls p.list []) h.1 ∙ get_or_append_left lists (sorts ∷ []) [] p.list l

pub record IsPushed (lists : List (List SortId)) (ps : List Place) (old : List Key) (k : Key) : Type 0 where
  pub are : AreKeys lists ps
  pub keys : keys_at lists ps ≡ old ++ k ∷ []

pub key_pushed : (lists new : List (List SortId)) (sorts : List SortId) (name : NameId) (i : ℕ) (ps ps' : List Place) (old : List Key)
    → AreKeys lists ps → AreKeys new [] → Joins lists sorts new → slice_get new i ≡ Some sorts → keys_at lists ps ≡ old → (Contains old (key name sorts) → ⊥)
    → ps' ≡ cond (list_any (places.eq-value.it (record { name = name; list = i })) ps) ps (ps ++ record { name = name; list = i } ∷ [])
    → IsPushed new ps' old (key name sorts)
key_pushed lists new sorts name i ps ps' old are front j at v n q =
    let p : Place = record { name = name; list = i } in
    let stay : keys_at new ps ≡ old = keys_stay lists new sorts j ps are.within ∙ v in
    let this : key_at new p ≡ key name sorts = names_key new name sorts i p at refl in
    let absent : Contains (keys_at new ps) (key_at new p) → ⊥ = λ c. n (subst (λ ks. Contains ks (key name sorts)) stay (subst (Contains (keys_at new ps)) this c)) in
    let pushed : ps' ≡ ps ++ p ∷ [] = seen_pushed (key_at new) places.eq-value.it (λ a b e. ap (key_at new) (places_tell a b e)) ps ps' p absent q in
    record {
      are = record { different = front.different; within = subst (λ qs. (k : ℕ) (r : Place) → slice_get qs k ≡ Some r → r.list < length new) (sym pushed) (λ k r e. by_places k r (pushed_by_place ps p r k e)) };
      keys = ap (keys_at new) pushed ∙ map_pushed (key_at new) places.eq-value.it (λ a b e. ap (key_at new) (places_tell a b e)) ps p ∙ (λ k. stay k ++ this k ∷ []);
    }
  where
    by_places : (k : ℕ) (r : Place) → (slice_get ps k ≡ Some r) ⊎ ((k ≡ length ps) × (record { name = name; list = i } ≡ r)) → r.list < length new
    by_places k r (inl e) = let w = are.within k r e in let g = longer lists new sorts j in omega (arith, w, g)
    by_places k r (inr e) = subst (λ (q : Place). q.list < length new) e.1 (slice_get_within new i sorts at)

pub keys_taken : (lists : List (List SortId)) (n : ℕ) (ps : List Place) → keys_at lists (take n ps) ≡ take n (keys_at lists ps)
keys_taken lists zero ps = refl
keys_taken lists (suc n) [] = refl
keys_taken lists (suc n) (p ∷ ps) = ap (λ ks. key_at lists p ∷ ks) (keys_taken lists n ps)
