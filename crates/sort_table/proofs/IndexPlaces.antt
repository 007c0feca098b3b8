-- The first places of names.
use Rattle.std.proofs.Common.{◌≡◌, ℕ, suc, Bool, true, false, cond, List, [], ◌∷◌, ◌++◌, length, refl, ap, sym, ◌∙◌}
use Rattle.std.specs.Prelude.{Option, Some, None, is_some, option_map, bytes_eq}
use Rattle.std.specs.Option.{option_or}
use Rattle.std.specs.BTreeMap.{BTreeMap}
use Rattle.std.proofs.lemmas.Slice.Eq.{bytes_eq-Decides}
use denote.Ref.{Bor}
use Rattle.sort_table.specs.Expressions.{Name}
use Rattle.sort_table.specs.NamedLists.{first_named}
use Rattle.sort_table.specs.SortMeanings.{Kind}
use Rattle.sort_table.specs.SortIndexes.{first_place, place_under, GetsPlace, KnowsFirstPlaces}

-- the place of a name, where one entry more stands behind
pub place_behind : {A : Type 0} (n m : Name) (rs : List (Name × A)) (x : A) → first_place n (rs ++ (m, x) ∷ []) ≡ option_or (first_place n rs) (cond (bytes_eq m n) (Some (length rs)) None)
place_behind n m [] x = by_test (bytes_eq m n)
  where
    by_test : (b : Bool) → cond b (Some 0) (option_map suc None) ≡ cond b (Some 0) None
    by_test true = refl
    by_test false = refl
place_behind n m (r ∷ rs) x = ap (λ o. cond (bytes_eq r.0 n) (Some 0) (option_map suc o)) (place_behind n m rs x) ∙ by_test (bytes_eq r.0 n) (first_place n rs) (bytes_eq m n)
  where
    by_test : (b : Bool) (o : Option ℕ) (c : Bool) → cond b (Some 0) (option_map suc (option_or o (cond c (Some (length rs)) None))) ≡ option_or (cond b (Some 0) (option_map suc o)) (cond c (Some (suc (length rs))) None)
    by_test true o c = refl
    by_test false (Some i) c = refl
    by_test false None true = refl
    by_test false None false = refl

-- with the entry, and its place under its name where that had none, the map still knows the first places
pub known_behind : (old new : BTreeMap (Bor Name) ℕ) (rs : List (Name × Kind)) (m : Name) (k : Kind) (place : ℕ)
    → KnowsFirstPlaces old rs → place ≡ length rs → GetsPlace old m place new → KnowsFirstPlaces new (rs ++ (m, k) ∷ [])
known_behind old new rs m k place known at put n =
    put n ∙ (ap (λ o. option_or o (cond (bytes_eq m n) (Some place) None)) (known n) ∙ (ap (λ (i : ℕ). option_or (first_place n rs) (cond (bytes_eq m n) (Some i) None)) at ∙ sym (place_behind n m rs k)))

-- ---- a place is there exactly where the name has an entry
pub placed : {A : Type 0} (n : Name) (rs : List (Name × A)) → is_some (first_place n rs) ≡ is_some (first_named n rs)
placed {A} n [] = refl
placed {A} n (r ∷ rs) = by_test (bytes_eq r.0 n) (first_place n rs) (first_named n rs) (placed n rs)
  where
    by_test : (b : Bool) (o : Option ℕ) (p : Option A) → is_some o ≡ is_some p → is_some (cond b (Some 0) (option_map suc o)) ≡ is_some (cond b (Some r.1) p)
    by_test true o p h = refl
    by_test false None p h = h
    by_test false (Some i) p h = h

-- ---- a place is put under a name that has none
pub put_first : (old new : BTreeMap (Bor Name) ℕ) (m : Name) (place : ℕ) → is_some (place_under old m) ≡ false
    → ((n : Name) → place_under new n ≡ cond (bytes_eq m n) (Some place) (place_under old n)) → GetsPlace old m place new
put_first old new m place absent put n = put n ∙ by_test (bytes_eq m n) refl
  where
    none_stays : (o p : Option ℕ) → is_some o ≡ false → p ≡ option_or o p
    none_stays None p h = refl
    none_stays (Some i) p h = cc

    none_behind : (o : Option ℕ) → o ≡ option_or o None
    none_behind None = refl
    none_behind (Some i) = refl

    by_test : (b : Bool) → bytes_eq m n ≡ b → cond b (Some place) (place_under old n) ≡ option_or (place_under old n) (cond b (Some place) None)
    by_test true e = none_stays (place_under old n) (Some place) (ap (λ (k : Name). is_some (place_under old k)) (sym ((bytes_eq-Decides m n).0 e)) ∙ absent)
    by_test false e = none_behind (place_under old n)
