-- Combinations of one element of each list.
use Rattle.std.specs.Prelude.{◌≡◌, ◌<◌, ◌++◌, ℕ, suc, List, [], ◌∷◌, map, length, take, drop, Option, Some, None, slice_get, Vec}
use Rattle.std.specs.List.{flat_map, All}
use Rattle.std.specs.Global.{Global}
use Rattle.data_theory.specs.declared.ids.TermId.{TermId}

-- all lists that have one element of each of these, in order: the last element changes fastest
abbrev pub combinations : {A : Type 0} → List (List A) → List (List A)
combinations [] = [] ∷ []
combinations (xs ∷ xss) = flat_map (λ x. map (λ c. x ∷ c) (combinations xss)) xs

abbrev pub rows : List (Vec TermId Global) → List (List TermId)
rows lists = map (λ (list : Vec TermId Global). list.items) lists

-- ---- from some of them on
-- places in the first of some lists
abbrev pub AreWithin : {A : Type 0} → List (List A) → List ℕ → Type 0
AreWithin xss [] = Unit {0}
AreWithin [] (i ∷ is) = ⊥
AreWithin (xs ∷ xss) (i ∷ is) = (i < length xs) × AreWithin xss is

abbrev pub AreFilled : {A : Type 0} → List (List A) → Type 0
AreFilled [] = Unit {0}
AreFilled (xs ∷ xss) = (0 < length xs) × AreFilled xss

-- the element at a place, in front of these lists
abbrev pub before_each : {A : Type 0} → Option A → List (List A) → List (List A)
before_each None cs = []
before_each (Some x) cs = map (λ c. x ∷ c) cs

-- the combinations with a later first element
abbrev pub with_later : {A : Type 0} → List A → List (List A) → ℕ → List (List A)
with_later xs xss i = combinations (drop (suc i) xs ∷ xss)

-- those from the first one that begins with the elements at these places on, and those behind all that begin with them
abbrev pub from_places : {A : Type 0} → List (List A) → List ℕ → List (List A)
from_places xss [] = combinations xss
from_places [] (i ∷ is) = []
from_places (xs ∷ xss) (i ∷ is) = before_each (slice_get xs i) (from_places xss is) ++ with_later xs xss i

abbrev pub behind_places : {A : Type 0} → List (List A) → List ℕ → List (List A)
behind_places xss [] = []
behind_places [] (i ∷ is) = []
behind_places (xs ∷ xss) (i ∷ is) = before_each (slice_get xs i) (behind_places xss is) ++ with_later xs xss i

abbrev pub read_before : {A : Type 0} → Option A → List A → List A
read_before None ys = ys
read_before (Some x) ys = x ∷ ys

-- the elements at these places
abbrev pub places_read : {A : Type 0} → List (List A) → List ℕ → List A
places_read xss [] = []
places_read [] (i ∷ is) = []
places_read (xs ∷ xss) (i ∷ is) = read_before (slice_get xs i) (places_read xss is)

-- ---- what is left out
-- some that begin with the same first values as these, and nothing else
pub record LeavesOut (level : ℕ) (values : List TermId) (old new : List (List TermId)) : Type 0 where
  pub left_out : List (List TermId)
  pub split : old ≡ left_out ++ new
  pub alike : All (λ (c : List TermId). take level c ≡ take level values) left_out
