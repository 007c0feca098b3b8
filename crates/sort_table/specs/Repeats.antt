-- Which entries of a list meet an earlier one.
use Rattle.std.specs.Prelude.{◌≡◌, ◌<◌, ◌≤◌, ◌⊎◌, ℕ, List, map, Option, Some, None, slice_get}
use Rattle.std.specs.BTreeMap.{BTreeMap}
use denote.Ref.{Bor}
use Rattle.sort_table.specs.declared.repeats.Entry.{Entry}
use Rattle.sort_table.specs.SortIndexes.{place_under}

-- a key that is left for later entries, one that meets those of earlier ones, and the number of the declaration
pub record Mark : Type 0 where
  pub left : List ℕ
  pub met : List ℕ
  pub number : ℕ

abbrev pub mark_of : Entry → Mark
mark_of e = record { left = e.left.items; met = e.met.items; number = e.number }

abbrev pub marks_of : List Entry → List Mark
marks_of es = map mark_of es

-- an entry in front of this place leaves the key, with this number
abbrev pub Leaves : List Mark → ℕ → List ℕ → ℕ → Type 0
Leaves ms bound key number = (p : ℕ) × (m : Mark) × (p < bound) × (slice_get ms p ≡ Some m) × (m.left ≡ key) × (m.number ≡ number)

-- an entry in front of this place has the second number, and meets one in front of it with the first number
abbrev pub Meets : List Mark → ℕ → ℕ → ℕ → Type 0
Meets ms bound first second = (q : ℕ) × (m : Mark) × (q < bound) × (slice_get ms q ≡ Some m) × (m.number ≡ second) × Leaves ms q m.met first

-- the least number with a property, or none
abbrev pub IsLeast : (ℕ → Type 0) → Option ℕ → Type 0
IsLeast P None = (n : ℕ) → ¬ (P n)
IsLeast P (Some m) = P m × ((n : ℕ) → P n → m ≤ n)

-- the number as a first one beside a second one
abbrev pub pair_under : Option ℕ → ℕ → Option (ℕ × ℕ)
pair_under None second = None
pair_under (Some first) second = Some (first, second)

-- the least second number of a pair with a property, and for it the least first, or none
abbrev pub IsLeastPair : (ℕ → ℕ → Type 0) → Option (ℕ × ℕ) → Type 0
IsLeastPair R None = (i j : ℕ) → ¬ (R i j)
IsLeastPair R (Some p) = R p.0 p.1 × ((i j : ℕ) → R i j → p.1 ≤ j) × ((i : ℕ) → R i p.1 → p.0 ≤ i)

-- no later than the other one
abbrev pub Precedes : Option (ℕ × ℕ) → Option (ℕ × ℕ) → Type 0
Precedes a None = Unit {0}
Precedes None (Some q) = ⊥
Precedes (Some p) (Some q) = (p.1 < q.1) ⊎ ((p.1 ≡ q.1) × (p.0 ≤ q.0))

-- one of the two, and no later than either
pub record IsLesser (a b r : Option (ℕ × ℕ)) : Type 0 where
  pub one : (r ≡ a) ⊎ (r ≡ b)
  pub first : Precedes r a
  pub second : Precedes r b

-- the map has the least number of those that leave a key in front of this place
abbrev pub KnowsLeast : BTreeMap (Bor (List ℕ)) ℕ → List Mark → ℕ → Type 0
KnowsLeast map ms bound = (key : List ℕ) → IsLeast (Leaves ms bound key) (place_under map key)
