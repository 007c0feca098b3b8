-- The parts of conditions, and which of them can't be true.
use Rattle.std.specs.Prelude.{◌≡◌, ◌≢◌, ◌⊎◌, List, [], ◌∷◌, Option, None, Some, Bool, false, not, ℤ}
use Rattle.std.specs.List.{Contains}
use lib.Signed.{lt_z, le_z}
use Rattle.data_theory.specs.Terms.{Sort, less, at_most, greater, at_least, Symbol, conjunction, equality, inequality, comparison, empty, cons, Term, numeral, application, none, more}
use Rattle.data_theory.specs.Declarations.{Data}
use Rattle.data_theory.specs.Equations.{falseᵗ, !ᵗ◌}
use Rattle.data_theory.specs.Arithmetic.{equal_numbers}
use Rattle.eqn_check.specs.Patterns.{IsConstructor}

-- the parts of `x && y` are x and those of y
abbrev pub parts : Term → List Term
parts (application conjunction (more x (more y none))) = x ∷ parts y
parts c = c ∷ []

-- ---- what a part says of two terms
pub data Relation : Type 0 where
  below : Relation  -- <
  up_to : Relation  -- <=
  equal : Relation  -- ==
  different : Relation  -- !=

pub record Reading : Type 0 where
  pub relation : Relation
  pub one : Term
  pub other : Term

-- `u > v` says that v is below u, and `u >= v` that v is up to u
abbrev pub reading_of : Symbol → Term → Term → Option Reading
reading_of (comparison less s) u v = Some (record { relation = below; one = u; other = v })
reading_of (comparison at_most s) u v = Some (record { relation = up_to; one = u; other = v })
reading_of (comparison greater s) u v = Some (record { relation = below; one = v; other = u })
reading_of (comparison at_least s) u v = Some (record { relation = up_to; one = v; other = u })
reading_of (equality s) u v = Some (record { relation = equal; one = u; other = v })
reading_of (inequality s) u v = Some (record { relation = different; one = u; other = v })
reading_of _ u v = None

abbrev pub reading : Term → Option Reading
reading (application f (more u (more v none))) = reading_of f u v
reading _ = None

-- ---- parts that are false by their form
abbrev pub holds : Relation → ℤ → ℤ → Bool
holds below x y = lt_z x y
holds up_to x y = le_z x y
holds equal x y = equal_numbers x y
holds different x y = not (equal_numbers x y)

-- two numerals of which it doesn't hold
pub record IsFalseOfNumerals (r : Reading) : Type 0 where
  pub sort : Sort
  pub other_sort : Sort
  pub number : ℤ
  pub other_number : ℤ
  pub one : r.one ≡ numeral sort number
  pub other : r.other ≡ numeral other_sort other_number
  pub fails : holds r.relation number other_number ≡ false

-- no term is so related to itself
abbrev pub IsStrict : Relation → Type 0
IsStrict below = Unit {0}
IsStrict different = Unit {0}
IsStrict _ = ⊥

-- two symbols are different, whatever the sorts of `[]` and `|>`
abbrev pub AreDifferent : Symbol → Symbol → Type 0
AreDifferent (empty s) (empty t) = ⊥
AreDifferent (cons s) (cons t) = ⊥
AreDifferent f h = f ≢ h

-- two terms begin with different constructors
abbrev pub BeginDifferently : Data → Term → Term → Type 0
BeginDifferently g (application f ts) (application h us) = IsConstructor g f × IsConstructor g h × AreDifferent f h
BeginDifferently g _ _ = ⊥

abbrev pub IsFalseReading : Data → Reading → Type 0
IsFalseReading g r = IsFalseOfNumerals r ⊎ (((r.one ≡ r.other) × IsStrict r.relation) ⊎ ((r.relation ≡ equal) × BeginDifferently g r.one r.other))

abbrev pub IsFalseByForm : Data → Term → Type 0
IsFalseByForm g t = (t ≡ falseᵗ) ⊎ ((r : Reading) × (reading t ≡ Some r) × IsFalseReading g r)

-- ---- parts that can't both be true
abbrev pub HaveSameSides : Reading → Reading → Type 0
HaveSameSides r s = (r.one ≡ s.one) × (r.other ≡ s.other)

abbrev pub HaveTurnedSides : Reading → Reading → Type 0
HaveTurnedSides r s = (r.one ≡ s.other) × (r.other ≡ s.one)

abbrev pub AreContraryAs : Relation → Relation → Reading → Reading → Type 0
AreContraryAs equal different r s = HaveSameSides r s ⊎ HaveTurnedSides r s
AreContraryAs below equal r s = HaveSameSides r s ⊎ HaveTurnedSides r s
AreContraryAs below below r s = HaveTurnedSides r s
AreContraryAs below up_to r s = HaveTurnedSides r s
AreContraryAs _ _ r s = ⊥

abbrev pub AreContraryReadings : Reading → Reading → Type 0
AreContraryReadings r s = AreContraryAs r.relation s.relation r s

-- `u` and `!u`, or as these readings say
abbrev pub AreContrary : Term → Term → Type 0
AreContrary t u = (u ≡ !ᵗ t) ⊎ ((r : Reading) × (s : Reading) × (reading t ≡ Some r) × (reading u ≡ Some s) × AreContraryReadings r s)

-- one of these parts is false by its form, or two of them are contrary
abbrev pub CantAllHold : Data → List Term → Type 0
CantAllHold g ts =
    ((t : Term) × Contains ts t × IsFalseByForm g t) ⊎ ((t : Term) × (u : Term) × Contains ts t × Contains ts u × AreContrary t u)
