-- Constants in the place of empty lists.
use Rattle.std.specs.Prelude.{◌≡◌, ◌<◌, ℕ, Bool, true, false, cond, List, [], ◌∷◌, length, Option, Some, None}
use Rattle.data_theory.specs.Terms.{Sort, list, Symbol, empty, cons, function, Term, Terms, variable, unknown, application}
use Rattle.data_theory.specs.Terms as terms
use Rattle.data_theory.specs.Declarations.{Data, function_at, HasSort}
use Rattle.lps_printer.specs.WrittenTerms.{Names, Manner, no_elements, an_element, a_cast, declared, built_in, manner}
use Rattle.lps_printer.specs.ReadableNames.{IsWritable, is_nil}

-- a term in an open place and in a place of declared sort
pub record Filled : Type 0 where
  pub opened : Term
  pub placed : Term

abbrev pub alike : Term → Filled
alike t = record { opened = t; placed = t }

abbrev pub all_opened : List Filled → Terms
all_opened [] = terms.none
all_opened (f ∷ fs) = terms.more f.opened (all_opened fs)

abbrev pub all_placed : List Filled → Terms
all_placed [] = terms.none
all_placed (f ∷ fs) = terms.more f.placed (all_placed fs)

-- the first of two in an open place, the second one where an empty list may stand
abbrev pub as_elements : List Filled → Terms
as_elements (f ∷ h ∷ []) = terms.more f.opened (terms.more h.placed terms.none)
as_elements fs = all_opened fs

-- the empty list over a sort, or its constant where there is one
abbrev pub empty_or : Option ℕ → Sort → Term
empty_or None s = application (empty s) terms.none
empty_or (Some k) s = application (function k) terms.none

-- by the constant of each sort of elements, and the functions whose arguments stand in places of declared sort
abbrev pub filled_in : (Sort → Option ℕ) → (ℕ → Bool) → Manner → Symbol → List Filled → Filled
filled_in c o (no_elements s) f fs = record { opened = empty_or (c s) s; placed = application (empty s) terms.none }
filled_in c o an_element f fs = alike (application f (as_elements fs))
filled_in c o a_cast f fs = alike (application f (all_opened fs))
filled_in c o (declared k) f fs = alike (application f (cond (o k) (all_placed fs) (all_opened fs)))
filled_in c o built_in f fs = alike (application f (all_opened fs))

abbrev pub filled_with : (Sort → Option ℕ) → (ℕ → Bool) → Symbol → List Filled → Filled
filled_with c o f fs = filled_in c o (manner f) f fs

abbrev mutual
  pub filled : (Sort → Option ℕ) → (ℕ → Bool) → Term → Filled
  filled c o (variable v) = alike (variable v)
  filled c o (terms.numeral s z) = alike (terms.numeral s z)
  filled c o (unknown d k) = alike (unknown d k)
  filled c o (application f ts) = filled_with c o f (filled_all c o ts)

  pub filled_all : (Sort → Option ℕ) → (ℕ → Bool) → Terms → List Filled
  filled_all c o terms.none = []
  filled_all c o (terms.more t ts) = filled c o t ∷ filled_all c o ts

-- each of these sorts of elements has a constant of its lists
abbrev pub HasNils : Data → (Sort → Type 0) → (Sort → Option ℕ) → Type 0
HasNils g P c = (s : Sort) → P s → (k : ℕ) × (c s ≡ Some k) × (k < length g.functions) × ((function_at g k).arguments ≡ []) × ((function_at g k).result ≡ list s)

-- in an open place
abbrev pub Opened : Bool → Type 0 → Type 0
Opened true X = Unit {0}
Opened false X = X

-- The empty lists that stand in open places are over these sorts. The test tells a place of declared sort.
abbrev mutual
  pub NilsAmong : (Sort → Type 0) → (ℕ → Bool) → Bool → Term → Type 0
  NilsAmong P o b (variable v) = Unit {0}
  NilsAmong P o b (terms.numeral s z) = Unit {0}
  NilsAmong P o b (unknown d k) = Unit {0}
  NilsAmong P o b (application (empty s) ts) = Opened b (P s)
  NilsAmong P o b (application (cons s) ts) = NilsAmongElements P o ts
  NilsAmong P o b (application (function k) ts) = AllNilsAmong P o (o k) ts
  NilsAmong P o b (application _ ts) = AllNilsAmong P o false ts

  pub AllNilsAmong : (Sort → Type 0) → (ℕ → Bool) → Bool → Terms → Type 0
  AllNilsAmong P o b terms.none = Unit {0}
  AllNilsAmong P o b (terms.more t ts) = NilsAmong P o b t × AllNilsAmong P o b ts

  pub NilsAmongElements : (Sort → Type 0) → (ℕ → Bool) → Terms → Type 0
  NilsAmongElements P o terms.none = Unit {0}
  NilsAmongElements P o (terms.more t ts) = NilsAmong P o false t × AllNilsAmong P o true ts

abbrev mutual
  pub HasNoUnknown : Term → Type 0
  HasNoUnknown (variable v) = Unit {0}
  HasNoUnknown (terms.numeral s z) = Unit {0}
  HasNoUnknown (unknown d k) = ⊥
  HasNoUnknown (application f ts) = HaveNoUnknown ts

  pub HaveNoUnknown : Terms → Type 0
  HaveNoUnknown terms.none = Unit {0}
  HaveNoUnknown (terms.more t ts) = HasNoUnknown t × HaveNoUnknown ts

-- with the constants a term is of its sort and can be written
pub record IsFilled (g : Data) (vs : List Sort) (n : Names) (b : Bool) (f : Filled) (s : Sort) : Type 0 where
  pub opened : b ≡ false → HasSort g vs f.opened s × (is_nil f.opened ≡ false) × IsWritable n f.opened
  pub placed : HasSort g vs f.placed s × IsWritable n f.placed

abbrev pub FilledTermsAreWritable : Type 0
FilledTermsAreWritable = (g : Data) (vs : List Sort) (n : Names) (needed : Sort → Bool) (c : Sort → Option ℕ) → HasNils g (λ s. needed s ≡ true) c → (b : Bool) (t : Term) (s : Sort) → HasSort g vs t s → HasNoUnknown t → NilsAmong (λ r. needed r ≡ true) n.once b t
    → IsFilled g vs n b (filled c n.once t) s
