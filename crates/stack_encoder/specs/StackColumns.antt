-- The columns of a form, by their numbers from 0, and what stands in a frame for those that an equation doesn't use.
use Rattle.std.specs.Prelude.{◌≡◌, ◌==◌, ◌<◌, ◌≤◌, ◌-◌, ℕ, zero, suc, List, [], ◌∷◌, ◌++◌, map, length, cond, get_or, slice_get, Option, Some, None}
use Rattle.std.specs.List.{All, AllZip, list_any, flat_map}
use Rattle.data_theory.specs.declared.ids.NameId.{NameId}
use Rattle.data_theory.specs.declared.ids.SortId.{SortId}
use Rattle.data_theory.specs.declared.ids.TermId.{TermId}
use Rattle.data_theory.specs.Table.{bool_sort}
use Rattle.data_theory.specs.Signature.{Sig}
use Rattle.term_pool.specs.Pools.{PoolContents}
use Rattle.lps_core.specs.MadeTerms.{IsClosedTerm}
use Rattle.greibach.specs.PlainForms.{PlainFormSummand, PlainEquation, PlainForm}
use Rattle.regular_encoder.specs.FormColumns.{AreKindsAt}

-- ---- places
-- the places of each equation's parameters among the columns, which are these names and sorts
abbrev pub AreNumberedPlaces : Sig → List (NameId × SortId) → List PlainEquation → List (List ℕ) → Type 0
AreNumberedPlaces g kinds qs places = AllZip (λ (q : PlainEquation) place. AreKindsAt g kinds q.params place) qs places

-- equations count from 1
abbrev pub numbered_place : List (List ℕ) → ℕ → List ℕ
numbered_place places i = get_or places (i - 1) []

-- ---- columns in need of a closed term
-- a column that isn't at the place
abbrev pub unless_used : List ℕ → ℕ → List ℕ
unless_used place x = cond (list_any (λ p. p == x) place) [] (x ∷ [])

-- so many columns, without those at the place
abbrev pub unused : ℕ → List ℕ → List ℕ
unused zero place = []
unused (suc n) place = unused n place ++ unless_used place n

-- a number that isn't there comes last
abbrev pub with_number : List ℕ → ℕ → List ℕ
with_number xs x = cond (list_any (λ y. x == y) xs) xs (xs ++ x ∷ [])

abbrev pub with_numbers : List ℕ → List ℕ → List ℕ
with_numbers xs [] = xs
with_numbers xs (y ∷ ys) = with_numbers (with_number xs y) ys

-- for the frames of calls, from the last call to the first
abbrev pub needed_for : ℕ → List (List ℕ) → List (ℕ × List TermId) → List ℕ
needed_for n places [] = []
needed_for n places (c ∷ cs) = needed_for n places cs ++ unused n (numbered_place places c.0)

abbrev pub needed_in : ℕ → List (List ℕ) → PlainEquation → List ℕ
needed_in n places q = flat_map (λ (s : PlainFormSummand). needed_for n places s.next) q.summands

-- the first frame comes first, then the summands in their order
abbrev pub in_need : ℕ → List (List ℕ) → List PlainEquation → List ℕ
in_need n places qs = with_numbers [] (unused n (numbered_place places 1) ++ flat_map (needed_in n places) qs)

-- ---- their closed terms
abbrev pub sort_of_column : List (NameId × SortId) → ℕ → SortId
sort_of_column kinds x = (get_or kinds x (record { 0 = 0 }, bool_sort)).1

-- `closed_term` answers these for the sorts, one after another
pub data AreClosedTerms (g : Sig) (p : PoolContents) : List SortId → Sig → PoolContents → List TermId → Type 0 where
  no_closed_term : AreClosedTerms g p [] g p []
  one_more_closed_term : {ss : List SortId} {ts : List TermId} {h i : Sig} {q r : PoolContents} {s : SortId} {t : TermId} → AreClosedTerms g p ss h q ts → IsClosedTerm h q s i r t → AreClosedTerms g p (ss ++ s ∷ []) i r (ts ++ t ∷ [])

-- ---- what stands where an equation doesn't use a column
-- the term beside a number
abbrev pub value_at : List ℕ → List TermId → ℕ → Option TermId
value_at [] ts x = None
value_at (p ∷ ps) [] x = None
value_at (p ∷ ps) (t ∷ ts) x = cond (p == x) (Some t) (value_at ps ts x)

abbrev pub or_else : Option TermId → Option TermId → Option TermId
or_else None other = other
or_else (Some t) other = Some t

abbrev pub default_at : List ℕ → List TermId → List ℕ → List TermId → ℕ → Option TermId
default_at needed closed place init x = or_else (value_at needed closed x) (value_at place init x)

-- A column that is needed somewhere has its sort's closed term, and no other gets one. Another column is used by each equation that is
-- called and by the first one; for it stands its first argument, which no frame shows.
pub record HaveDefaults (kinds : List (NameId × SortId)) (places : List (List ℕ)) (f : PlainForm) (g : Sig) (p : PoolContents) (h : Sig) (q : PoolContents) (defaults : List TermId) : Type 0 where
  pub closed : List TermId
  pub closed_terms : AreClosedTerms g p (map (sort_of_column kinds) (in_need (length kinds) places f.equations)) h q closed
  pub long : length defaults ≡ length kinds
  pub each : (x : ℕ) → x < length kinds → slice_get defaults x ≡ default_at (in_need (length kinds) places f.equations) closed (numbered_place places 1) f.init x

-- ---- what the calls ask of the places
-- the equation of the call has a place
pub record LeadsToPlaces (places : List (List ℕ)) (c : ℕ × List TermId) : Type 0 where
  pub from_one : 1 ≤ c.0
  pub within : c.0 ≤ length places

abbrev pub SummandLeadsToPlaces : List (List ℕ) → PlainFormSummand → Type 0
SummandLeadsToPlaces places s = All (LeadsToPlaces places) s.next

abbrev pub EquationLeadsToPlaces : List (List ℕ) → PlainEquation → Type 0
EquationLeadsToPlaces places q = All (SummandLeadsToPlaces places) q.summands
