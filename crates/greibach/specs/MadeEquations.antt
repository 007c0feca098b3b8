-- The equations that are made for the places of a table, by what the ids mean in the end.
use Rattle.std.specs.Prelude.{◌≡◌, ◌≤◌, ℕ, List, [], ◌∷◌, ◌++◌, map, length, Some, slice_get}
use Rattle.data_theory.specs.declared.ids.TermId.{TermId}
use Rattle.data_theory.specs.Terms.{variable}
use Rattle.data_theory.specs.Environments.{AreDistinct}
use Rattle.process_terms.specs.Meanings.{Entries, bound_at, term_at}
use Rattle.bisim_laws.specs.LinearProcesses.{sorts}
use Rattle.lps_core.specs.TreeSummands.{numbers_of}
use Rattle.greibach.specs.PlainForms.{PlainEquation}
use Rattle.greibach.specs.PlacesInCode.{PlainPlaces}
use Rattle.greibach.specs.ListedVariables.{paired}
use Rattle.greibach.specs.OnwardCalls.{params_of_place}
use Rattle.greibach.specs.AddedHeads.{Adds}

-- The equation of a place: parameters of its own in place of those of the place, of the same sorts, and the summands that are added.
-- On the way places are met.
pub record IsEquationAt (e : Entries) (t : PlainPlaces) (n : ℕ) (q : PlainEquation) (old new : List ℕ) : Type 0 where
  pub terms : List TermId
  pub themselves : map (term_at e) terms ≡ map variable (numbers_of q.params)
  pub same_sorts : sorts (map (bound_at e) q.params) ≡ sorts (map (bound_at e) (params_of_place t n))
  pub distinct : AreDistinct (numbers_of q.params)
  pub adds : Adds e t (record { params = q.params; sums = []; by = paired (params_of_place t n) terms; parts = [] }) [] n old new q.summands

-- one after another from the start on, each for the next place that was met
pub data Makes (e : Entries) (t : PlainPlaces) (start : ℕ) : List PlainEquation → List ℕ → Type 0 where
  makes_none : Makes e t start [] (start ∷ [])
  makes_more : {qs : List PlainEquation} {met : List ℕ} (q : PlainEquation) (n : ℕ) (new : List ℕ) → Makes e t start qs met → slice_get met (length qs) ≡ Some n → IsEquationAt e t n q met new → Makes e t start (qs ++ q ∷ []) new

-- each place that was met has its equation
pub record MakesAll (e : Entries) (t : PlainPlaces) (qs : List PlainEquation) : Type 0 where
  pub met : List ℕ
  pub makes : Makes e t t.start qs met
  pub all : length met ≤ length qs
