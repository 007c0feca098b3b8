-- The encoding of whole forms over the trees of a pool.
use Rattle.std.specs.Prelude.{◌≡◌, ◌≤◌, ◌<◌, ◌+◌, ◌++◌, ℕ, suc, List, [], ◌∷◌, map, length, Option, Some, IfSome, slice_get, option_map}
use Rattle.std.specs.List.{All, flat_map}
use Rattle.data_theory.specs.declared.ids.VarId.{VarId}
use Rattle.data_theory.specs.declared.ids.TermId.{TermId}
use Rattle.data_theory.specs.IdTrees.{Tree}
use Rattle.term_pool.specs.HeadTrees.{trees_at, IsIn, AreIn}
use Rattle.greibach.specs.PlainForms.{PlainFormSummand, PlainEquation}
use Rattle.lps_core.specs.TreeSummands.{TreeSummand, IsActionIn}
use Rattle.stack_encoder.specs.StackEntries.{StackIds}
use Rattle.stack_encoder.specs.TreeStack.{FrameLayout, TreeWay, place_at, fields_for, tree_stacked, tree_ways, IsFormSummandIn}

-- ---- summands and equations
abbrev pub summand_stacked : StackIds → FrameLayout → VarId → ℕ → (VarId → Tree) → List Tree → PlainFormSummand → List TreeSummand
summand_stacked y l q i e ts s = map (tree_stacked y q i e ts s) (tree_ways y l q e ts s.next)

abbrev pub equation_stacked : StackIds → FrameLayout → VarId → ℕ → List Tree → PlainEquation → List TreeSummand
equation_stacked y l q i ts e = flat_map (summand_stacked y l q i (fields_for y l q i e.params) ts) e.summands

-- the equations from number i on; equations count from 1
abbrev pub trees_stacked_from : StackIds → FrameLayout → VarId → ℕ → List Tree → List PlainEquation → List TreeSummand
trees_stacked_from y l q i ts [] = []
trees_stacked_from y l q i ts (e ∷ es) = equation_stacked y l q i ts e ++ trees_stacked_from y l q (suc i) ts es

-- ---- what these ask of a pool
-- the summand without its calls, with further conditions and next terms
pub record IsWayIn (ts : List Tree) (s : PlainFormSummand) (further : List TermId) (next : Option (List TermId)) : Type 0 where
  pub condition : IsIn ts s.condition
  pub label : All (IsActionIn ts) s.label
  pub further_in : AreIn ts further
  pub next_in : IfSome next (AreIn ts)

abbrev pub way_of : List Tree → List TermId → Option (List TermId) → TreeWay
way_of ts further next = record { further = trees_at ts further; next = option_map (trees_at ts) next }

-- the equation with this number has a place, with so many columns
pub record IsEquationIn (ts : List Tree) (columns : ℕ) (l : FrameLayout) (i : ℕ) (q : PlainEquation) : Type 0 where
  pub place : i ≤ length l.places
  pub long : length (place_at l i) ≡ length q.params
  pub columns_there : All (λ x. x < columns) (place_at l i)
  pub summands : All (IsFormSummandIn ts l) q.summands

abbrev pub AreEquationsFor : List Tree → ℕ → FrameLayout → List PlainEquation → Type 0
AreEquationsFor ts columns l qs = (k : ℕ) (q : PlainEquation) → slice_get qs k ≡ Some q → IsEquationIn ts columns l (k + 1) q
