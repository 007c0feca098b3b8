-- The terms of a pool as a graph: from each term to its arguments, and from the variable of each parameter to its next terms.
use Rattle.std.specs.Prelude.{◌≡◌, ◌<◌, ◌↔◌, ◌⊎◌, ℕ, Bool, false, List, [], ◌∷◌, map, flat_map, length, get_or, Option, Some, None, IfSome, slice_get, slice_index_or}
use Rattle.std.specs.List.{All, Contains}
use Rattle.std.specs.Global.{Vec}
use Rattle.data_theory.specs.declared.ids.TermId.{TermId}
use Rattle.data_theory.specs.IdTrees.{Tree}
use Rattle.term_pool.specs.declared.terms.Head.{Head}
use Rattle.term_pool.specs.Pools.{AreDistinct}
use Rattle.term_pool.specs.HeadTrees.{written_tree, tree_at, trees_at, Stands}
use Rattle.process_terms.specs.PlainProcesses.{PlainAction}
use Rattle.graphs.specs.Graphs.{successors, HasEdge, AreReached}
use Rattle.lps_core.specs.PlainLinears.{PlainSummand}

abbrev pub numbers : List TermId → List ℕ
numbers ids = map (λ (id : TermId). id.0) ids

-- ---- the terms of a summand
-- the arguments of a label's actions
abbrev pub argument_numbers : List PlainAction → List ℕ
argument_numbers m = flat_map (λ (a : PlainAction). numbers a.args) m

-- its condition, and the arguments of its actions
abbrev pub shown_numbers : PlainSummand → List ℕ
shown_numbers s = s.condition.0 ∷ argument_numbers s.label

-- its next term at a place
abbrev pub next_number : ℕ → Option (List TermId) → List ℕ
next_number place None = []
next_number place (Some ids) = (get_or ids place (record { 0 = 0 })).0 ∷ []

abbrev pub next_numbers : ℕ → List PlainSummand → List ℕ
next_numbers place ss = flat_map (λ (s : PlainSummand). next_number place s.next) ss

-- each next call has so many terms
abbrev pub HaveNextTerms : ℕ → List PlainSummand → Type 0
HaveNextTerms count ss = All (λ (s : PlainSummand). IfSome s.next (λ ids. length ids ≡ count)) ss

-- ---- the graph
-- the term with this number has these arguments
pub record HasArguments (ts : List Tree) (term : ℕ) (places : List ℕ) : Type 0 where
  pub head : Head
  pub args : List TermId
  pub tree : tree_at ts (record { 0 = term }) ≡ written_tree head (trees_at ts args)
  pub stands : Stands head args
  pub below : All (λ (id : TermId). id.0 < term) args
  pub are : places ≡ numbers args

pub record AreArguments (ts : List Tree) (edges : List (Vec ℕ)) : Type 0 where
  pub size : length edges ≡ length ts
  pub distinct : AreDistinct ts
  pub each : (term : ℕ) → term < length ts → HasArguments ts term (successors edges term)

-- the term a stands for a parameter, of which b is a next term
abbrev pub IsNextUse : List TermId → List PlainSummand → ℕ → ℕ → Type 0
IsNextUse vars ss a b = (place : ℕ) × (var : TermId) × (slice_get vars place ≡ Some var) × (var.0 ≡ a) × Contains (next_numbers place ss) b

-- `vars` are the terms of the parameters
pub record AreUses (ts : List Tree) (vars : List TermId) (ss : List PlainSummand) (edges : List (Vec ℕ)) : Type 0 where
  pub within : List (Vec ℕ)
  pub arguments : AreArguments ts within
  pub size : length edges ≡ length ts
  pub exact : (a b : ℕ) → HasEdge edges a b ↔ (HasEdge within a b ⊎ IsNextUse vars ss a b)

-- a mark for each of the parameters, set where its term is reached from the terms of the conditions and labels
pub record AreMarked (ts : List Tree) (vars : List TermId) (ss : List PlainSummand) (marks : List Bool) : Type 0 where
  pub edges : List (Vec ℕ)
  pub uses : AreUses ts vars ss edges
  pub reached : List Bool
  pub exact : AreReached edges (flat_map shown_numbers ss) reached
  pub are : marks ≡ map (λ (var : TermId). slice_index_or reached var.0 false) vars
