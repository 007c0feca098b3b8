-- The greatest constant set in code, and initial terms that are put in.
use Rattle.std.specs.Prelude.{◌≡◌, Bool, true, ℕ, List, [], ◌∷◌, map, cond, get_or, option_map, Option, None, Some, slice_get, slice_index_or, false}
use Rattle.std.specs.List.{All, Contains}
use Rattle.std.specs.Global.{Vec}
use Rattle.data_theory.specs.declared.ids.VarId.{VarId}
use Rattle.data_theory.specs.declared.ids.TermId.{TermId}
use Rattle.data_theory.specs.Terms.{Term}
use Rattle.data_theory.specs.IdTrees.{Tree, variable, put_tree}
use Rattle.term_pool.specs.HeadTrees.{tree_at, trees_at, AreIn}
use Rattle.graphs.specs.Graphs.{IsReversed, AreReached}
use Rattle.bisim_laws.specs.BaseStates.{Fate, kept, constant}
use Rattle.lps_core.specs.PlainLinears.{PlainSummand, PlainLinear}
use Rattle.lps_core.specs.TreeSummands.{TreeSummand, bound_tree, put_actions, trees_of_summand, IsSummandIn}
use Rattle.term_pool.specs.Bindings.{listed}
use Rattle.lps_parelm.specs.Keeping.{keep, fates_of}
use Rattle.lps_parelm.specs.Uses.{AreUses}

-- ---- the greatest constant set
-- the parameters, each with its initial term
abbrev pub initial_tree : List Tree → PlainLinear → VarId → Tree
initial_tree ts l = bound_tree l.params (trees_at ts l.init)

-- with the initial terms put in, the next term of the parameter at a place is its initial one
abbrev pub StaysIn : List Tree → PlainLinear → ℕ → List TermId → Type 0
StaysIn ts l place ids = put_tree (initial_tree ts l) (tree_at ts (get_or ids place (record { 0 = 0 }))) ≡ tree_at ts (get_or l.init place (record { 0 = 0 }))

abbrev pub StaysInitial : List Tree → PlainLinear → ℕ → Type 0
StaysInitial ts l place = (s : PlainSummand) (ids : List TermId) → Contains l.summands s → s.next ≡ Some ids → StaysIn ts l place ids

pub record Changes (ts : List Tree) (l : PlainLinear) (place : ℕ) : Type 0 where
  pub summand : PlainSummand
  pub among : Contains l.summands summand
  pub ids : List TermId
  pub next : summand.next ≡ Some ids
  pub differs : ¬ (StaysIn ts l place ids)

-- exactly the terms of the parameters that change
pub record AreChanging (ts : List Tree) (l : PlainLinear) (vars : List TermId) (start : List ℕ) : Type 0 where
  pub sound : (n : ℕ) → Contains start n → (place : ℕ) × (var : TermId) × (slice_get vars place ≡ Some var) × (var.0 ≡ n) × Changes ts l place
  pub others : (place : ℕ) (var : TermId) → slice_get vars place ≡ Some var → ¬ (Contains start var.0) → StaysInitial ts l place

-- a mark for each of the parameters, set where a path leads from its term to one of these
pub record LeadTo (edges : List (Vec ℕ)) (start : List ℕ) (vars : List TermId) (marks : List Bool) : Type 0 where
  pub back : List (Vec ℕ)
  pub turned : IsReversed edges back
  pub reached : List Bool
  pub exact : AreReached back start reached
  pub marks_are : marks ≡ map (λ (var : TermId). slice_index_or reached var.0 false) vars

-- a mark for each parameter, set where it uses one that changes
pub record AreNotConstant (ts : List Tree) (l : PlainLinear) (marks : List Bool) : Type 0 where
  pub vars : List TermId
  pub inside : AreIn ts vars
  pub are : trees_at ts vars ≡ map variable l.params
  pub edges : List (Vec ℕ)
  pub uses : AreUses ts vars l.summands edges
  pub start : List ℕ
  pub changing : AreChanging ts l vars start
  pub lead : LeadTo edges start vars marks

-- the marked ones are kept, and the others are constant with their initial terms
abbrev pub set_of : List Bool → List Term → List Fate
set_of [] ts = []
set_of (m ∷ marks) [] = []
set_of (m ∷ marks) (t ∷ ts) = cond m kept (constant t) ∷ set_of marks ts

-- ---- putting in
abbrev pub unmarked : List Bool → List Bool
unmarked marks = map (λ (m : Bool). cond m false true) marks

abbrev pub pairs_of : List VarId → List TermId → List (VarId × TermId)
pairs_of [] ids = []
pairs_of (x ∷ xs) [] = []
pairs_of (x ∷ xs) (id ∷ ids) = (x, id) ∷ pairs_of xs ids

-- a summand with the next terms of the kept parameters, and what is put in for the others
abbrev pub put_kept_summand : (VarId → Tree) → List Fate → TreeSummand → TreeSummand
put_kept_summand e fates s = record { sums = s.sums; condition = put_tree e s.condition; label = put_actions e s.label; next = option_map (λ us. map (put_tree e) (keep fates us)) s.next }

-- ---- one parameter
-- with these trees put in, some next term at a place isn't the initial one, and all of them are
pub record ChangesBy (e : VarId → Tree) (ts : List Tree) (ss : List PlainSummand) (place : ℕ) (init : TermId) : Type 0 where
  pub summand : PlainSummand
  pub among : Contains ss summand
  pub ids : List TermId
  pub next : summand.next ≡ Some ids
  pub differs : ¬ (put_tree e (tree_at ts (get_or ids place (record { 0 = 0 }))) ≡ tree_at ts init)

abbrev pub StaysBy : (VarId → Tree) → List Tree → List PlainSummand → ℕ → TermId → Type 0
StaysBy e ts ss place init = (s : PlainSummand) (ids : List TermId) → Contains ss s → s.next ≡ Some ids → put_tree e (tree_at ts (get_or ids place (record { 0 = 0 }))) ≡ tree_at ts init

abbrev pub NextChangesBy : (VarId → Tree) → List Tree → ℕ → TermId → Option (List TermId) → Type 0
NextChangesBy e ts place init None = ⊥
NextChangesBy e ts place init (Some ids) = ¬ (put_tree e (tree_at ts (get_or ids place (record { 0 = 0 }))) ≡ tree_at ts init)

abbrev pub NextStaysBy : (VarId → Tree) → List Tree → ℕ → TermId → Option (List TermId) → Type 0
NextStaysBy e ts place init None = Unit {0}
NextStaysBy e ts place init (Some ids) = put_tree e (tree_at ts (get_or ids place (record { 0 = 0 }))) ≡ tree_at ts init

-- ---- the process without the unmarked ones
-- the initial terms of the unmarked parameters
abbrev pub unmarked_trees : List Tree → List Bool → PlainLinear → VarId → Tree
unmarked_trees ts marks l = listed ts (pairs_of (keep (fates_of (unmarked marks)) l.params) (keep (fates_of (unmarked marks)) l.init))

pub record IsWithoutUnmarked (ts us : List Tree) (marks : List Bool) (l k : PlainLinear) : Type 0 where
  pub params : k.params ≡ keep (fates_of marks) l.params
  pub init : k.init ≡ keep (fates_of marks) l.init
  pub within : All (IsSummandIn us) k.summands
  pub summands : map (trees_of_summand us) k.summands ≡ map (put_kept_summand (unmarked_trees ts marks l) (fates_of marks)) (map (trees_of_summand ts) l.summands)
