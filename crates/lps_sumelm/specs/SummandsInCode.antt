-- Summands of a pool, as the passes over them see them.
use Rattle.std.specs.Prelude.{◌≡◌, ◌<◌, ◌==◌, ◌++◌, ℕ, suc, List, [], ◌∷◌, not, map, option_map, length, take, drop, Option, Some, None, IfSome, slice_get}
use Rattle.std.specs.List.{All, AllZip, filter, list_any}
use Rattle.data_theory.specs.declared.ids.VarId.{VarId}
use Rattle.data_theory.specs.declared.ids.TermId.{TermId}
use Rattle.data_theory.specs.Terms.{Sort, Term}
use Rattle.data_theory.specs.Equations.{equals}
use Rattle.data_theory.specs.Environments.{Binding}
use Rattle.data_theory.specs.Keys.{Key}
use Rattle.data_theory.specs.Provable.{Equation}
use Rattle.data_theory.specs.Signature.{Sig}
use Rattle.data_theory.specs.IdData.{data_meant}
use Rattle.data_theory.specs.IdTrees.{Tree, put_tree}
use Rattle.term_pool.specs.Bindings.{listed}
use Rattle.data_theory.specs.IdTerms.{variable_sorts}
use Rattle.data_rewriter.specs.Standing.{IsTerm, term_at, listed_at}
use Rattle.process_terms.specs.PlainProcesses.{PlainAction}
use Rattle.process_terms.specs.Meanings.{bound_at}
use Rattle.process_terms.specs.SignatureEntries.{entries_of}
use Rattle.bisim_laws.specs.LinearProcesses.{Summand, variables, IsSummand, SummandIsSorted}
use Rattle.lps_core.specs.Fitting.{IsVariable, HasTakenName}
use Rattle.lps_core.specs.PlainLinears.{PlainSummand}
use Rattle.lps_core.specs.TreeConditions.{conjunction_tree, tree_parts, trees_without_true}
use Rattle.lps_core.specs.TreeSummands.{TreeSummand, trees_of_summand, put_actions, meant_summand}
use Rattle.lps_sumelm.specs.declared.solutions.Solution.{Solution}
use Rattle.lps_sumelm.specs.Solutions.{IsFirst}
use Rattle.lps_sumelm.specs.Simplified.{IsAnswer, SummandBecomes}
use Rattle.lps_sumelm.specs.Solving.{solve, conditions_of}

-- ---- parts
abbrev pub meant_solution : Sig → List Tree → Solution → Binding
meant_solution g ts f = record { var = f.var.0; term = term_at g ts f.term }

-- the sides of an `==`
pub record HasSides (g : Sig) (ts : List Tree) (part left right : TermId) : Type 0 where
  pub sort : Sort
  pub is : term_at g ts part ≡ equals sort (term_at g ts left) (term_at g ts right)
  pub left_stands : IsTerm g ts left
  pub right_stands : IsTerm g ts right

-- the part at this place is the first solvable one
pub record IsFirstAt (g : Sig) (ts : List Tree) (xs : List ℕ) (parts : List TermId) (place : ℕ) (f : Solution) : Type 0 where
  pub within : place < length parts
  pub first : IsFirst xs (listed_at g ts parts) (meant_solution g ts f) (listed_at g ts (take place parts ++ drop (suc place) parts))
  pub term : IsTerm g ts f.term

-- ---- summands
abbrev pub summand_at : Sig → List Tree → PlainSummand → Summand
summand_at g ts s = meant_summand g (trees_of_summand ts s)

pub record IsActionOver (g : Sig) (ts : List Tree) (a : PlainAction) : Type 0 where
  pub key : Key
  pub stands : slice_get g.actions a.act.0 ≡ Some key
  pub args : All (IsTerm g ts) a.args

-- the terms are those of the pool and the signature
pub record IsSummandOver (g : Sig) (ts : List Tree) (s : PlainSummand) : Type 0 where
  pub condition : IsTerm g ts s.condition
  pub label : All (IsActionOver g ts) s.label
  pub next : IfSome s.next (All (IsTerm g ts))

-- a summand of a process with these parameters
pub record SummandStands (g : Sig) (ts : List Tree) (ps : List VarId) (s : PlainSummand) : Type 0 where
  pub params : All (IsVariable g) ps
  pub sums : All (IsVariable g) s.sums
  pub taken : All (HasTakenName g) s.sums
  pub over : IsSummandOver g ts s
  pub shape : IsSummand (map (bound_at (entries_of g ts)) ps) (summand_at g ts s)
  pub sorted : SummandIsSorted (data_meant g) (variable_sorts g) (map (bound_at (entries_of g ts)) ps) (summand_at g ts s)

-- ---- a step, over the trees of a pool
abbrev pub sums_but : VarId → List VarId → List VarId
sums_but v xs = filter (λ (x : VarId). not (x.0 == v.0)) xs

-- those that are in a set
abbrev pub sums_in : List VarId → List VarId → List VarId
sums_in keys xs = filter (λ (x : VarId). list_any (λ (y : VarId). x.0 == y.0) keys) xs

abbrev pub parts_of_each : List Tree → List Tree
parts_of_each [] = []
parts_of_each (t ∷ ts) = trees_without_true (tree_parts t) ++ parts_of_each ts

-- what is put in
abbrev pub given_tree : List Tree → Solution → VarId → Tree
given_tree ts f = listed ts ((f.var, f.term) ∷ [])

abbrev pub solved_trees : List Tree → Solution → List Tree → TreeSummand → TreeSummand
solved_trees ts f rest s = record {
  sums = sums_but f.var s.sums;
  condition = conjunction_tree (parts_of_each (map (put_tree (given_tree ts f)) rest));
  label = put_actions (given_tree ts f) s.label;
  next = option_map (map (put_tree (given_tree ts f))) s.next;
}

-- ---- what simplifiers answer, as the pool grows
pub record IsTermAnswer (g : Sig) (own : List Equation) (IsSimple : Term → Type 0) (ts us : List Tree) (t u : TermId) : Type 0 where
  pub term : IsTerm g us u
  pub answer : IsAnswer g own IsSimple (term_at g ts t) (term_at g us u)

-- so do actions, place by place, with the same numbers
pub record IsActionAnswer (g : Sig) (own : List Equation) (IsSimple : Term → Type 0) (ts us : List Tree) (a b : PlainAction) : Type 0 where
  pub act : b.act ≡ a.act
  pub args : AllZip (IsTermAnswer g own IsSimple ts us) a.args b.args

abbrev pub AreActionAnswers : Sig → List Equation → (Term → Type 0) → List Tree → List Tree → List PlainAction → List PlainAction → Type 0
AreActionAnswers g own IsSimple ts us m n = AllZip (IsActionAnswer g own IsSimple ts us) m n

-- and next terms
pub data IsNextAnswer (g : Sig) (own : List Equation) (IsSimple : Term → Type 0) (ts us : List Tree) : Option (List TermId) → Option (List TermId) → Type 0 where
  no_next : IsNextAnswer g own IsSimple ts us None None
  next_terms : {ids made : List TermId} → AllZip (IsTermAnswer g own IsSimple ts us) ids made → IsNextAnswer g own IsSimple ts us (Some ids) (Some made)

-- the one summand becomes the other, which is over the grown pool
pub record IsSummandAnswer (g : Sig) (own : List Equation) (IsSimple : Term → Type 0) (ts us : List Tree) (s t : PlainSummand) : Type 0 where
  pub over : IsSummandOver g us t
  pub becomes : SummandBecomes (IsAnswer g own IsSimple) (summand_at g ts s) (summand_at g us t)

-- ---- one step
-- s is solved for its first solvable part, and its terms are simplified
pub record IsStep (To : Term → Term → Type 0) (s t : Summand) : Type 0 where
  pub binding : Binding
  pub rest : List Term
  pub first : IsFirst (variables s.sums) (conditions_of s) binding rest
  pub becomes : SummandBecomes To (solve binding rest s) t
