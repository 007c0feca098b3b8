-- The calls in trees, and the graph of calls between functions by their numbers.
use Rattle.std.specs.Prelude.{◌≡◌, ◌⊎◌, ◌<◌, ℕ, List, length}
use Rattle.std.specs.List.{All, Contains}
use Rattle.std.specs.Global.{Vec}
use Rattle.data_theory.specs.declared.ids.FunId.{FunId}
use Rattle.data_theory.specs.declared.ids.TermId.{TermId}
use Rattle.term_pool.specs.HeadTrees.{tree_at}
use Rattle.data_theory.specs.Terms.{function}
use Rattle.data_theory.specs.Provable.{Equation}
use Rattle.data_theory.specs.Signature.{Sig}
use Rattle.data_theory.specs.IdData.{data_meant}
use Rattle.data_theory.specs.IdTerms.{symbol_under}
use Rattle.data_theory.specs.IdTrees.{Tree, Trees, variable, numeral, none, more}
use Rattle.data_theory.specs.IdTrees as trees
use Rattle.graphs.specs.Graphs.{HasEdge}
use Rattle.eqn_check.specs.Calls.{FunctionCalls}
use Rattle.eqn_check.specs.Judged.{IsTerm}
use Rattle.eqn_check.specs.Patterns.{IsMapping}
use Rattle.eqn_check.specs.Roles.{IsMappingSymbol}

-- the function stands in the tree, applied to these arguments
abbrev mutual
  pub CallIn : FunId → Trees → Tree → Type 0
  CallIn h us (variable v) = ⊥
  CallIn h us (numeral a z) = ⊥
  CallIn h us (trees.function f ts) = ((f ≡ h) × (ts ≡ us)) ⊎ CallInOne h us ts

  pub CallInOne : FunId → Trees → Trees → Type 0
  CallInOne h us none = ⊥
  CallInOne h us (more t ts) = CallIn h us t ⊎ CallInOne h us ts

-- the edges are the calls of other mappings by equations, where functions stand for what they mean
pub record IsCallGraph (sig : Sig) (own : List Equation) (edges : List (Vec ℕ)) : Type 0 where
  pub nodes : (a b : ℕ) → HasEdge edges a b → (a < length sig.functions) × (b < length sig.functions)
  pub sound : (a b : ℕ) → HasEdge edges a b → (f h : ℕ) × (symbol_under sig (record { 0 = a }) ≡ function f) × (symbol_under sig (record { 0 = b }) ≡ function h) × FunctionCalls (data_meant sig) own f h
  pub complete : (a f h : ℕ) → a < length sig.functions → symbol_under sig (record { 0 = a }) ≡ function f → IsMapping (data_meant sig) f → FunctionCalls (data_meant sig) own f h → (f ≡ h → ⊥)
      → (b : ℕ) × (b < length sig.functions) × (symbol_under sig (record { 0 = b }) ≡ function h) × HasEdge edges a b

-- ---- in code
-- a call of a mapping in a tree, with its number
pub record IsCallOf (sig : Sig) (ts : List Tree) (term : Tree) (c : TermId) : Type 0 where
  pub within : IsTerm sig ts c
  pub map : FunId
  pub arguments : Trees
  pub is : tree_at ts c ≡ trees.function map arguments
  pub stands : CallIn map arguments term
  pub is_mapping : IsMappingSymbol (data_meant sig) (symbol_under sig map)

-- all calls of mappings in a tree are listed
abbrev pub AreAllListed : Sig → List Tree → Tree → List TermId → Type 0
AreAllListed sig ts term found = (h : FunId) (us : Trees) → CallIn h us term → IsMappingSymbol (data_meant sig) (symbol_under sig h) → (c : TermId) × Contains found c × (tree_at ts c ≡ trees.function h us)

pub record ListsCalls (sig : Sig) (ts : List Tree) (term : Tree) (found : List TermId) : Type 0 where
  pub each : (c : TermId) → Contains found c → IsCallOf sig ts term c
  pub all : AreAllListed sig ts term found

-- a walk over the tree: what stands in the terms that wait stands in it, and each call is listed or stands in one of these
pub record WalksCalls (sig : Sig) (ts : List Tree) (term : Tree) (waiting found : List TermId) : Type 0 where
  pub within : All (IsTerm sig ts) waiting
  pub each : (c : TermId) → Contains found c → IsCallOf sig ts term c
  pub below : (w : TermId) → Contains waiting w → (h : FunId) (us : Trees) → CallIn h us (tree_at ts w) → CallIn h us term
  pub all : (h : FunId) (us : Trees) → CallIn h us term → IsMappingSymbol (data_meant sig) (symbol_under sig h)
      → ((c : TermId) × Contains found c × (tree_at ts c ≡ trees.function h us)) ⊎ ((w : TermId) × Contains waiting w × CallIn h us (tree_at ts w))

-- the tree is a mapping, applied
abbrev pub IsMappingAt : Sig → Tree → Type 0
IsMappingAt sig (trees.function f ts) = IsMappingSymbol (data_meant sig) (symbol_under sig f)
IsMappingAt sig _ = ⊥
