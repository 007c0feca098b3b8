-- Sealing over the trees of a pool, and what it adds to a signature.
use Rattle.std.specs.Prelude.{◌≡◌, ◌++◌, ℕ, true, false, List, [], ◌∷◌, map, length, Option, Some, None, codes, Contains, slice_get}
use Rattle.std.specs.List.{All}
use Rattle.data_theory.specs.declared.ids.ActId.{ActId}
use Rattle.data_theory.specs.declared.ids.NameId.{NameId}
use Rattle.data_theory.specs.declared.ids.VarId.{VarId}
use Rattle.data_theory.specs.Keys.{Key}
use Rattle.data_theory.specs.Table.{pos_sort}
use Rattle.data_theory.specs.Fresh.{IsFreshIn}
use Rattle.data_theory.specs.Signature.{Sig, with_action, with_variable}
use Rattle.data_theory.specs.IdTrees.{Tree, variable}
use Rattle.process_terms.specs.SignatureEntries.{entries_of}
use Rattle.bisim_laws.specs.Terminations.{terminate_name}
use Rattle.bisim_laws.specs.BaseStates.{phase_running}
use Rattle.bisim_laws.specs.Links.{Phased}
use Rattle.lps_core.specs.PlainLinears.{PlainSummand, PlainLinear, can_end, linear_of, initial_of, linear_state}
use Rattle.lps_core.specs.Fitting.{Fits}
use Rattle.lps_core.specs.GoingOn.{IsGoodOverWithTerminate}
use Rattle.lps_core.specs.NumberTrees.{number_tree, equals_number}
use Rattle.lps_core.specs.TreeConditions.{tree_parts, trees_without_true, conjunction_tree}
use Rattle.lps_core.specs.TreeSummands.{TreeSummand, trees_of_summand, IsSummandIn}
use Rattle.lps_core.specs.Sealing.{NeverEnds, sealed}

-- ---- the summands, with v as the variable of the phase
-- that the phase is this number
abbrev pub phase_tree : VarId → ℕ → Tree
phase_tree v i = equals_number (variable v) i

abbrev pub sealed_next_trees : List VarId → VarId → Option (List Tree) → List Tree
sealed_next_trees params v None = map variable params ++ number_tree 2 ∷ []
sealed_next_trees params v (Some ts) = ts ++ variable v ∷ []

abbrev pub sealed_tree : List VarId → VarId → TreeSummand → TreeSummand
sealed_tree params v s = record {
  sums = s.sums;
  condition = conjunction_tree (phase_tree v 1 ∷ trees_without_true (tree_parts s.condition));
  label = s.label;
  next = Some (sealed_next_trees params v s.next);
}

abbrev pub last_tree : List VarId → VarId → ActId → TreeSummand
last_tree params v a = record { sums = []; condition = phase_tree v 2; label = record { act = a; args = [] } ∷ []; next = Some (map variable params ++ number_tree 3 ∷ []) }

-- a summand over the grown trees is the sealed one of a summand over the old trees
abbrev pub IsSealedSummand : List Tree → List Tree → List VarId → VarId → PlainSummand → PlainSummand → Type 0
IsSealedSummand ts us params v s t = trees_of_summand us t ≡ sealed_tree params v (trees_of_summand ts s)

-- the sealed summands of a process, and behind them the last one
pub record AreSealed (ts us : List Tree) (l : PlainLinear) (v : VarId) (act : ActId) (made : List PlainSummand) : Type 0 where
  pub sealed : List PlainSummand
  pub last : PlainSummand
  pub are : made ≡ sealed ++ last ∷ []
  pub within : All (IsSummandIn us) sealed
  pub last_within : IsSummandIn us last
  pub are_sealed : map (trees_of_summand us) sealed ≡ map (sealed_tree l.params v) (map (trees_of_summand ts) l.summands)
  pub last_is : trees_of_summand us last ≡ last_tree l.params v act

-- ---- what is added
-- the action without arguments, and then a variable of sort Pos with a fresh name
pub data HasPhase (g : Sig) : Sig → ActId → VarId → Type 0 where
  a_phase : {h : Sig} {name : NameId} → IsFreshIn (with_action g terminate_name []) (codes "phase") name h
      → HasPhase g (with_variable h (record { name = name; sort = pos_sort })) (record { 0 = length g.actions }) (record { 0 = length h.variables })

-- no action has that name
abbrev pub IsNoAction : Sig → List ℕ → Type 0
IsNoAction g text = (n : NameId) (k : Key) → slice_get g.texts n.0 ≡ Some text → Contains g.actions k → k.name ≡ n → ⊥

-- ---- what is made
-- A linear process that can't end stays, with the signature. One that can end is sealed, with the action and the phase that were added.
pub data IsSealed (g : Sig) (ts : List Tree) (l : PlainLinear) : Sig → List Tree → PlainLinear → Type 0 where
  it_never_ends : {us : List Tree} {k : PlainLinear} → can_end l ≡ false → k ≡ l → IsSealed g ts l g us k
  it_is_sealed : {h : Sig} {us : List Tree} {k : PlainLinear} (act : ActId) (v : VarId) → can_end l ≡ true → HasPhase g h act v → k.params ≡ l.params ++ v ∷ []
      → linear_of (entries_of h us) k ≡ sealed v.0 (linear_of (entries_of g ts) l) → initial_of (entries_of h us) k ≡ initial_of (entries_of g ts) l ++ phase_running ∷ [] → IsSealed g ts l h us k

-- over every theory that goes on from the signature the process that is left says the end by `Terminate`; there is a phase where the process can end
abbrev pub SealingIsGood : Sig → List Tree → PlainLinear → Sig → List Tree → PlainLinear → Type 0
SealingIsGood g ts l h us k = IsGoodOverWithTerminate h (Phased (can_end l) (linear_of (entries_of g ts) l) (linear_of (entries_of h us) k)) (linear_state (entries_of g ts) l) (linear_state (entries_of h us) k)

-- all that holds of a process that is sealed
pub record SealingDone (g h : Sig) (ts us : List Tree) (l k : PlainLinear) : Type 0 where
  pub sealed : IsSealed g ts l h us k
  pub fits : Fits h us k
  pub never_ends : NeverEnds (linear_of (entries_of h us) k)
  pub bisimilar : SealingIsGood g ts l h us k
