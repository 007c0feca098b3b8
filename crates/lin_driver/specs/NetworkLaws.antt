-- What `allow` and `comm` keep of a network is the same whether the products in it are made whole or within what matters.
use Rattle.std.specs.Prelude.{◌≡◌, ℕ, false, List, map, Option}
use Rattle.std.specs.List.{All}
use Rattle.data_theory.specs.declared.ids.NameId.{NameId}
use Rattle.data_theory.specs.Signature.{Sig}
use Rattle.data_theory.specs.WholeSignatures.{IsSignature}
use Rattle.data_theory.specs.IdTrees.{Tree}
use Rattle.process_terms.specs.Meanings.{name_at, rule_of}
use Rattle.process_terms.specs.PlainProcesses.{PlainRule, allow, comm}
use Rattle.process_terms.specs.SignatureEntries.{entries_of}
use Rattle.bisim_laws.specs.LinearProcesses.{Linear}
use Rattle.lps_core.specs.Fitting.{Fits}
use Rattle.lps_core.specs.PlainLinears.{PlainLinear, linear_of}
use Rattle.action_filters.specs.Filtering.{allowing}
use Rattle.communication.specs.Communicated.{communicating}
use Rattle.summand_expander.specs.LeavingOut.{MergeTree, one_process, two_sides, full}
use Rattle.proc_unfold.specs.Networks.{PlainNetwork, PlainNetworks, side_by_side, under, no_networks, more_networks}
use Rattle.lin_driver.specs.FittingOperators.{OperatorFits}
use Rattle.lin_driver.specs.NetworkProducts.{ComposedFrom}
use Rattle.lin_driver.specs.NetworkScopes.{PlainScope, everything, is_side_by_side}

-- the meaning of the linear process of a part, for which all labels mattered
pub record IsOfPart (n : PlainNetwork) (l : Linear) : Type 0 where
  pub before : Sig
  pub trees_before : List Tree
  pub queue : List PlainLinear
  pub after : Sig
  pub trees_after : List Tree
  pub left : List PlainLinear
  pub made : PlainLinear
  pub composed : ComposedFrom everything before trees_before n queue after trees_after left made
  pub is : l ≡ linear_of (entries_of after trees_after) made

-- A tree of merges follows a network: a `||` is the merges of its parts from the left, and any other part is one linear process.
mutual
  pub data FollowsNetwork : PlainNetwork → MergeTree → Type 0 where
    as_one_process : {n : PlainNetwork} {l : Linear} → is_side_by_side n ≡ false → IsOfPart n l → FollowsNetwork n (one_process l)
    as_delta : {l : Linear} → FollowsNetwork (side_by_side no_networks) (one_process l)
    as_merges : {n : PlainNetwork} {ns : PlainNetworks} {t u : MergeTree} → FollowsNetwork n t → FollowsParts t ns u → FollowsNetwork (side_by_side (more_networks n ns)) u

  -- a tree merged with those of more parts
  pub data FollowsParts : MergeTree → PlainNetworks → MergeTree → Type 0 where
    no_more_parts : {t : MergeTree} → FollowsParts t no_networks t
    one_more_part : {t u v : MergeTree} {n : PlainNetwork} {ns : PlainNetworks} {e f : Option ℕ} {r : ℕ → ℕ} → FollowsNetwork n u → FollowsParts (two_sides t e r u f) ns v → FollowsParts t (more_networks n ns) v

-- ---- the law
-- Of a `||` under `comm` under `allow` the linear process is what both keep of whole products throughout.
abbrev pub WhatIsKeptIsOfWholeProducts : Type 0
WhatIsKeptIsOfWholeProducts =
    (w : PlainScope) (g h : Sig) (ts us : List Tree) (sets : List (List NameId)) (rules : List PlainRule) (ns : PlainNetworks) (queue left : List PlainLinear) (k : PlainLinear)
    → IsSignature g → OperatorFits g (allow sets) → OperatorFits g (comm rules) → All (Fits g ts) queue → ComposedFrom w g ts (under (allow sets) (under (comm rules) (side_by_side ns))) queue h us left k
    → (t : MergeTree) × FollowsNetwork (side_by_side ns) t
    × (linear_of (entries_of h us) k ≡ allowing (map (map (name_at (entries_of h us))) sets) (communicating (map (rule_of (entries_of h us)) rules) (full t)))
