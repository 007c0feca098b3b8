-- What an operator around a process asks of the actions, so that it can be put around a linear process.
use Rattle.std.specs.Prelude.{List}
use Rattle.std.specs.List.{All}
use Rattle.data_theory.specs.declared.ids.NameId.{NameId}
use Rattle.data_theory.specs.Signature.{Sig}
use Rattle.process_terms.specs.PlainProcesses.{PlainRule, PlainAround, allow, block, hide, rename, comm, PlainProcess, PlainProcesses, delta, act, call, choice, seq, cond, sum, merge, left_merge, sync, around, no_processes, more_processes, PlainDefinition, PlainModel}
use Rattle.action_filters.specs.Filters.{IsNameIn, RenamesOnce, HaveTargets}
use Rattle.communication.specs.PlaceConditions.{RuleNamesIn, HaveResults}
use Rattle.proc_unfold.specs.Networks as networks
use Rattle.proc_unfold.specs.Networks.{PlainNetwork, PlainNetworks, leaf, side_by_side, under, no_networks, more_networks}

-- no name is renamed twice, and the new name has the sorts of the old one
pub record RenamingFits (g : Sig) (rs : List (NameId × NameId)) : Type 0 where
  pub names : All (λ (r : NameId × NameId). IsNameIn g r.0 × IsNameIn g r.1) rs
  pub once : RenamesOnce rs
  pub targets : HaveTargets g rs

-- the result of a rule has the sorts that all of its left names have
pub record RulesFit (g : Sig) (cs : List PlainRule) : Type 0 where
  pub names : All (RuleNamesIn g) cs
  pub results : HaveResults g cs

abbrev pub OperatorFits : Sig → PlainAround → Type 0
OperatorFits g (allow sets) = All (All (IsNameIn g)) sets
OperatorFits g (block ns) = All (IsNameIn g) ns
OperatorFits g (hide ns) = All (IsNameIn g) ns
OperatorFits g (rename rs) = RenamingFits g rs
OperatorFits g (comm cs) = RulesFit g cs

-- each operator of a process term does
abbrev mutual
  pub HasFittingOperators : Sig → PlainProcess → Type 0
  HasFittingOperators g delta = Unit {0}
  HasFittingOperators g (act m) = Unit {0}
  HasFittingOperators g (call x ids) = Unit {0}
  HasFittingOperators g (choice ps) = HaveFittingOperators g ps
  HasFittingOperators g (seq ps) = HaveFittingOperators g ps
  HasFittingOperators g (cond c p q) = HasFittingOperators g p × HasFittingOperators g q
  HasFittingOperators g (sum xs p) = HasFittingOperators g p
  HasFittingOperators g (merge ps) = HaveFittingOperators g ps
  HasFittingOperators g (left_merge p q) = HasFittingOperators g p × HasFittingOperators g q
  HasFittingOperators g (sync ps) = HaveFittingOperators g ps
  HasFittingOperators g (around o p) = OperatorFits g o × HasFittingOperators g p

  pub HaveFittingOperators : Sig → PlainProcesses → Type 0
  HaveFittingOperators g no_processes = Unit {0}
  HaveFittingOperators g (more_processes p ps) = HasFittingOperators g p × HaveFittingOperators g ps

-- of a specification
pub record OperatorsFit (g : Sig) (m : PlainModel) : Type 0 where
  pub definitions : All (λ (d : PlainDefinition). HasFittingOperators g d.body) m.definitions
  pub init : HasFittingOperators g m.init

-- and of a network
abbrev mutual
  pub NetworkFits : Sig → PlainNetwork → Type 0
  NetworkFits g (leaf c) = Unit {0}
  NetworkFits g (side_by_side ns) = NetworksFit g ns
  NetworkFits g (networks.left_merge m n) = NetworkFits g m × NetworkFits g n
  NetworkFits g (networks.sync ns) = NetworksFit g ns
  NetworkFits g (under o n) = OperatorFits g o × NetworkFits g n

  pub NetworksFit : Sig → PlainNetworks → Type 0
  NetworksFit g no_networks = Unit {0}
  NetworksFit g (more_networks n ns) = NetworkFits g n × NetworksFit g ns
