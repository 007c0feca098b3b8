-- What process terms in code unfold to, and what is known of those that are opened.
use Rattle.std.specs.Prelude.{◌≡◌, ◌<◌, ℕ, Bool, true, false, List, [], map, length, Some, slice_get, slice_index, slice_index_or, Contains, MatchOption, Option, Vec}
use Rattle.std.specs.List.{zip}
use Rattle.std.specs.Global.{Global}
use Rattle.data_theory.specs.declared.ids.ProcId.{ProcId}
use Rattle.data_theory.specs.declared.ids.VarId.{VarId}
use Rattle.data_theory.specs.declared.ids.TermId.{TermId}
use Rattle.data_theory.specs.IdTrees.{Tree}
use Rattle.graphs.specs.Graphs.{IsMarked}
use Rattle.term_pool.specs.HeadTrees.{AreIn}
use Rattle.term_pool.specs.Bindings.{listed_terms}
use Rattle.term_pool.specs.Pools.{Extends}
use Rattle.process_terms.specs.PlainProcesses.{PlainAround, PlainProcess, PlainProcesses, delta, act, call, choice, seq, cond, sum, merge, left_merge, sync, around, no_processes, more_processes, PlainDefinition, PlainModel, call_of, term_of}
use Rattle.guard_check.specs.declared.calls.Extent.TheVariants.{Everywhere}
use Rattle.guard_check.specs.CallGraphs.{plain_calls}
use Rattle.proc_unfold.specs.declared.outside.Parallelism.{Parallelism}
use Rattle.proc_unfold.specs.declared.networks.Network.{Network}
use Rattle.proc_unfold.specs.declared.opening.Entered.{Entered}
use Rattle.proc_unfold.specs.ParallelTests.{has_one, is_sequential, is_outside}
use Rattle.proc_unfold.specs.Networks as networks
use Rattle.proc_unfold.specs.Networks.{PlainNetwork, PlainNetworks, leaf, side_by_side, under, no_networks, more_networks, networks_of, plain_network}
use Rattle.proc_unfold.specs.PutTerms.{IsProcessIn, ArePut, IsPutIn}

mutual
  -- With these put in, the process term unfolds to the network, over the trees ts. A chain of one operand is a `||` of one, which
  -- is that one too.
  pub data Opens (ds : List PlainDefinition) (marks : List Bool) (ts : List Tree) : List (VarId × TermId) → PlainProcess → PlainNetwork → Type 0 where
    term_kept : {by : List (VarId × TermId)} {p q : PlainProcess} → is_sequential marks p ≡ true → IsPutIn ts by p q → Opens ds marks ts by p (leaf (term_of q))
    call_kept : {by : List (VarId × TermId)} {x : ProcId} {us vs : List TermId} → (IsMarked marks x.0 → ⊥) → ArePut ts by us vs → Opens ds marks ts by (call x us) (leaf (call_of x vs))
    call_opened : {by : List (VarId × TermId)} {x : ProcId} {us vs : List TermId} {n : PlainNetwork} (f : PlainDefinition) → slice_get ds x.0 ≡ Some f → IsMarked marks x.0 → ArePut ts by us vs
        → Opens ds marks ts (zip f.params vs) f.body n → Opens ds marks ts by (call x us) n
    beside : {by : List (VarId × TermId)} {ps : PlainProcesses} {ns : PlainNetworks} → AllOpen ds marks ts by ps ns → Opens ds marks ts by (merge ps) (side_by_side ns)
    one_choice : {by : List (VarId × TermId)} {ps : PlainProcesses} {ns : PlainNetworks} → has_one ps ≡ true → AllOpen ds marks ts by ps ns → Opens ds marks ts by (choice ps) (side_by_side ns)
    one_step : {by : List (VarId × TermId)} {ps : PlainProcesses} {ns : PlainNetworks} → has_one ps ≡ true → AllOpen ds marks ts by ps ns → Opens ds marks ts by (seq ps) (side_by_side ns)
    left_merged : {by : List (VarId × TermId)} {p q : PlainProcess} {m n : PlainNetwork} → Opens ds marks ts by p m → Opens ds marks ts by q n → Opens ds marks ts by (left_merge p q) (networks.left_merge m n)
    synced : {by : List (VarId × TermId)} {ps : PlainProcesses} {ns : PlainNetworks} → AllOpen ds marks ts by ps ns → Opens ds marks ts by (sync ps) (networks.sync ns)
    no_sum : {by : List (VarId × TermId)} {p : PlainProcess} {n : PlainNetwork} → Opens ds marks ts by p n → Opens ds marks ts by (sum [] p) n
    within : {by : List (VarId × TermId)} {o : PlainAround} {p : PlainProcess} {n : PlainNetwork} → Opens ds marks ts by p n → Opens ds marks ts by (around o p) (under o n)

  pub data AllOpen (ds : List PlainDefinition) (marks : List Bool) (ts : List Tree) : List (VarId × TermId) → PlainProcesses → PlainNetworks → Type 0 where
    none_open : {by : List (VarId × TermId)} → AllOpen ds marks ts by no_processes no_networks
    more_open : {by : List (VarId × TermId)} {p : PlainProcess} {n : PlainNetwork} {ps : PlainProcesses} {ns : PlainNetworks} → Opens ds marks ts by p n → AllOpen ds marks ts by ps ns → AllOpen ds marks ts by (more_processes p ps) (more_networks n ns)

-- over these trees and all that come behind them
pub record OpensTo (m : PlainModel) (found : Parallelism) (new : List Tree) (by : List (VarId × TermId)) (p : PlainProcess) (n : Network) : Type 0 where
  pub later : (ts : List Tree) → Extends new ts → Opens m.definitions found.parallel.items ts by p (plain_network n)

pub record AllOpenTo (m : PlainModel) (found : Parallelism) (new : List Tree) (by : List (VarId × TermId)) (ps : PlainProcesses) (ns : Vec Network Global) : Type 0 where
  pub later : (ts : List Tree) → Extends new ts → AllOpen m.definitions found.parallel.items ts by ps (networks_of (map plain_network ns.items))

-- ---- what is known of what is opened
-- the called names are reached ones of the specification
abbrev pub AreReached : PlainModel → Parallelism → List ℕ → Type 0
AreReached m found xs = (x : ℕ) → Contains xs x → (x < length m.definitions) × IsMarked found.reached.items x

-- the parallel ones of them have ranks below this one
abbrev pub AreBelow : Parallelism → ℕ → List ℕ → Type 0
AreBelow found rank xs = (x : ℕ) → Contains xs x → IsMarked found.parallel.items x → slice_index found.ranks.items x < rank

pub record IsReady (m : PlainModel) (found : Parallelism) (ts : List Tree) (rank : ℕ) (p : PlainProcess) : Type 0 where
  pub within : IsProcessIn ts p
  pub outside : is_outside found.parallel.items p ≡ true
  pub reached : AreReached m found (plain_calls Everywhere p)
  pub below : AreBelow found rank (plain_calls Everywhere p)

-- the bodies of reached parallel names can be opened
pub record HasReadyBodies (m : PlainModel) (found : Parallelism) (ts : List Tree) : Type 0 where
  pub marks : length found.parallel.items ≡ length m.definitions
  pub ranks : length found.ranks.items ≡ length m.definitions
  pub bodies : (x : ℕ) (f : PlainDefinition) → slice_get m.definitions x ≡ Some f → IsMarked found.reached.items x → IsMarked found.parallel.items x → IsReady m found ts (slice_index found.ranks.items x) f.body

-- ---- calls that are opened
abbrev pub is_parallel_call : List Bool → PlainProcess → Bool
is_parallel_call marks delta = false
is_parallel_call marks (act m) = false
is_parallel_call marks (call x ids) = slice_index_or marks x.0 false
is_parallel_call marks (choice ps) = false
is_parallel_call marks (seq ps) = false
is_parallel_call marks (cond c p q) = false
is_parallel_call marks (sum xs p) = false
is_parallel_call marks (merge ps) = false
is_parallel_call marks (left_merge p q) = false
is_parallel_call marks (sync ps) = false
is_parallel_call marks (around o p) = false

-- the body of a name stands for the process term, with terms for its parameters
pub record Enters (m : PlainModel) (found : Parallelism) (new : List Tree) (by : List (VarId × TermId)) (p : PlainProcess) (e : Entered) : Type 0 where
  pub there : e.process.0 < length m.definitions
  pub reached : IsMarked found.reached.items e.process.0
  pub parallel : IsMarked found.parallel.items e.process.0
  pub listed : AreIn new (listed_terms e.by.items)
  pub ranked : (rank : ℕ) → AreBelow found rank (plain_calls Everywhere p) → slice_index found.ranks.items e.process.0 < rank
  pub opens : (ts : List Tree) (f : PlainDefinition) (n : PlainNetwork) → Extends new ts → slice_get m.definitions e.process.0 ≡ Some f
      → Opens m.definitions found.parallel.items ts e.by.items f.body n → Opens m.definitions found.parallel.items ts by p n

-- its body isn't such a call
abbrev pub IsSettled : PlainModel → Parallelism → Entered → Type 0
IsSettled m found e = (f : PlainDefinition) → slice_get m.definitions e.process.0 ≡ Some f → is_parallel_call found.parallel.items f.body ≡ false

-- the process term is such a call and enters a name, or isn't one
abbrev pub EntersOnce : PlainModel → Parallelism → List Tree → List (VarId × TermId) → PlainProcess → Option Entered → Type 0
EntersOnce m found new by p entered = MatchOption entered (is_parallel_call found.parallel.items p ≡ false) (λ e. Enters m found new by p e)

abbrev pub EntersFully : PlainModel → Parallelism → List Tree → List (VarId × TermId) → PlainProcess → Option Entered → Type 0
EntersFully m found new by p entered = MatchOption entered (is_parallel_call found.parallel.items p ≡ false) (λ e. Enters m found new by p e × IsSettled m found e)
