-- What the network of a specification is.
use Rattle.std.specs.Prelude.{ℕ, Bool, List, []}
use Rattle.data_theory.specs.Signature.{Sig}
use Rattle.data_theory.specs.IdTrees.{Tree}
use Rattle.process_terms.specs.Theories.{Theory}
use Rattle.process_terms.specs.PlainProcesses.{PlainModel, PlainComponent}
use Rattle.process_terms.specs.Meanings.{table_of, body_of, process_of, component_body}
use Rattle.process_terms.specs.SignatureEntries.{entries_of}
use Rattle.bisim_laws.specs.Links.{Same, Pairs}
use Rattle.guard_check.specs.Calls.{Reaches}
use Rattle.proc_unfold.specs.Parallel.{IsSequential}
use Rattle.proc_unfold.specs.Unfolding.{Unfolds}
use Rattle.proc_unfold.specs.FittingModels.{ComponentFits}
use Rattle.proc_unfold.specs.Networks.{PlainNetwork, network_body, network_process, AllComponents}
use Rattle.proc_unfold.specs.Parallelism.{IsParallelismOf}
use Rattle.proc_unfold.specs.Opening.{Opens}

-- `init` opens to the network by ids: exactly the calls of parallel names are opened, and what stands for a variable is the term that was
-- put in for it, not only a term that is provably equal to that
pub record IsOpened (m : PlainModel) (ts : List Tree) (n : PlainNetwork) : Type 0 where
  pub reached : List Bool
  pub parallel : List Bool
  pub ranks : List ℕ
  pub are : IsParallelismOf m reached parallel ranks
  pub opens : Opens m.definitions parallel ts [] m.init n

-- `init` unfolds to the network, over the data of any theory
abbrev pub IsUnfolded : Sig → List Tree → PlainModel → PlainNetwork → Type 0
IsUnfolded g ts m n =
    (th : Theory) → Unfolds th (table_of (entries_of g ts) m.definitions) [] (body_of (entries_of g ts) m.init) (network_body (entries_of g ts) n)

-- `Same` pairs the process of `init` and that of the network
abbrev pub IsSameNetwork : Sig → List Tree → PlainModel → PlainNetwork → Type 0
IsSameNetwork g ts m n = (th : Theory) → Pairs th Same (process_of (entries_of g ts) m) (network_process (entries_of g ts) m n)

-- A component is closed and well formed, has no parallel operator and reaches none, and reaches only what `init` reaches.
pub record IsComponentOf (g : Sig) (ts : List Tree) (m : PlainModel) (c : PlainComponent) : Type 0 where
  pub fits : ComponentFits g ts m.definitions c
  pub sequential : IsSequential (table_of (entries_of g ts) m.definitions) (component_body (entries_of g ts) c)
  pub reached : (x : ℕ) → Reaches (table_of (entries_of g ts) m.definitions) (component_body (entries_of g ts) c) x → Reaches (table_of (entries_of g ts) m.definitions) (body_of (entries_of g ts) m.init) x

abbrev pub HasItsComponents : Sig → List Tree → PlainModel → PlainNetwork → Type 0
HasItsComponents g ts m = AllComponents (IsComponentOf g ts m)
