-- Networks in which a call stands as a component of its own.
use Rattle.std.specs.Prelude.{◌≡◌, List, []}
use Rattle.data_theory.specs.declared.ids.ProcId.{ProcId}
use Rattle.data_theory.specs.declared.ids.TermId.{TermId}
use Rattle.data_theory.specs.IdTrees.{Tree}
use Rattle.process_terms.specs.Meanings.{Entries, table_of}
use Rattle.process_terms.specs.PlainProcesses.{call, PlainModel, PlainComponent, call_of, term_of}
use Rattle.proc_unfold.specs.Networks.{PlainNetwork, leaf, side_by_side, left_merge, sync, under}
use Rattle.proc_unfold.specs.Parallel.{IsParallelName}
use Rattle.proc_unfold.specs.PutTerms.{ArePut}

-- a term that is a call, as that call
abbrev pub settled_component : PlainComponent → PlainComponent
settled_component (term_of (call x ids)) = call_of x ids
settled_component c = c

-- a network that is such a component
abbrev pub settled : PlainNetwork → PlainNetwork
settled (leaf c) = leaf (settled_component c)
settled (side_by_side ns) = side_by_side ns
settled (left_merge m n) = left_merge m n
settled (sync ns) = sync ns
settled (under o n) = under o n

-- the network is the call of this process with these arguments, in which nothing was put in for variables
pub record IsTheCall (ts : List Tree) (x : ProcId) (us : List TermId) (n : PlainNetwork) : Type 0 where
  pub arguments : List TermId
  pub is : n ≡ leaf (call_of x arguments)
  pub put : ArePut ts [] us arguments

-- where `init` is a call of a process that isn't parallel, the network is that call
abbrev pub KeepsTheCall : PlainModel → List Tree → PlainNetwork → Type 0
KeepsTheCall m ts n = (e : Entries) (x : ProcId) (us : List TermId) → m.init ≡ call x us → (IsParallelName (table_of e m.definitions) x.0 → ⊥) → IsTheCall ts x us n
