-- What a specification's parallelism is found to be.
use Rattle.std.specs.Prelude.{◌≡◌, ◌<◌, ◌≤◌, ◌↔◌, ◌⊎◌, ℕ, Bool, List, length, Some, slice_get, slice_index}
use Rattle.graphs.specs.Graphs.{IsMarked}
use Rattle.process_terms.specs.PlainProcesses.{PlainDefinition, PlainModel}
use Rattle.process_terms.specs.Meanings.{Entries, table_of, body_of}
use Rattle.guard_check.specs.Calls.{Reaches}
use Rattle.guard_check.specs.Guards.{FallAlong, AreOfFirstCycle}
use Rattle.proc_unfold.specs.declared.faults.NetFault.{NetFault}
use Rattle.proc_unfold.specs.declared.faults.NetFault.TheVariants.{ParallelRecursion, ParallelUnderSequential, NoMemory}
use Rattle.proc_unfold.specs.Parallel.{IsParallelName, ParallelCalls, IsOutside, IsOutsideRecursion}

-- something parallel stands under a sequential operator in the declaration of that number, which is that of `init` or of a
-- definition that it reaches
abbrev pub StandsWithin : Entries → PlainModel → ℕ → Type 0
StandsWithin g m n = ((n ≡ m.init_declaration) × (IsOutside (table_of g m.definitions) (body_of g m.init) → ⊥))
    ⊎ ((x : ℕ) × (f : PlainDefinition) × Reaches (table_of g m.definitions) (body_of g m.init) x × (slice_get m.definitions x ≡ Some f) × (n ≡ f.declaration) × (IsOutside (table_of g m.definitions) (body_of g f.body) → ⊥))

-- the first such declaration
pub record StandsFirstWithin (g : Entries) (m : PlainModel) (n : ℕ) : Type 0 where
  pub stands : StandsWithin g m n
  pub first : (k : ℕ) → StandsWithin g m k → n ≤ k

-- no reached parallel name reaches itself: numbers fall along the calls among such names
pub record HasNoParallelRecursion (m : PlainModel) (ranks : List ℕ) : Type 0 where
  pub size : length ranks ≡ length m.definitions
  pub falls : (g : Entries) → FallAlong (table_of g m.definitions) (body_of g m.init) (ParallelCalls (table_of g m.definitions)) ranks

-- in a specification, whatever stands under its numbers
abbrev pub StandsOutsideRecursion : PlainModel → Type 0
StandsOutsideRecursion m = (g : Entries) → IsOutsideRecursion (table_of g m.definitions) (body_of g m.init)

-- what each fault says; want of memory has no cause here
abbrev pub IsNetFaultOf : PlainModel → NetFault → Type 0
IsNetFaultOf m (ParallelRecursion names) = AreOfFirstCycle m ParallelCalls names.items
IsNetFaultOf m (ParallelUnderSequential n) = ((g : Entries) → StandsFirstWithin g m n) × ((ranks : List ℕ) × HasNoParallelRecursion m ranks)
IsNetFaultOf m NoMemory = Unit {0}

-- exactly the parallel names are marked, and exactly the reached ones; numbers below that of the definitions fall along calls among
-- the reached parallel ones
pub record IsParallelismOf (m : PlainModel) (reached parallel : List Bool) (ranks : List ℕ) : Type 0 where
  pub sizes : (length reached ≡ length m.definitions) × (length parallel ≡ length m.definitions)
  pub reached_are : (g : Entries) (x : ℕ) → IsMarked reached x ↔ Reaches (table_of g m.definitions) (body_of g m.init) x
  pub parallel_are : (g : Entries) (x : ℕ) → IsMarked parallel x ↔ IsParallelName (table_of g m.definitions) x
  pub no_recursion : HasNoParallelRecursion m ranks
  pub ranks_below : (x : ℕ) → x < length m.definitions → slice_index ranks x < length m.definitions
