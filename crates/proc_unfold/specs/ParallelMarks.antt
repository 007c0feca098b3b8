-- Marks of parallel names, and the declarations in which something parallel stands where it may not.
use Rattle.std.specs.Prelude.{◌≡◌, ◌<◌, ◌≤◌, ◌↔◌, ◌⊎◌, ℕ, Bool, false, List, length, Option, Some, slice_get, MatchOption}
use Rattle.graphs.specs.Graphs.{IsMarked}
use Rattle.process_terms.specs.PlainProcesses.{PlainDefinition, PlainModel}
use Rattle.process_terms.specs.Meanings.{Entries, table_of}
use Rattle.proc_unfold.specs.Parallel.{IsParallelName}
use Rattle.proc_unfold.specs.ParallelTests.{is_outside}

-- exactly the parallel names are marked
pub record AreParallelNames (m : PlainModel) (parallel : List Bool) : Type 0 where
  pub size : length parallel ≡ length m.definitions
  pub exact : (g : Entries) (x : ℕ) → IsMarked parallel x ↔ IsParallelName (table_of g m.definitions) x

-- of the first ones, exactly those are marked that are marked in both
pub record MarksBoth (left right : List Bool) (count : ℕ) (both : List Bool) : Type 0 where
  pub size : length both ≡ count
  pub exact : (x : ℕ) → IsMarked both x ↔ ((x < count) × IsMarked left x × IsMarked right x)

-- the number of a declaration, `init`'s or of one of the first marked definitions, that fails the test
abbrev pub FailsAt : PlainModel → List Bool → List Bool → ℕ → ℕ → Type 0
FailsAt m reached parallel count n = ((n ≡ m.init_declaration) × (is_outside parallel m.init ≡ false))
    ⊎ ((x : ℕ) × (f : PlainDefinition) × (x < count) × IsMarked reached x × (slice_get m.definitions x ≡ Some f) × (n ≡ f.declaration) × (is_outside parallel f.body ≡ false))

-- the least such number, if there is one
abbrev pub IsLeastWithin : PlainModel → List Bool → List Bool → ℕ → Option ℕ → Type 0
IsLeastWithin m reached parallel count found =
    MatchOption found ((n : ℕ) → FailsAt m reached parallel count n → ⊥) (λ n. FailsAt m reached parallel count n × ((k : ℕ) → FailsAt m reached parallel count k → n ≤ k))
