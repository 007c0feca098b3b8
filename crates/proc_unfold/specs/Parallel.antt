-- Parallel operators, and where they may stand.
use Rattle.std.specs.Prelude.{◌≡◌, ◌⊎◌, ℕ, Some, slice_get, Contains}
use Rattle.process_terms.specs.Processes.{Body, written_delta, written_act, written_choice, written_seq, written_cond, written_sum, written_call, written_merge, written_starting, written_around, Definition, Table}
use Rattle.guard_check.specs.declared.calls.Extent.TheVariants.{Everywhere}
use Rattle.guard_check.specs.Calls.{calls, Calls, By, Reaches}

-- `||`, `||_`, `|` between processes, `allow`, `block`, `hide`, `rename` and `comm` are parallel
abbrev pub HasParallel : Body → Type 0
HasParallel written_delta = ⊥
HasParallel (written_act m) = ⊥
HasParallel (written_choice p q) = HasParallel p ⊎ HasParallel q
HasParallel (written_seq p q) = HasParallel p ⊎ HasParallel q
HasParallel (written_cond c p q) = HasParallel p ⊎ HasParallel q
HasParallel (written_sum x p) = HasParallel p
HasParallel (written_call x ts) = ⊥
HasParallel (written_merge p q) = Unit {0}
HasParallel (written_starting o p q) = Unit {0}
HasParallel (written_around o p) = Unit {0}

-- the body of x has a parallel operator
abbrev pub HasParallelBody : Table → ℕ → Type 0
HasParallelBody d x = (f : Definition) × (slice_get d x ≡ Some f) × HasParallel f.body

-- x has a parallel operator, or reaches a name that has one
abbrev pub IsParallelName : Table → ℕ → Type 0
IsParallelName d x = HasParallelBody d x ⊎ ((y : ℕ) × By (Calls Everywhere d) x y × HasParallelBody d y)

-- a call of a parallel name in the body of a parallel name
abbrev pub ParallelCalls : Table → ℕ → ℕ → Type 0
ParallelCalls d x y = Calls Everywhere d x y × IsParallelName d x × IsParallelName d y

-- neither a parallel operator nor a call of one of these names
abbrev pub IsSequentialBut : (ℕ → Type 0) → Body → Type 0
IsSequentialBut Parallel p = (HasParallel p → ⊥) × ((x : ℕ) → Contains (calls Everywhere p) x → Parallel x → ⊥)

-- neither a parallel operator nor a call of one of these names stands under `+`, `.`, `sum` or `->`
abbrev pub IsOutsideBut : (ℕ → Type 0) → Body → Type 0
IsOutsideBut Parallel written_delta = Unit {0}
IsOutsideBut Parallel (written_act m) = Unit {0}
IsOutsideBut Parallel (written_choice p q) = IsSequentialBut Parallel (written_choice p q)
IsOutsideBut Parallel (written_seq p q) = IsSequentialBut Parallel (written_seq p q)
IsOutsideBut Parallel (written_cond c p q) = IsSequentialBut Parallel (written_cond c p q)
IsOutsideBut Parallel (written_sum x p) = IsSequentialBut Parallel (written_sum x p)
IsOutsideBut Parallel (written_call x ts) = Unit {0}
IsOutsideBut Parallel (written_merge p q) = IsOutsideBut Parallel p × IsOutsideBut Parallel q
IsOutsideBut Parallel (written_starting o p q) = IsOutsideBut Parallel p × IsOutsideBut Parallel q
IsOutsideBut Parallel (written_around o p) = IsOutsideBut Parallel p

abbrev pub IsSequential : Table → Body → Type 0
IsSequential d = IsSequentialBut (IsParallelName d)

abbrev pub IsOutside : Table → Body → Type 0
IsOutside d = IsOutsideBut (IsParallelName d)

-- both halves of parallelism outside recursion
pub record IsOutsideRecursion (d : Table) (init : Body) : Type 0 where
  pub no_recursion : (x : ℕ) → Reaches d init x → IsParallelName d x → By (Calls Everywhere d) x x → ⊥
  pub init_outside : IsOutside d init
  pub all_outside : (x : ℕ) (f : Definition) → Reaches d init x → slice_get d x ≡ Some f → IsOutside d f.body
