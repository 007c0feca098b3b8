-- Where parallelism stands, as tests over process terms in code and marks of the parallel names.
use Rattle.std.specs.Prelude.{Bool, true, false, not, ◌&&◌, ◌||◌, if◌then◌else◌, ℕ, List, [], ◌∷◌, slice_index_or}
use Rattle.std.specs.List.{list_all}
use Rattle.process_terms.specs.PlainProcesses.{PlainProcess, PlainProcesses, delta, act, call, choice, seq, cond, sum, merge, left_merge, sync, around, no_processes, more_processes}
use Rattle.guard_check.specs.declared.calls.Extent.TheVariants.{Everywhere}
use Rattle.guard_check.specs.CallGraphs.{plain_calls}

-- a chain of one operand is the operand
abbrev pub has_one : PlainProcesses → Bool
has_one no_processes = false
has_one (more_processes p no_processes) = true
has_one (more_processes p (more_processes q ps)) = false

abbrev pub has_two : PlainProcesses → Bool
has_two no_processes = false
has_two (more_processes p no_processes) = false
has_two (more_processes p (more_processes q ps)) = true

abbrev mutual
  pub has_parallel : PlainProcess → Bool
  has_parallel delta = false
  has_parallel (act m) = false
  has_parallel (call x ts) = false
  has_parallel (choice ps) = any_parallel ps
  has_parallel (seq ps) = any_parallel ps
  has_parallel (cond c p q) = has_parallel p || has_parallel q
  has_parallel (sum xs p) = has_parallel p
  has_parallel (merge ps) = has_two ps || any_parallel ps
  has_parallel (left_merge p q) = true
  has_parallel (sync ps) = has_two ps || any_parallel ps
  has_parallel (around o p) = true

  pub any_parallel : PlainProcesses → Bool
  any_parallel no_processes = false
  any_parallel (more_processes p ps) = has_parallel p || any_parallel ps

-- no marked name is among these
abbrev pub none_marked : List Bool → List ℕ → Bool
none_marked marks xs = list_all (λ (x : ℕ). not (slice_index_or marks x false)) xs

abbrev pub is_sequential : List Bool → PlainProcess → Bool
is_sequential marks p = not (has_parallel p) && none_marked marks (plain_calls Everywhere p)

abbrev mutual
  pub is_outside : List Bool → PlainProcess → Bool
  is_outside marks delta = true
  is_outside marks (act m) = true
  is_outside marks (call x ts) = true
  is_outside marks (choice ps) = if has_one ps then all_outside marks ps else is_sequential marks (choice ps)
  is_outside marks (seq ps) = if has_one ps then all_outside marks ps else is_sequential marks (seq ps)
  is_outside marks (cond c p q) = is_sequential marks (cond c p q)
  is_outside marks (sum [] p) = is_outside marks p
  is_outside marks (sum (x ∷ xs) p) = is_sequential marks (sum (x ∷ xs) p)
  is_outside marks (merge ps) = all_outside marks ps
  is_outside marks (left_merge p q) = is_outside marks p && is_outside marks q
  is_outside marks (sync ps) = all_outside marks ps
  is_outside marks (around o p) = is_outside marks p

  pub all_outside : List Bool → PlainProcesses → Bool
  all_outside marks no_processes = true
  all_outside marks (more_processes p ps) = is_outside marks p && all_outside marks ps
