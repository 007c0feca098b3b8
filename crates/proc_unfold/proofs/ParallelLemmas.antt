-- The tests of where parallelism stands tell what is written.
use Rattle.std.proofs.Common.{◌≡◌, ◌⊎◌, inl, inr, Bool, true, false, not, ◌&&◌, ◌||◌, ℕ, zero, suc, List, [], ◌∷◌, map, get_or, refl, sym, subst, arith}
use Rattle.std.specs.List.{Contains}
use Rattle.graphs.specs.Graphs.{IsMarked}
use Rattle.graphs.proofs.Marks.{none_contained}
use Rattle.process_terms.specs.Processes as written
use Rattle.process_terms.specs.Processes.{Bound, Body, written_choice, written_seq, written_merge, written_starting, chain_of, merged_with, merge_of, synced_with, sync_of, sums_around}
use Rattle.process_terms.specs.PlainProcesses.{PlainProcess, PlainProcesses, delta, act, call, choice, seq, cond, sum, merge, left_merge, sync, around, no_processes, more_processes}
use Rattle.process_terms.specs.Meanings.{Entries, body_of, bodies_of, bound_at}
use Rattle.guard_check.specs.declared.calls.Extent.TheVariants.{Everywhere}
use Rattle.guard_check.specs.CallGraphs.{plain_calls}
use Rattle.guard_check.proofs.CallLemmas.{same_calls}
use Rattle.proc_unfold.specs.Parallel.{HasParallel, IsSequentialBut, IsOutsideBut}
use Rattle.proc_unfold.specs.ParallelTests.{has_two, has_parallel, any_parallel, none_marked, is_sequential, is_outside, all_outside}

-- ---- truth values
either_true : (a b : Bool) → (a || b) ≡ true → (a ≡ true) ⊎ (b ≡ true)
either_true true b e = inl refl
either_true false b e = inr e

left_true : (a b : Bool) → a ≡ true → (a || b) ≡ true
left_true true b e = refl
left_true false b e = cc

right_true : (a b : Bool) → b ≡ true → (a || b) ≡ true
right_true true b e = refl
right_true false b e = e

both_true : (a b : Bool) → (a && b) ≡ true → (a ≡ true) × (b ≡ true)
both_true true b e = (refl, e)
both_true false b e = cc

are_true : (a b : Bool) → a ≡ true → b ≡ true → (a && b) ≡ true
are_true true b e f = f
are_true false b e f = cc

not_true : (a : Bool) → not a ≡ true → a ≡ true → ⊥
not_true true e f = cc
not_true false e f = cc

is_not_true : (a : Bool) → (a ≡ true → ⊥) → not a ≡ true
is_not_true true h = absurd (h refl)
is_not_true false h = refl

-- ---- parallel operators
merged_parallel : (q : Body) (qs : List Body) → HasParallel q → HasParallel (merged_with q qs)
merged_parallel q [] h = h
merged_parallel q (r ∷ rs) h = merged_parallel (written_merge q r) rs tt

synced_parallel : (q : Body) (qs : List Body) → HasParallel q → HasParallel (synced_with q qs)
synced_parallel q [] h = h
synced_parallel q (r ∷ rs) h = synced_parallel (written_starting written.sync q r) rs tt

sums_parallel : (xs : List Bound) (p : Body) → HasParallel p → HasParallel (sums_around xs p)
sums_parallel [] p h = h
sums_parallel (x ∷ xs) p h = sums_parallel xs p h

parallel_summed : (xs : List Bound) (p : Body) → HasParallel (sums_around xs p) → HasParallel p
parallel_summed [] p h = h
parallel_summed (x ∷ xs) p h = parallel_summed xs p h

module _ (g : Entries) where
  mutual
    pub parallel_tells : (p : PlainProcess) → has_parallel p ≡ true → HasParallel (body_of g p)
    parallel_tells delta e = cc
    parallel_tells (act m) e = cc
    parallel_tells (call x ts) e = cc
    parallel_tells (choice ps) e = chain_tells written_choice (λ p q h. h) ps e
    parallel_tells (seq ps) e = chain_tells written_seq (λ p q h. h) ps e
    parallel_tells (cond c p q) e = elim (either_true (has_parallel p) (has_parallel q) e) [ inl h ↦ inl (parallel_tells p h) | inr h ↦ inr (parallel_tells q h) ]
    parallel_tells (sum xs p) e = sums_parallel (map (bound_at g) xs) (body_of g p) (parallel_tells p e)
    parallel_tells (merge ps) e = merge_tells ps e
    parallel_tells (left_merge p q) e = tt
    parallel_tells (sync ps) e = sync_tells ps e
    parallel_tells (around o p) e = tt

    chain_tells : (op : Body → Body → Body) → ((p q : Body) → HasParallel p ⊎ HasParallel q → HasParallel (op p q)) → (ps : PlainProcesses) → any_parallel ps ≡ true → HasParallel (chain_of op (bodies_of g ps))
    chain_tells op up no_processes e = cc
    chain_tells op up (more_processes p no_processes) e = elim (either_true (has_parallel p) false e) [ inl h ↦ parallel_tells p h | inr h ↦ cc ]
    chain_tells op up (more_processes p (more_processes q ps)) e = up _ _ (elim (either_true (has_parallel p) (any_parallel (more_processes q ps)) e) [ inl h ↦ inl (parallel_tells p h) | inr h ↦ inr (chain_tells op up (more_processes q ps) h) ])

    merge_tells : (ps : PlainProcesses) → (has_two ps || any_parallel ps) ≡ true → HasParallel (merge_of (bodies_of g ps))
    merge_tells no_processes e = cc
    merge_tells (more_processes p no_processes) e = elim (either_true (has_parallel p) false e) [ inl h ↦ parallel_tells p h | inr h ↦ cc ]
    merge_tells (more_processes p (more_processes q ps)) e = merged_parallel (written_merge (body_of g p) (body_of g q)) (bodies_of g ps) tt

    sync_tells : (ps : PlainProcesses) → (has_two ps || any_parallel ps) ≡ true → HasParallel (sync_of (bodies_of g ps))
    sync_tells no_processes e = cc
    sync_tells (more_processes p no_processes) e = elim (either_true (has_parallel p) false e) [ inl h ↦ parallel_tells p h | inr h ↦ cc ]
    sync_tells (more_processes p (more_processes q ps)) e = synced_parallel (written_starting written.sync (body_of g p) (body_of g q)) (bodies_of g ps) tt

  mutual
    pub parallel_told : (p : PlainProcess) → HasParallel (body_of g p) → has_parallel p ≡ true
    parallel_told delta h = absurd h
    parallel_told (act m) h = absurd h
    parallel_told (call x ts) h = absurd h
    parallel_told (choice ps) h = chain_told written_choice (λ p q h. h) ps h
    parallel_told (seq ps) h = chain_told written_seq (λ p q h. h) ps h
    parallel_told (cond c p q) h = elim h [ inl i ↦ left_true (has_parallel p) (has_parallel q) (parallel_told p i) | inr i ↦ right_true (has_parallel p) (has_parallel q) (parallel_told q i) ]
    parallel_told (sum xs p) h = parallel_told p (parallel_summed (map (bound_at g) xs) (body_of g p) h)
    parallel_told (merge ps) h = merge_told ps h
    parallel_told (left_merge p q) h = refl
    parallel_told (sync ps) h = sync_told ps h
    parallel_told (around o p) h = refl

    chain_told : (op : Body → Body → Body) → ((p q : Body) → HasParallel (op p q) → HasParallel p ⊎ HasParallel q) → (ps : PlainProcesses) → HasParallel (chain_of op (bodies_of g ps)) → any_parallel ps ≡ true
    chain_told op down no_processes h = absurd h
    chain_told op down (more_processes p no_processes) h = left_true (has_parallel p) false (parallel_told p h)
    chain_told op down (more_processes p (more_processes q ps)) h = elim (down _ _ h) [
      | inl i ↦ left_true (has_parallel p) (any_parallel (more_processes q ps)) (parallel_told p i)
      | inr i ↦ right_true (has_parallel p) (any_parallel (more_processes q ps)) (chain_told op down (more_processes q ps) i)
    ]

    merge_told : (ps : PlainProcesses) → HasParallel (merge_of (bodies_of g ps)) → (has_two ps || any_parallel ps) ≡ true
    merge_told no_processes h = absurd h
    merge_told (more_processes p no_processes) h = left_true (has_parallel p) false (parallel_told p h)
    merge_told (more_processes p (more_processes q ps)) h = refl

    sync_told : (ps : PlainProcesses) → HasParallel (sync_of (bodies_of g ps)) → (has_two ps || any_parallel ps) ≡ true
    sync_told no_processes h = absurd h
    sync_told (more_processes p no_processes) h = left_true (has_parallel p) false (parallel_told p h)
    sync_told (more_processes p (more_processes q ps)) h = refl

-- ---- marked names
none_tells : (marks : List Bool) (xs : List ℕ) → none_marked marks xs ≡ true → (x : ℕ) → Contains xs x → IsMarked marks x → ⊥
none_tells marks [] e x stands marked = none_contained x stands
none_tells marks (y ∷ xs) e x (zero, below, same) marked = not_true (get_or marks y false) (both_true _ (none_marked marks xs) e).0 (subst (IsMarked marks) (sym same) marked)
none_tells marks (y ∷ xs) e x (suc k, below, same) marked = none_tells marks xs (both_true (not (get_or marks y false)) (none_marked marks xs) e).1 x (k, omega arith, same) marked

none_told : (marks : List Bool) (xs : List ℕ) → ((x : ℕ) → Contains xs x → IsMarked marks x → ⊥) → none_marked marks xs ≡ true
none_told marks [] h = refl
none_told marks (y ∷ xs) h = are_true (not (get_or marks y false)) (none_marked marks xs) (is_not_true (get_or marks y false) (h y (0, omega arith, refl))) (none_told marks xs (λ x stands. h x (suc stands.0, omega (arith, stands.1), stands.2)))

-- ---- sequential terms
module _ (g : Entries) (marks : List Bool) where
  pub sequential_tells : (p : PlainProcess) → is_sequential marks p ≡ true → IsSequentialBut (IsMarked marks) (body_of g p)
  sequential_tells p e =
      let parts = both_true (not (has_parallel p)) (none_marked marks (plain_calls Everywhere p)) e in (
        λ h. not_true (has_parallel p) parts.0 (parallel_told g p h),
        λ x stands marked. none_tells marks (plain_calls Everywhere p) parts.1 x (subst (λ (l : List ℕ). Contains l x) (sym (same_calls Everywhere g p)) stands) marked,
      )

  pub sequential_told : (p : PlainProcess) → IsSequentialBut (IsMarked marks) (body_of g p) → is_sequential marks p ≡ true
  sequential_told p h =
      are_true (not (has_parallel p)) (none_marked marks (plain_calls Everywhere p)) (is_not_true (has_parallel p) (λ e. h.0 (parallel_tells g p e)))
      (none_told marks (plain_calls Everywhere p) (λ x stands marked. h.1 x (subst (λ (l : List ℕ). Contains l x) (same_calls Everywhere g p) stands) marked))

  merged_outside : (q : Body) (qs : List Body) → IsOutsideBut (IsMarked marks) (merged_with q qs) → IsOutsideBut (IsMarked marks) q
  merged_outside q [] h = h
  merged_outside q (r ∷ rs) h = (merged_outside (written_merge q r) rs h).0

  synced_outside : (q : Body) (qs : List Body) → IsOutsideBut (IsMarked marks) (synced_with q qs) → IsOutsideBut (IsMarked marks) q
  synced_outside q [] h = h
  synced_outside q (r ∷ rs) h = (synced_outside (written_starting written.sync q r) rs h).0

  mutual
    pub outside_tells : (p : PlainProcess) → is_outside marks p ≡ true → IsOutsideBut (IsMarked marks) (body_of g p)
    outside_tells delta e = tt
    outside_tells (act m) e = tt
    outside_tells (call x ts) e = tt
    outside_tells (choice no_processes) e = tt
    outside_tells (choice (more_processes p no_processes)) e = outside_tells p (both_true (is_outside marks p) true e).0
    outside_tells (choice (more_processes p (more_processes q ps))) e = sequential_tells (choice (more_processes p (more_processes q ps))) e
    outside_tells (seq no_processes) e = tt
    outside_tells (seq (more_processes p no_processes)) e = outside_tells p (both_true (is_outside marks p) true e).0
    outside_tells (seq (more_processes p (more_processes q ps))) e = sequential_tells (seq (more_processes p (more_processes q ps))) e
    outside_tells (cond c p q) e = sequential_tells (cond c p q) e
    outside_tells (sum [] p) e = outside_tells p e
    outside_tells (sum (x ∷ xs) p) e = sequential_tells (sum (x ∷ xs) p) e
    outside_tells (merge no_processes) e = tt
    outside_tells (merge (more_processes p ps)) e = let parts = both_true (is_outside marks p) (all_outside marks ps) e in merge_outside (body_of g p) (outside_tells p parts.0) ps parts.1
    outside_tells (left_merge p q) e = let parts = both_true (is_outside marks p) (is_outside marks q) e in (outside_tells p parts.0, outside_tells q parts.1)
    outside_tells (sync no_processes) e = tt
    outside_tells (sync (more_processes p ps)) e = let parts = both_true (is_outside marks p) (all_outside marks ps) e in sync_outside (body_of g p) (outside_tells p parts.0) ps parts.1
    outside_tells (around o p) e = outside_tells p e

    merge_outside : (q : Body) → IsOutsideBut (IsMarked marks) q → (ps : PlainProcesses) → all_outside marks ps ≡ true → IsOutsideBut (IsMarked marks) (merged_with q (bodies_of g ps))
    merge_outside q h no_processes e = h
    merge_outside q h (more_processes p ps) e = let parts = both_true (is_outside marks p) (all_outside marks ps) e in merge_outside (written_merge q (body_of g p)) (h, outside_tells p parts.0) ps parts.1

    sync_outside : (q : Body) → IsOutsideBut (IsMarked marks) q → (ps : PlainProcesses) → all_outside marks ps ≡ true → IsOutsideBut (IsMarked marks) (synced_with q (bodies_of g ps))
    sync_outside q h no_processes e = h
    sync_outside q h (more_processes p ps) e = let parts = both_true (is_outside marks p) (all_outside marks ps) e in sync_outside (written_starting written.sync q (body_of g p)) (h, outside_tells p parts.0) ps parts.1

  mutual
    pub outside_told : (p : PlainProcess) → IsOutsideBut (IsMarked marks) (body_of g p) → is_outside marks p ≡ true
    outside_told delta h = refl
    outside_told (act m) h = refl
    outside_told (call x ts) h = refl
    outside_told (choice no_processes) h = refl
    outside_told (choice (more_processes p no_processes)) h = are_true (is_outside marks p) true (outside_told p h) refl
    outside_told (choice (more_processes p (more_processes q ps))) h = sequential_told (choice (more_processes p (more_processes q ps))) h
    outside_told (seq no_processes) h = refl
    outside_told (seq (more_processes p no_processes)) h = are_true (is_outside marks p) true (outside_told p h) refl
    outside_told (seq (more_processes p (more_processes q ps))) h = sequential_told (seq (more_processes p (more_processes q ps))) h
    outside_told (cond c p q) h = sequential_told (cond c p q) h
    outside_told (sum [] p) h = outside_told p h
    outside_told (sum (x ∷ xs) p) h = sequential_told (sum (x ∷ xs) p) h
    outside_told (merge no_processes) h = refl
    outside_told (merge (more_processes p ps)) h = are_true (is_outside marks p) (all_outside marks ps) (outside_told p (merged_outside (body_of g p) (bodies_of g ps) h)) (others_outside (body_of g p) ps h)
    outside_told (left_merge p q) h = are_true (is_outside marks p) (is_outside marks q) (outside_told p h.0) (outside_told q h.1)
    outside_told (sync no_processes) h = refl
    outside_told (sync (more_processes p ps)) h = are_true (is_outside marks p) (all_outside marks ps) (outside_told p (synced_outside (body_of g p) (bodies_of g ps) h)) (synced_others (body_of g p) ps h)
    outside_told (around o p) h = outside_told p h

    others_outside : (q : Body) (ps : PlainProcesses) → IsOutsideBut (IsMarked marks) (merged_with q (bodies_of g ps)) → all_outside marks ps ≡ true
    others_outside q no_processes h = refl
    others_outside q (more_processes p ps) h = are_true (is_outside marks p) (all_outside marks ps) (outside_told p (merged_outside (written_merge q (body_of g p)) (bodies_of g ps) h).1) (others_outside (written_merge q (body_of g p)) ps h)

    synced_others : (q : Body) (ps : PlainProcesses) → IsOutsideBut (IsMarked marks) (synced_with q (bodies_of g ps)) → all_outside marks ps ≡ true
    synced_others q no_processes h = refl
    synced_others q (more_processes p ps) h = are_true (is_outside marks p) (all_outside marks ps) (outside_told p (synced_outside (written_starting written.sync q (body_of g p)) (bodies_of g ps) h).1) (synced_others (written_starting written.sync q (body_of g p)) ps h)
