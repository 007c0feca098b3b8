-- What stands under the numbers doesn't matter to calls, parallel operators and bound variables.
use Rattle.std.proofs.Common.{◌≡◌, inl, inr, ℕ, List, [], ◌∷◌, map, Some, sym, ap, ◌∙◌, subst}
use Rattle.std.specs.Prelude.{slice_get, option_map, Contains}
use Rattle.std.proofs.lemmas.Option.{slice_get-map}
use Rattle.data_theory.specs.declared.ids.VarId.{VarId}
use Rattle.graphs.specs.Graphs.{IsPath, IsMarked}
use Rattle.process_terms.specs.PlainProcesses.{PlainProcess, PlainProcesses, PlainDefinition, PlainModel, call_of, term_of, delta, act, call, choice, seq, cond, sum, merge, left_merge, sync, around, no_processes, more_processes}
use Rattle.process_terms.specs.Processes as written
use Rattle.process_terms.specs.Processes.{Body, Definition, written_merge, written_starting, choice_of, seq_of, merged_with, synced_with, sums_around}
use Rattle.process_terms.specs.Meanings.{Entries, bound_at, body_of, bodies_of, definition_of, table_of}
use Rattle.guard_check.specs.declared.calls.Extent.TheVariants.{Everywhere}
use Rattle.guard_check.specs.Calls.{calls, Calls}
use Rattle.guard_check.proofs.CallLemmas.{same_calls}
use Rattle.proc_unfold.specs.Parallel.{HasParallel, HasParallelBody, IsParallelName}
use Rattle.proc_unfold.proofs.ParallelLemmas.{sequential_tells, sequential_told}
use Rattle.proc_unfold.proofs.WellFormed.{body_at}
use Rattle.greibach.specs.Scopes.{BindsAnew, HasOwnVariables, SequentialBodiesAreSequential, VariablesAreBoundOnce}

-- ---- parallel operators and calls
none_marked : (x : ℕ) → IsMarked [] x → ⊥
none_marked x h = cc

not_parallel : (e f : Entries) (p : PlainProcess) → (HasParallel (body_of e p) → ⊥) → HasParallel (body_of f p) → ⊥
not_parallel e f p n = (sequential_tells f [] p (sequential_told e [] p (n, λ x i h. none_marked x h))).0

same_called : (e f : Entries) (p : PlainProcess) → calls Everywhere (body_of e p) ≡ calls Everywhere (body_of f p)
same_called e f p = sym (same_calls Everywhere e p) ∙ same_calls Everywhere f p

module _ (e f : Entries) (ds : List PlainDefinition) where
  stands_there : (x : ℕ) (c : PlainDefinition) → slice_get ds x ≡ Some c → slice_get (table_of e ds) x ≡ Some (definition_of e c)
  stands_there x c at = slice_get-map (definition_of e) ds x ∙ ap (option_map (definition_of e)) at

  calls_there : (x y : ℕ) → Calls Everywhere (table_of f ds) x y → Calls Everywhere (table_of e ds) x y
  calls_there x y h =
      let r = body_at f ds x h.0 h.1 in
      (definition_of e r.0, stands_there x r.0 r.1, subst (λ l. Contains l y) (same_called f e r.0.body) (subst (λ (k : Definition). Contains (calls Everywhere k.body) y) r.2 h.2))

  path_there : (x : ℕ) (xs : List ℕ) (y : ℕ) → IsPath (Calls Everywhere (table_of f ds)) x xs y → IsPath (Calls Everywhere (table_of e ds)) x xs y
  path_there x [] y h = calls_there x y h
  path_there x (z ∷ xs) y h = (calls_there x z h.0, path_there z xs y h.1)

  no_parallel_body : (x : ℕ) → (HasParallelBody (table_of e ds) x → ⊥) → HasParallelBody (table_of f ds) x → ⊥
  no_parallel_body x n h =
      let r = body_at f ds x h.0 h.1 in
      not_parallel e f r.0.body (λ j. n (definition_of e r.0, stands_there x r.0 r.1, j)) (subst (λ (k : Definition). HasParallel k.body) r.2 h.2)

  no_parallel_name : (x : ℕ) → (IsParallelName (table_of e ds) x → ⊥) → IsParallelName (table_of f ds) x → ⊥
  no_parallel_name x n (inl h) = no_parallel_body x (λ j. n (inl j)) h
  no_parallel_name x n (inr (y, path, h)) = no_parallel_body y (λ j. n (inr (y, (path.0, path_there x path.0 y path.1), j))) h

pub sequential_bodies : SequentialBodiesAreSequential
sequential_bodies e m (call_of x ids) h f = (λ j. j, λ y i. no_parallel_name e f m.definitions y (h.1 y i))
sequential_bodies e m (term_of p) h f = (not_parallel e f p h.0, λ y i. no_parallel_name e f m.definitions y (h.1 y (subst (λ l. Contains l y) (same_called f e p) i)))

-- ---- bound variables
module _ (e f : Entries) where
  sums_there : (zs : List VarId) (b c : Body) → ((ys : List ℕ) → BindsAnew ys b → BindsAnew ys c) → (xs : List ℕ) → BindsAnew xs (sums_around (map (bound_at e) zs) b) → BindsAnew xs (sums_around (map (bound_at f) zs) c)
  sums_there [] b c w xs h = w xs h
  sums_there (z ∷ zs) b c w xs h = (h.0, sums_there zs b c w (z.0 ∷ xs) h.1)

  mutual
    binds_there : (xs : List ℕ) (p : PlainProcess) → BindsAnew xs (body_of e p) → BindsAnew xs (body_of f p)
    binds_there xs delta h = tt
    binds_there xs (act m) h = tt
    binds_there xs (call x ids) h = tt
    binds_there xs (choice ps) h = choice_there xs ps h
    binds_there xs (seq ps) h = seq_there xs ps h
    binds_there xs (cond c p q) h = (binds_there xs p h.0, binds_there xs q h.1)
    binds_there xs (sum zs p) h = sums_there zs (body_of e p) (body_of f p) (λ ys k. binds_there ys p k) xs h
    binds_there xs (merge no_processes) h = tt
    binds_there xs (merge (more_processes p ps)) h = merged_there xs (body_of e p) (body_of f p) (λ k. binds_there xs p k) ps h
    binds_there xs (left_merge p q) h = (binds_there xs p h.0, binds_there xs q h.1)
    binds_there xs (sync no_processes) h = tt
    binds_there xs (sync (more_processes p ps)) h = synced_there xs (body_of e p) (body_of f p) (λ k. binds_there xs p k) ps h
    binds_there xs (around o p) h = binds_there xs p h

    choice_there : (xs : List ℕ) (ps : PlainProcesses) → BindsAnew xs (choice_of (bodies_of e ps)) → BindsAnew xs (choice_of (bodies_of f ps))
    choice_there xs no_processes h = tt
    choice_there xs (more_processes p no_processes) h = binds_there xs p h
    choice_there xs (more_processes p (more_processes q ps)) h = (binds_there xs p h.0, choice_there xs (more_processes q ps) h.1)

    seq_there : (xs : List ℕ) (ps : PlainProcesses) → BindsAnew xs (seq_of (bodies_of e ps)) → BindsAnew xs (seq_of (bodies_of f ps))
    seq_there xs no_processes h = tt
    seq_there xs (more_processes p no_processes) h = binds_there xs p h
    seq_there xs (more_processes p (more_processes q ps)) h = (binds_there xs p h.0, seq_there xs (more_processes q ps) h.1)

    merged_there : (xs : List ℕ) (b c : Body) → (BindsAnew xs b → BindsAnew xs c) → (ps : PlainProcesses) → BindsAnew xs (merged_with b (bodies_of e ps)) → BindsAnew xs (merged_with c (bodies_of f ps))
    merged_there xs b c w no_processes h = w h
    merged_there xs b c w (more_processes q ps) h = merged_there xs (written_merge b (body_of e q)) (written_merge c (body_of f q)) (λ k. (w k.0, binds_there xs q k.1)) ps h

    synced_there : (xs : List ℕ) (b c : Body) → (BindsAnew xs b → BindsAnew xs c) → (ps : PlainProcesses) → BindsAnew xs (synced_with b (bodies_of e ps)) → BindsAnew xs (synced_with c (bodies_of f ps))
    synced_there xs b c w no_processes h = w h
    synced_there xs b c w (more_processes q ps) h = synced_there xs (written_starting written.sync b (body_of e q)) (written_starting written.sync c (body_of f q)) (λ k. (w k.0, binds_there xs q k.1)) ps h

own_there : (e f : Entries) (m : PlainModel) → ((x : ℕ) (k : Definition) → slice_get (table_of e m.definitions) x ≡ Some k → HasOwnVariables k) → (x : ℕ) (k : Definition) → slice_get (table_of f m.definitions) x ≡ Some k → HasOwnVariables k
own_there e f m h x k at =
    let r = body_at f m.definitions x k at in
    let own = h x (definition_of e r.0) (stands_there e f m.definitions x r.0 r.1) in
    subst HasOwnVariables (sym r.2) (record { distinct = own.distinct; binds = binds_there e f (map (λ (y : VarId). y.0) r.0.params) r.0.body own.binds })

pub bound_once : VariablesAreBoundOnce
bound_once e m (call_of x ids) h f = record { definitions = own_there e f m h.definitions; start = tt }
bound_once e m (term_of p) h f = record { definitions = own_there e f m h.definitions; start = binds_there e f [] p h.start }
