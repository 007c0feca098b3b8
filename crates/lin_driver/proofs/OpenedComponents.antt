-- The components of a network bind no variable that is in scope.
use Rattle.std.proofs.Common.{◌≡◌, ⊎_elim, ℕ, Bool, List, [], ◌∷◌, map, subst, Some}
use Rattle.std.specs.Prelude.{slice_get, Contains}
use Rattle.std.specs.List.{AllByRecursion}
use Rattle.data_theory.specs.declared.ids.VarId.{VarId}
use Rattle.data_theory.specs.declared.ids.TermId.{TermId}
use Rattle.data_theory.specs.IdTrees.{Tree}
use Rattle.process_terms.specs.Processes.{Body, written_delta, written_act, written_choice, written_seq, written_cond, written_sum, written_call, written_merge, written_starting, written_around, sums_around}
use Rattle.process_terms.specs.PlainProcesses.{PlainProcess, PlainProcesses, PlainDefinition, PlainComponent}
use Rattle.process_terms.specs.Meanings.{Entries, bound_at, body_of, bodies_of, component_body}
use Rattle.bisim_laws.proofs.Firing.{contains_first, contains_later, contains_cases, contains_none}
use Rattle.proc_unfold.specs.Networks.{PlainNetwork, PlainNetworks, AllComponents, AllComponentsOfEach}
use Rattle.proc_unfold.specs.PutTerms.{IsPutIn, put_delta, put_act, put_call, put_choice, put_seq, put_cond, put_sum, put_merge, put_left, put_sync, put_around, ArePutIn, none_put, more_put}
use Rattle.proc_unfold.specs.Opening.{Opens, AllOpen, term_kept, call_kept, call_opened, beside, one_choice, one_step, left_merged, synced, no_sum, within, none_open, more_open}
use Rattle.greibach.specs.Scopes.{BindsAnew}
use Rattle.lin_driver.proofs.BodyLists.{chain_holds, chain_parts, merge_holds, merge_parts, sync_holds, sync_parts}

-- ---- bound variables
pub binds_fewer : (ys xs : List ℕ) → ((v : ℕ) → Contains ys v → Contains xs v) → (b : Body) → BindsAnew xs b → BindsAnew ys b
binds_fewer ys xs w written_delta h = tt
binds_fewer ys xs w (written_act m) h = tt
binds_fewer ys xs w (written_choice p q) h = (binds_fewer ys xs w p h.0, binds_fewer ys xs w q h.1)
binds_fewer ys xs w (written_seq p q) h = (binds_fewer ys xs w p h.0, binds_fewer ys xs w q h.1)
binds_fewer ys xs w (written_cond c p q) h = (binds_fewer ys xs w p h.0, binds_fewer ys xs w q h.1)
binds_fewer ys xs w (written_sum x p) h = (
  λ i. h.0 (w x.var i),
  binds_fewer (x.var ∷ ys) (x.var ∷ xs) (λ v i. ⊎_elim (λ q. subst (λ z. Contains (x.var ∷ xs) z) q (contains_first x.var xs)) (λ j. contains_later x.var v xs (w v j)) (contains_cases x.var v ys i)) p h.1,
)
binds_fewer ys xs w (written_call x ts) h = tt
binds_fewer ys xs w (written_merge p q) h = (binds_fewer ys xs w p h.0, binds_fewer ys xs w q h.1)
binds_fewer ys xs w (written_starting o p q) h = (binds_fewer ys xs w p h.0, binds_fewer ys xs w q h.1)
binds_fewer ys xs w (written_around o p) h = binds_fewer ys xs w p h

no_scope : (xs : List ℕ) (b : Body) → BindsAnew xs b → BindsAnew [] b
no_scope xs b h = binds_fewer [] xs (λ v i. absurd (contains_none v i)) b h

module _ (e : Entries) (ts : List Tree) where
  sums_put : (zs : List VarId) (b c : Body) → ((ys : List ℕ) → BindsAnew ys b → BindsAnew ys c) → (xs : List ℕ) → BindsAnew xs (sums_around (map (bound_at e) zs) b) → BindsAnew xs (sums_around (map (bound_at e) zs) c)
  sums_put [] b c w xs h = w xs h
  sums_put (z ∷ zs) b c w xs h = (h.0, sums_put zs b c w (z.0 ∷ xs) h.1)

  mutual
    put_binds : {by : List (VarId × TermId)} {p q : PlainProcess} → IsPutIn ts by p q → (xs : List ℕ) → BindsAnew xs (body_of e p) → BindsAnew xs (body_of e q)
    put_binds put_delta xs h = tt
    put_binds (put_act k) xs h = tt
    put_binds (put_call k) xs h = tt
    put_binds (put_choice {ps = ps} {qs = qs} k) xs h = chain_holds (BindsAnew xs) written_choice tt (λ p q i j. (i, j)) (bodies_of e qs) (each_put_binds k xs (chain_parts (BindsAnew xs) written_choice (λ p q i. i) (bodies_of e ps) h))
    put_binds (put_seq {ps = ps} {qs = qs} k) xs h = chain_holds (BindsAnew xs) written_seq tt (λ p q i j. (i, j)) (bodies_of e qs) (each_put_binds k xs (chain_parts (BindsAnew xs) written_seq (λ p q i. i) (bodies_of e ps) h))
    put_binds (put_cond k l r) xs h = (put_binds l xs h.0, put_binds r xs h.1)
    put_binds (put_sum {xs = zs} {p = p} {q = q} k) xs h = sums_put zs (body_of e p) (body_of e q) (λ ys j. put_binds k ys j) xs h
    put_binds (put_merge {ps = ps} {qs = qs} k) xs h = merge_holds (BindsAnew xs) tt (λ p q i j. (i, j)) (bodies_of e qs) (each_put_binds k xs (merge_parts (BindsAnew xs) (λ p q i. i) (bodies_of e ps) h))
    put_binds (put_left k l) xs h = (put_binds k xs h.0, put_binds l xs h.1)
    put_binds (put_sync {ps = ps} {qs = qs} k) xs h = sync_holds (BindsAnew xs) tt (λ p q i j. (i, j)) (bodies_of e qs) (each_put_binds k xs (sync_parts (BindsAnew xs) (λ p q i. i) (bodies_of e ps) h))
    put_binds (put_around k) xs h = put_binds k xs h

    each_put_binds : {by : List (VarId × TermId)} {ps qs : PlainProcesses} → ArePutIn ts by ps qs → (xs : List ℕ) → AllByRecursion (BindsAnew xs) (bodies_of e ps) → AllByRecursion (BindsAnew xs) (bodies_of e qs)
    each_put_binds none_put xs h = tt
    each_put_binds (more_put k l) xs h = (put_binds k xs h.0, each_put_binds l xs h.1)

abbrev Binds : Entries → PlainComponent → Type 0
Binds e c = BindsAnew [] (component_body e c)

-- a component of an opened network binds no variable that is in scope
module _ (e : Entries) (ds : List PlainDefinition) (own : (x : ℕ) (f : PlainDefinition) → slice_get ds x ≡ Some f → BindsAnew (map (λ (y : VarId). y.0) f.params) (body_of e f.body)) (marks : List Bool) (ts : List Tree) where
  mutual
    pub opened_binds : {by : List (VarId × TermId)} {p : PlainProcess} {n : PlainNetwork} → Opens ds marks ts by p n → (xs : List ℕ) → BindsAnew xs (body_of e p) → AllComponents (Binds e) n
    opened_binds (term_kept {q = q} s k) xs h = no_scope xs (body_of e q) (put_binds e ts k xs h)
    opened_binds (call_kept k a) xs h = tt
    opened_binds (call_opened {x = x} f at k a o) xs h = opened_binds o (map (λ (y : VarId). y.0) f.params) (own x.0 f at)
    opened_binds (beside {ps = ps} o) xs h = all_opened_bind o xs (merge_parts (BindsAnew xs) (λ p q i. i) (bodies_of e ps) h)
    opened_binds (one_choice {ps = ps} one o) xs h = all_opened_bind o xs (chain_parts (BindsAnew xs) written_choice (λ p q i. i) (bodies_of e ps) h)
    opened_binds (one_step {ps = ps} one o) xs h = all_opened_bind o xs (chain_parts (BindsAnew xs) written_seq (λ p q i. i) (bodies_of e ps) h)
    opened_binds (left_merged o k) xs h = (opened_binds o xs h.0, opened_binds k xs h.1)
    opened_binds (synced {ps = ps} o) xs h = all_opened_bind o xs (sync_parts (BindsAnew xs) (λ p q i. i) (bodies_of e ps) h)
    opened_binds (no_sum o) xs h = opened_binds o xs h
    opened_binds (within o) xs h = opened_binds o xs h

    all_opened_bind : {by : List (VarId × TermId)} {ps : PlainProcesses} {ns : PlainNetworks} → AllOpen ds marks ts by ps ns → (xs : List ℕ) → AllByRecursion (BindsAnew xs) (bodies_of e ps) → AllComponentsOfEach (Binds e) ns
    all_opened_bind none_open xs h = tt
    all_opened_bind (more_open o os) xs h = (opened_binds o xs h.0, all_opened_bind os xs h.1)
