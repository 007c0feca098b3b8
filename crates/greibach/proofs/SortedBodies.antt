-- Bodies of what fits are well sorted.
use Rattle.std.proofs.Common.{◌≡◌, ◌<◌, ◌⊎◌, inl, inr, ⊎_elim, ℕ, List, [], ◌∷◌, ◌++◌, map, refl, sym, ap, ◌∙◌, subst}
use Rattle.std.specs.Prelude.{slice_get, option_map, Contains}
use Rattle.std.specs.List.{All}
use Rattle.std.proofs.lemmas.Option.{slice_get-map}
use Rattle.std.proofs.lemmas.List.{length-map, map-append}
use Rattle.std.proofs.lemmas.List.Elements.{All-head, All-tail, Contains-append_left, Contains-append_right, Contains-append_cases}
use Rattle.data_theory.specs.declared.ids.ProcId.{ProcId}
use Rattle.data_theory.specs.declared.ids.VarId.{VarId}
use Rattle.data_theory.specs.declared.ids.TermId.{TermId}
use Rattle.data_theory.specs.Terms.{boolean}
use Rattle.data_theory.specs.declared.signature.Variable.{Variable}
use Rattle.data_theory.specs.Declarations.{Declares, HasSort, HaveSorts}
use Rattle.data_theory.specs.Environments.{terms_of, AreOver}
use Rattle.data_theory.specs.Table.{bool_sort}
use Rattle.data_theory.specs.Signature.{Sig}
use Rattle.data_theory.specs.WholeSignatures.{IsSignature}
use Rattle.data_theory.specs.IdData.{data_meant}
use Rattle.data_theory.specs.IdTrees.{Tree}
use Rattle.data_theory.specs.IdTerms.{sort_under, variable_sorts}
use Rattle.process_terms.specs.PlainProcesses.{PlainAction, PlainProcess, PlainProcesses, PlainDefinition, delta, act, call, choice, seq, cond, sum, merge, left_merge, sync, around, no_processes, more_processes}
use Rattle.process_terms.specs.Processes.{Body, choice_of, seq_of, sums_around}
use Rattle.process_terms.specs.Meanings.{Entries, ReadsOnly, bound_at, term_at, label_of, body_of, bodies_of}
use Rattle.process_terms.specs.SignatureEntries.{entries_of, BothGrow}
use Rattle.bisim_laws.specs.LinearProcesses.{LabelIsOver, no_action_left, action_over, sorts}
use Rattle.bisim_laws.specs.BaseStates.{Piece}
use Rattle.guard_check.specs.declared.calls.Extent.TheVariants.{Everywhere}
use Rattle.guard_check.specs.Calls.{calls}
use Rattle.proc_unfold.specs.Parallel.{HasParallel}
use Rattle.proc_unfold.specs.FittingModels.{ActionFits, CallFits, ProcessFits, ProcessesFit, DefinitionFits}
use Rattle.lps_core.specs.Fitting.{IsVariable, sort_of_variable}
use Rattle.lps_core.specs.TreeSummands.{numbers_of}
use Rattle.lps_core.proofs.Members.{all_at}
use Rattle.lps_core.proofs.NamedSums.{sorts_kept, variable_kept}
use Rattle.lps_core.proofs.Staying.{declares_at, terms_sorted, condition_sorted, sorts_of_variables}
use Rattle.bisim_laws.proofs.Firing.{contains_first, contains_later, contains_cases, contains_none}
use Rattle.greibach.specs.Places.{Text, IsSortedBody, CallIsSorted}
use Rattle.greibach.specs.ComponentForms.{piece_of}
use Rattle.greibach.proofs.GrownFits.{term_grows, terms_grow, action_grows, variables_grow}
use Rattle.greibach.proofs.ReadTables.{merged_parallel, synced_parallel}
use Rattle.greibach.proofs.ScopeLemmas.{over_moved, all_moved}

reads_over : (e : Entries) (xs : List VarId) (ids : List TermId) → All (ReadsOnly e xs) ids → AreOver (numbers_of xs) (terms_of (map (term_at e) ids))
reads_over e xs [] h = tt
reads_over e xs (id ∷ ids) h = (All-head (ReadsOnly e xs) id ids h, reads_over e xs ids (All-tail (ReadsOnly e xs) id ids h))

-- calls of a part are calls of the whole
abbrev AreCalls : (ℕ → Type 0) → Body → Type 0
AreCalls P b = (x : ℕ) → Contains (calls Everywhere b) x → P x

calls_left : (P : ℕ → Type 0) (xs ys : List ℕ) → ((x : ℕ) → Contains (xs ++ ys) x → P x) → (x : ℕ) → Contains xs x → P x
calls_left P xs ys f x i = f x (Contains-append_left xs ys x i)

calls_right : (P : ℕ → Type 0) (xs ys : List ℕ) → ((x : ℕ) → Contains (xs ++ ys) x → P x) → (x : ℕ) → Contains ys x → P x
calls_right P xs ys f x i = f x (Contains-append_right xs ys x i)

module _ (g h : Sig) (ts us : List Tree) (sg : IsSignature g) (sh : IsSignature h) (grow : BothGrow g h ts us) (ds : List PlainDefinition) (fit : All (DefinitionFits g ts ds) ds) (t : Text) (defs : t.definitions ≡ map (piece_of (entries_of h us)) ds) (vars : t.variables ≡ variable_sorts h) where
  abbrev e : Entries
  e = entries_of h us

  label_over : (xs : List VarId) (ys : List ℕ) (m : List PlainAction) → ((v : ℕ) → Contains (numbers_of xs) v → Contains ys v) → All (ActionFits g ts xs) m → LabelIsOver ys (label_of (entries_of h us) m)
  label_over xs ys [] w k = no_action_left
  label_over xs ys (a ∷ m) w k = action_over
      (all_moved (numbers_of xs) ys (terms_of (map (term_at (entries_of h us)) a.args)) (λ v i o. w v i) (reads_over (entries_of h us) xs a.args (action_grows g h ts us sg grow xs a (All-head (ActionFits g ts xs) a m k)).over))
      (label_over xs ys m w (All-tail (ActionFits g ts xs) a m k))

  call_sorted : (xs : List VarId) (x : ProcId) (ids : List TermId) → CallFits g ts ds xs x ids → Contains t.reached x.0 → CallIsSorted (data_meant h) t x.0 (map (term_at (entries_of h us)) ids)
  call_sorted xs x ids k reached =
      let d = k.definition in
      let f : Piece = piece_of (entries_of h us) d in
      let own = all_at (DefinitionFits g ts ds) ds x.0 d fit k.stands in
      let theirs = variables_grow g h ts us sg grow d.params own.params in
      let now = terms_grow g h ts us sg grow xs (map (sort_of_variable g) d.params) ids k.args in
      let same : map (sort_under h) (map (sort_of_variable g) d.params) ≡ sorts f.params = ap (map (sort_under h)) (sym (sorts_kept g h d.params grow.signature own.params)) ∙ sym (sorts_of_variables h us d.params theirs) in (
        f,
        ap (λ l. slice_get l x.0) defs ∙ slice_get-map (piece_of (entries_of h us)) ds x.0 ∙ ap (option_map (piece_of (entries_of h us))) k.stands,
        subst (λ vs. HaveSorts (data_meant h) vs (terms_of (map (term_at (entries_of h us)) ids)) (sorts f.params)) (sym vars)
            (subst (HaveSorts (data_meant h) (variable_sorts h) (terms_of (map (term_at (entries_of h us)) ids))) same (terms_sorted h us (map (sort_of_variable g) d.params) ids sh.table now.terms)),
        reached,
      )

  -- those further in are declared
  sums_sorted : (zs : List VarId) (ys : List ℕ) (b : Body) → All (IsVariable g) zs → ((all : List ℕ) → ((v : ℕ) → Contains (numbers_of zs) v ⊎ Contains ys v → Contains all v) → IsSortedBody (data_meant h) t all b) → IsSortedBody (data_meant h) t ys (sums_around (map (bound_at (entries_of h us)) zs) b)
  sums_sorted [] ys b k f = f ys (λ v o. ⊎_elim (λ i. absurd (contains_none v i)) (λ i. i) o)
  sums_sorted (z ∷ zs) ys b k f =
      let l = variable_kept g h z grow.signature (All-head (IsVariable g) z zs k) in (
        subst (λ vs. Declares vs z.0 (bound_at (entries_of h us) z).sort) (sym vars) (declares_at (variable_sorts h) z.0 (subst (λ n. z.0 < n) (sym (length-map h.variables (λ (y : Variable). sort_under h y.sort))) l)),
        sums_sorted zs (z.0 ∷ ys) b (All-tail (IsVariable g) z zs k) (λ all w. f all (λ v o. w v (⊎_elim
            (λ i. ⊎_elim (λ q. inr (subst (Contains (z.0 ∷ ys)) q (contains_first z.0 ys))) inl (contains_cases z.0 v (numbers_of zs) i))
            (λ i. inr (contains_later z.0 v ys i))
            o))),
      )

  around_parallel : (zs : List VarId) (b : Body) → HasParallel b → HasParallel (sums_around (map (bound_at (entries_of h us)) zs) b)
  around_parallel [] b j = j
  around_parallel (z ∷ zs) b j = around_parallel zs b j

  around_calls : (zs : List VarId) (b : Body) → calls Everywhere (sums_around (map (bound_at (entries_of h us)) zs) b) ≡ calls Everywhere b
  around_calls [] b = refl
  around_calls (z ∷ zs) b = around_calls zs b

  mutual
    pub body_sorted : (xs : List VarId) (ys : List ℕ) (p : PlainProcess) → ProcessFits g ts ds xs p → ((v : ℕ) → Contains (numbers_of xs) v → Contains ys v) → (HasParallel (body_of (entries_of h us) p) → ⊥) → AreCalls (Contains t.reached) (body_of (entries_of h us) p) → IsSortedBody (data_meant h) t ys (body_of (entries_of h us) p)
    body_sorted xs ys delta k w n c = tt
    body_sorted xs ys (act m) k w n c = label_over xs ys m w k
    body_sorted xs ys (call x ids) k w n c = (
      all_moved (numbers_of xs) ys (terms_of (map (term_at (entries_of h us)) ids)) (λ v i o. w v i) (reads_over (entries_of h us) xs ids (terms_grow g h ts us sg grow xs (map (sort_of_variable g) k.definition.params) ids k.args).over),
      call_sorted xs x ids k (c x.0 (contains_first x.0 [])),
    )
    body_sorted xs ys (choice ps) k w n c = choice_sorted xs ys ps k w n c
    body_sorted xs ys (seq ps) k w n c = seq_sorted xs ys ps k w n c
    body_sorted xs ys (cond b p q) k w n c =
        let one = body_of (entries_of h us) p in
        let two = body_of (entries_of h us) q in
        let now = term_grows g h ts us sg grow xs bool_sort b k.0 in (
          over_moved (numbers_of xs) ys (term_at (entries_of h us) b) (λ v i o. w v i) now.over,
          subst (λ vs. HasSort (data_meant h) vs (term_at (entries_of h us) b) boolean) (sym vars) (condition_sorted h us b sh.table now.term),
          body_sorted xs ys p k.1 w (λ j. n (inl j)) (calls_left (Contains t.reached) (calls Everywhere one) (calls Everywhere two) c),
          body_sorted xs ys q k.2 w (λ j. n (inr j)) (calls_right (Contains t.reached) (calls Everywhere one) (calls Everywhere two) c),
        )
    body_sorted xs ys (sum zs p) k w n c = sums_sorted zs ys (body_of (entries_of h us) p) k.0
        (λ all u. body_sorted (zs ++ xs) all p k.1 (λ v i. u v (⊎_elim inl (λ j. inr (w v j)) (Contains-append_cases (numbers_of zs) (numbers_of xs) v (subst (λ l. Contains l v) (map-append (λ (z : VarId). z.0) zs xs) i))))
        (λ j. n (around_parallel zs (body_of (entries_of h us) p) j)) (λ x i. c x (subst (λ l. Contains l x) (sym (around_calls zs (body_of (entries_of h us) p))) i)))
    body_sorted xs ys (merge ps) k w n c = merge_sorted xs ys ps k w n c
    body_sorted xs ys (left_merge p q) k w n c = absurd (n tt)
    body_sorted xs ys (sync ps) k w n c = sync_sorted xs ys ps k w n c
    body_sorted xs ys (around o p) k w n c = absurd (n tt)

    choice_sorted : (xs : List VarId) (ys : List ℕ) (ps : PlainProcesses) → ProcessesFit g ts ds xs ps → ((v : ℕ) → Contains (numbers_of xs) v → Contains ys v) → (HasParallel (choice_of (bodies_of (entries_of h us) ps)) → ⊥) → AreCalls (Contains t.reached) (choice_of (bodies_of (entries_of h us) ps)) → IsSortedBody (data_meant h) t ys (choice_of (bodies_of (entries_of h us) ps))
    choice_sorted xs ys no_processes k w n c = tt
    choice_sorted xs ys (more_processes p no_processes) k w n c = body_sorted xs ys p k.0 w n c
    choice_sorted xs ys (more_processes p (more_processes q ps)) k w n c =
        let one = body_of (entries_of h us) p in
        let two = choice_of (bodies_of (entries_of h us) (more_processes q ps)) in
        (body_sorted xs ys p k.0 w (λ j. n (inl j)) (calls_left (Contains t.reached) (calls Everywhere one) (calls Everywhere two) c), choice_sorted xs ys (more_processes q ps) k.1 w (λ j. n (inr j)) (calls_right (Contains t.reached) (calls Everywhere one) (calls Everywhere two) c))

    seq_sorted : (xs : List VarId) (ys : List ℕ) (ps : PlainProcesses) → ProcessesFit g ts ds xs ps → ((v : ℕ) → Contains (numbers_of xs) v → Contains ys v) → (HasParallel (seq_of (bodies_of (entries_of h us) ps)) → ⊥) → AreCalls (Contains t.reached) (seq_of (bodies_of (entries_of h us) ps)) → IsSortedBody (data_meant h) t ys (seq_of (bodies_of (entries_of h us) ps))
    seq_sorted xs ys no_processes k w n c = tt
    seq_sorted xs ys (more_processes p no_processes) k w n c = body_sorted xs ys p k.0 w n c
    seq_sorted xs ys (more_processes p (more_processes q ps)) k w n c =
        let one = body_of (entries_of h us) p in
        let two = seq_of (bodies_of (entries_of h us) (more_processes q ps)) in
        (body_sorted xs ys p k.0 w (λ j. n (inl j)) (calls_left (Contains t.reached) (calls Everywhere one) (calls Everywhere two) c), seq_sorted xs ys (more_processes q ps) k.1 w (λ j. n (inr j)) (calls_right (Contains t.reached) (calls Everywhere one) (calls Everywhere two) c))

    merge_sorted : (xs : List VarId) (ys : List ℕ) (ps : PlainProcesses) → ProcessesFit g ts ds xs ps → ((v : ℕ) → Contains (numbers_of xs) v → Contains ys v) → (HasParallel (body_of (entries_of h us) (merge ps)) → ⊥) → AreCalls (Contains t.reached) (body_of (entries_of h us) (merge ps)) → IsSortedBody (data_meant h) t ys (body_of (entries_of h us) (merge ps))
    merge_sorted xs ys no_processes k w n c = tt
    merge_sorted xs ys (more_processes p no_processes) k w n c = body_sorted xs ys p k.0 w n c
    merge_sorted xs ys (more_processes p (more_processes q ps)) k w n c = absurd (n (merged_parallel (body_of (entries_of h us) p) (body_of (entries_of h us) q) (bodies_of (entries_of h us) ps)))

    sync_sorted : (xs : List VarId) (ys : List ℕ) (ps : PlainProcesses) → ProcessesFit g ts ds xs ps → ((v : ℕ) → Contains (numbers_of xs) v → Contains ys v) → (HasParallel (body_of (entries_of h us) (sync ps)) → ⊥) → AreCalls (Contains t.reached) (body_of (entries_of h us) (sync ps)) → IsSortedBody (data_meant h) t ys (body_of (entries_of h us) (sync ps))
    sync_sorted xs ys no_processes k w n c = tt
    sync_sorted xs ys (more_processes p no_processes) k w n c = body_sorted xs ys p k.0 w n c
    sync_sorted xs ys (more_processes p (more_processes q ps)) k w n c = absurd (n (synced_parallel (body_of (entries_of h us) p) (body_of (entries_of h us) q) (bodies_of (entries_of h us) ps)))
