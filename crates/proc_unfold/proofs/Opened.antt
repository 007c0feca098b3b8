-- What is opened in code unfolds what it means, and its components are well formed.
use Rattle.std.proofs.Common.{◌≡◌, ◌∙◌, ◌==◌, ◌⊎◌, ◌↔◌, inl, inr, ⊎_elim, ℕ, suc, Bool, true, false, not, ◌&&◌, cond as by_test, List, [], ◌∷◌, map, length, refl, sym, ap, subst, Some}
use Rattle.std.specs.Prelude.{slice_get, Contains}
use Rattle.std.specs.Option.{option_map}
use Rattle.std.specs.List.{All, zip}
use Rattle.std.proofs.lemmas.List.{length-map}
use Rattle.std.proofs.lemmas.List.Elements.{All-head, All-tail, All-nil, All-cons, Contains-append_left, Contains-append_right}
use Rattle.std.proofs.lemmas.Option.{slice_get-map, get_or_from_slice_get}
use Rattle.std.proofs.lemmas.Bool.Decides.{eqb_tells}
use Rattle.data_theory.specs.declared.ids.SortId.{SortId}
use Rattle.data_theory.specs.declared.ids.ProcId.{ProcId}
use Rattle.data_theory.specs.declared.ids.VarId.{VarId}
use Rattle.data_theory.specs.declared.ids.TermId.{TermId}
use Rattle.data_theory.specs.declared.signature.Variable.{Variable}
use Rattle.data_theory.specs.Table.{bool_sort}
use Rattle.data_theory.specs.Terms.{Term, Terms, variable, numeral, unknown, application, none, more, put, IsClosed, AreClosed}
use Rattle.data_theory.specs.Declarations.{HasSort}
use Rattle.data_theory.specs.Environments.{Environment, term_in, bound, IsOver, AreOver}
use Rattle.data_theory.specs.Signature.{Sig}
use Rattle.data_theory.specs.WholeSignatures.{IsSignature}
use Rattle.data_theory.specs.IdData.{data_meant}
use Rattle.data_theory.specs.IdTrees.{Tree, trees_of}
use Rattle.data_theory.specs.IdTreeSorts.{IsVariableOf, HasTreeSort, HaveTreeSorts}
use Rattle.data_theory.specs.IdTerms.{sort_under, variable_sorts}
use Rattle.data_theory.proofs.EnvironmentLemmas.{contains_nothing, contains_cases, closed_terms_stay, closed_terms_need_no_variables}
use Rattle.data_theory.proofs.IdTermLemmas.{sorted_trees_mean_sorted_terms}
use Rattle.graphs.specs.Graphs.{IsMarked, IsPath}
use Rattle.graphs.proofs.Marks.{contains_last, only_one, none_contained}
use Rattle.term_pool.specs.HeadTrees.{tree_at, trees_at, IsIn, AreIn}
use Rattle.term_pool.specs.Bindings.{listed_terms}
use Rattle.term_pool.specs.TermSorts.{HaveVariableSorts}
use Rattle.process_terms.specs.Theories.{Theory}
use Rattle.process_terms.specs.Processes.{Body, written_call, merged_with, merge_of, synced_with, sync_of, Table}
use Rattle.process_terms.specs.PlainProcesses.{PlainProcess, PlainProcesses, call, no_processes, more_processes, PlainDefinition, PlainModel}
use Rattle.process_terms.specs.Meanings.{Entries, ReadsOnly, term_at, body_of, bodies_of, definition_of, table_of}
use Rattle.process_terms.specs.SignatureEntries.{entries_of}
use Rattle.bisim_laws.specs.Sameness.{same_delta}
use Rattle.guard_check.specs.declared.calls.Extent.TheVariants.{Everywhere}
use Rattle.guard_check.specs.Calls.{calls, Calls, Reaches}
use Rattle.guard_check.specs.CallGraphs.{plain_calls, all_calls}
use Rattle.guard_check.proofs.CallLemmas.{same_calls}
use Rattle.guard_check.proofs.GuardLemmas.{reaches_on}
use Rattle.lps_core.specs.Fitting.{IsTermOf, sort_of_variable}
use Rattle.lps_core.specs.TreeSummands.{numbers_of}
use Rattle.lps_core.proofs.Staying.{term_is}
use Rattle.lps_core.proofs.Members.{all_at}
use Rattle.proc_unfold.specs.Parallel.{IsParallelName, IsSequential}
use Rattle.proc_unfold.specs.ParallelTests.{none_marked, is_sequential}
use Rattle.proc_unfold.specs.Unfolding.{Unfolds, kept, opened, merged, begun, under as unfolds_under}
use Rattle.proc_unfold.specs.Networks.{PlainNetwork, PlainNetworks, network_body, network_bodies, AllComponents, AllComponentsOfEach}
use Rattle.proc_unfold.specs.PutTerms.{IsPutIn, put_call}
use Rattle.proc_unfold.specs.FittingModels.{TermsFit, CallFits, ProcessFits, ProcessesFit, DefinitionFits, ModelFits}
use Rattle.proc_unfold.specs.Unfolded.{IsComponentOf}
use Rattle.proc_unfold.specs.Opening.{Opens, AllOpen, term_kept, call_kept, call_opened, beside, one_choice, one_step, left_merged, synced, no_sum, within, none_open, more_open}
use Rattle.proc_unfold.proofs.ParallelLemmas.{sequential_tells}
use Rattle.proc_unfold.proofs.PutBodies.{env_of, IsFixed, AreFixedOrOpen, through_first, terms_mean, put_same}
use Rattle.proc_unfold.proofs.PutFits.{Covers, put_calls, put_parallel, terms_fit, put_fits}

-- ---- networks of chains
data AllUnfold (th : Theory) (d : Table) (e : Environment) : List Body → List Body → Type 0 where
  none_unfold : AllUnfold th d e [] []
  more_unfold : {p n : Body} {ps ns : List Body} → Unfolds th d e p n → AllUnfold th d e ps ns → AllUnfold th d e (p ∷ ps) (n ∷ ns)

merged_unfolds : {th : Theory} {d : Table} {e : Environment} {p n : Body} {ps ns : List Body} → Unfolds th d e p n → AllUnfold th d e ps ns → Unfolds th d e (merged_with p ps) (merged_with n ns)
merged_unfolds h none_unfold = h
merged_unfolds h (more_unfold i k) = merged_unfolds (merged h i) k

merge_unfolds : {th : Theory} {d : Table} {e : Environment} {ps ns : List Body} → AllUnfold th d e ps ns → Unfolds th d e (merge_of ps) (merge_of ns)
merge_unfolds none_unfold = kept (λ h. h, λ x i is. none_contained x i) same_delta
merge_unfolds (more_unfold h k) = merged_unfolds h k

synced_unfolds : {th : Theory} {d : Table} {e : Environment} {p n : Body} {ps ns : List Body} → Unfolds th d e p n → AllUnfold th d e ps ns → Unfolds th d e (synced_with p ps) (synced_with n ns)
synced_unfolds h none_unfold = h
synced_unfolds h (more_unfold i k) = synced_unfolds (begun h i) k

sync_unfolds : {th : Theory} {d : Table} {e : Environment} {ps ns : List Body} → AllUnfold th d e ps ns → Unfolds th d e (sync_of ps) (sync_of ns)
sync_unfolds none_unfold = kept (λ h. h, λ x i is. none_contained x i) same_delta
sync_unfolds (more_unfold h k) = synced_unfolds h k

-- ---- what is reached
path_reached : (d : Table) (p : Body) (y : ℕ) (xs : List ℕ) (x : ℕ) → Reaches d p y → IsPath (Calls Everywhere d) y xs x → Reaches d p x
path_reached d p y [] x r link = reaches_on Everywhere d p y x r link
path_reached d p y (z ∷ xs) x r path = path_reached d p z xs x (reaches_on Everywhere d p y z r path.0) path.1

reached_from : (d : Table) (p q : Body) → ((x : ℕ) → Contains (calls Everywhere q) x → Reaches d p x) → (x : ℕ) → Reaches d q x → Reaches d p x
reached_from d p q all x r = ⊎_elim (λ i. all x i) (λ i. path_reached d p i.0 i.2.0 x (all i.0 i.1) i.2.1) r

-- ---- closed terms
mutual
  over_nothing : (t : Term) → IsOver [] t → IsClosed t
  over_nothing (variable v) h = absurd (contains_nothing v h)
  over_nothing (numeral a z) h = tt
  over_nothing (unknown d k) h = tt
  over_nothing (application f ts) h = all_over_nothing ts h

  all_over_nothing : (ts : Terms) → AreOver [] ts → AreClosed ts
  all_over_nothing none h = tt
  all_over_nothing (more t ts) h = (over_nothing t h.0, all_over_nothing ts h.1)

env_zip : (g : Entries) (xs : List VarId) (ids : List TermId) → env_of g (zip xs ids) ≡ bound (numbers_of xs) (map (term_at g) ids)
env_zip g [] [] = refl
env_zip g [] (t ∷ ids) = refl
env_zip g (x ∷ xs) [] = refl
env_zip g (x ∷ xs) (t ∷ ids) = ap (λ e. record { var = x.0; term = term_at g t } ∷ e) (env_zip g xs ids)

module _ (s : Sig) (stands : IsSignature s) (ts : List Tree) where
  abbrev g : Entries
  g = entries_of s ts

  closed_fixed : (id : TermId) (a : SortId) → IsTermOf s ts a id → ReadsOnly g [] id → IsFixed (term_at g id)
  closed_fixed id a h over e =
      closed_terms_stay (data_meant s) e (term_at g id) (sort_under s a)
      (closed_terms_need_no_variables (data_meant s) (variable_sorts s) (term_at g id) (sort_under s a) (over_nothing (term_at g id) over)
      (subst (λ t. HasSort (data_meant s) (variable_sorts s) t (sort_under s a)) (sym (term_is s ts id h.within)) (sorted_trees_mean_sorted_terms s stands.table (tree_at ts id) a h.sorted)))

  sorted_long : (us : List Tree) (ss : List SortId) → HaveTreeSorts s (trees_of us) ss → length us ≡ length ss
  sorted_long [] [] h = refl
  sorted_long [] (a ∷ ss) h = absurd h
  sorted_long (u ∷ us) [] h = absurd h
  sorted_long (u ∷ us) (a ∷ ss) h = ap suc (sorted_long us ss h.1)

  sort_is : (x : VarId) (a : SortId) → IsVariableOf s x a → sort_of_variable s x ≡ a
  sort_is x a h = ap (λ (v : Variable). v.sort) (get_or_from_slice_get s.variables x.0 h.0 (record { name = record { 0 = 0 }; sort = bool_sort }) h.1) ∙ h.2

  -- what is put in for the variables of a scope
  pub record Binds (xs : List VarId) (by : List (VarId × TermId)) : Type 0 where
    pub inside : AreIn ts (listed_terms by)
    pub sorted : HaveVariableSorts s ts by
    pub fixed : AreFixedOrOpen (env_of g by)
    pub covers : Covers s stands ts xs [] by

  pub binds_nothing : Binds [] []
  binds_nothing = record {
    inside = All-nil (IsIn ts);
    sorted = All-nil (λ (b : VarId × TermId). (a : SortId) → IsVariableOf s b.0 a → HasTreeSort s (tree_at ts b.1) a);
    fixed = λ v. inr refl;
    covers = λ v i. absurd (contains_nothing v i);
  }

  binds_one : (x : VarId) (id : TermId) (xs : List VarId) (by : List (VarId × TermId)) → IsTermOf s ts (sort_of_variable s x) id → ReadsOnly g [] id → Binds xs by → Binds (x ∷ xs) ((x, id) ∷ by)
  binds_one x id xs by h over k = record {
    inside = All-cons (IsIn ts) id (listed_terms by) h.within k.inside;
    sorted = All-cons (λ (b : VarId × TermId). (a : SortId) → IsVariableOf s b.0 a → HasTreeSort s (tree_at ts b.1) a) (x, id) by (λ a is. subst (HasTreeSort s (tree_at ts id)) (sort_is x a is) h.sorted) k.sorted;
    fixed = λ v. elim (x.0 == v) as (λ c. IsFixed (by_test c (term_at g id) (term_in (env_of g by) v)) ⊎ (by_test c (term_at g id) (term_in (env_of g by) v) ≡ variable v)) [ true ↦ inl (closed_fixed id (sort_of_variable s x) h over) | false ↦ k.fixed v ];
    covers = λ v i. elim (eqb_tells x.0 v) [
      | inl same ↦ subst (λ c. IsOver [] (by_test c (term_at g id) (term_in (env_of g by) v))) (sym same.0) over
      | inr other ↦ subst (λ c. IsOver [] (by_test c (term_at g id) (term_in (env_of g by) v))) (sym other.0) (k.covers v (⊎_elim (λ e. absurd (other.1 e)) (λ j. j) (contains_cases x.0 v (numbers_of xs) i)))
    ];
  }

  binds_call : (xs : List VarId) (ids : List TermId) → TermsFit s ts [] (map (sort_of_variable s) xs) ids → Binds xs (zip xs ids)
  binds_call [] ids h = binds_nothing
  binds_call (x ∷ xs) [] h = absurd h.terms.sorted
  binds_call (x ∷ xs) (id ∷ ids) h =
      binds_one x id xs (zip xs ids) (record { within = All-head (IsIn ts) id ids h.terms.within; sorted = h.terms.sorted.0 }) (All-head (ReadsOnly g []) id ids h.over)
      (binds_call xs ids (record { terms = record { within = All-tail (IsIn ts) id ids h.terms.within; sorted = h.terms.sorted.1 }; over = All-tail (ReadsOnly g []) id ids h.over }))

  module _ (ds : List PlainDefinition) (fit : All (DefinitionFits s ts ds) ds) (marks : List Bool) (marks_are : (x : ℕ) → IsMarked marks x ↔ IsParallelName (table_of g ds) x) where
    abbrev d : Table
    d = table_of g ds

    sequential_is : (p : PlainProcess) → is_sequential marks p ≡ true → IsSequential d (body_of g p)
    sequential_is p e = let h = sequential_tells g marks p e in (h.0, λ x i is. h.1 x i ((marks_are x).1 is))

    call_sequential : (x : ProcId) (us : List Term) → (IsMarked marks x.0 → ⊥) → IsSequential d (written_call x.0 us)
    call_sequential x us not_so = (λ h. h, λ y i is. not_so ((marks_are x.0).1 (subst (IsParallelName d) (only_one x.0 y i) is)))

    at_definition : (x : ℕ) (f : PlainDefinition) → slice_get ds x ≡ Some f → slice_get d x ≡ Some (definition_of g f)
    at_definition x f at = slice_get-map (definition_of g) ds x ∙ ap (option_map (definition_of g)) at

    call_fits : (x : ProcId) (ids : List TermId) (xs : List VarId) (f : PlainDefinition) → slice_get ds x.0 ≡ Some f → CallFits s ts ds xs x ids → TermsFit s ts xs (map (sort_of_variable s) f.params) ids
    call_fits x ids xs f at h =
        let both : Some h.definition ≡ Some f = sym h.stands ∙ at in
        let same : h.definition ≡ f = cc in
        subst (λ (c : PlainDefinition). TermsFit s ts xs (map (sort_of_variable s) c.params) ids) same h.args

    mutual
      pub opens_unfolds : (th : Theory) {by : List (VarId × TermId)} {p : PlainProcess} {n : PlainNetwork} → Opens ds marks ts by p n → (xs : List VarId) → Binds xs by → ProcessFits s ts ds xs p → Unfolds th d (env_of g by) (body_of g p) (network_body g n)
      opens_unfolds th (term_kept {by = by} {p = p} e h) xs b k = kept (sequential_is p e) (put_same s stands.table ts th h b.inside b.fixed (env_of g by) [] (through_first (env_of g by) b.fixed))
      opens_unfolds th (call_kept {by = by} {x = x} {us = us} not_so h) xs b k =
          kept (call_sequential x (map (term_at g) us) not_so) (put_same s stands.table ts th (put_call {x = x} h) b.inside b.fixed (env_of g by) [] (through_first (env_of g by) b.fixed))
      opens_unfolds th (call_opened {by = by} {x = x} {us = us} {vs = vs} {n = n} f at marked h o) xs b k =
          let args = call_fits x us xs f at k in
          let made : TermsFit s ts [] (map (sort_of_variable s) f.params) vs = terms_fit s stands ts by b.inside b.sorted xs [] b.covers (map (sort_of_variable s) f.params) us vs h args in
          let env : env_of g (zip f.params vs) ≡ bound (numbers_of f.params) (map (put (term_in (env_of g by))) (map (term_at g) us)) = env_zip g f.params vs ∙ ap (bound (numbers_of f.params)) (terms_mean s stands.table ts by b.inside us vs h) in
          let long : length (map (term_at g) us) ≡ length (numbers_of f.params) =
          length-map us (term_at g) ∙ (sym (length-map us (tree_at ts)) ∙ (sorted_long (trees_at ts us) (map (sort_of_variable s) f.params) args.terms.sorted ∙ (length-map f.params (sort_of_variable s) ∙ sym (length-map f.params (λ (x : VarId). x.0))))) in
          opened (definition_of g f) (at_definition x.0 f at) ((marks_are x.0).0 marked) long
          (subst (λ e. Unfolds th d e (body_of g f.body) (network_body g n)) env (opens_unfolds th o f.params (binds_call f.params vs made) (all_at (DefinitionFits s ts ds) ds x.0 f fit at).body))
      opens_unfolds th (beside h) xs b k = merge_unfolds (all_unfold th h xs b k)
      opens_unfolds th (one_choice {ps = no_processes} one h) xs b k = cc
      opens_unfolds th (one_choice {ps = more_processes p no_processes} one (more_open h none_open)) xs b k = opens_unfolds th h xs b k.0
      opens_unfolds th (one_choice {ps = more_processes p (more_processes q ps)} one h) xs b k = cc
      opens_unfolds th (one_step {ps = no_processes} one h) xs b k = cc
      opens_unfolds th (one_step {ps = more_processes p no_processes} one (more_open h none_open)) xs b k = opens_unfolds th h xs b k.0
      opens_unfolds th (one_step {ps = more_processes p (more_processes q ps)} one h) xs b k = cc
      opens_unfolds th (left_merged h i) xs b k = begun (opens_unfolds th h xs b k.0) (opens_unfolds th i xs b k.1)
      opens_unfolds th (synced h) xs b k = sync_unfolds (all_unfold th h xs b k)
      opens_unfolds th (no_sum h) xs b k = opens_unfolds th h xs b k.1
      opens_unfolds th (within h) xs b k = unfolds_under (opens_unfolds th h xs b k.1)

      all_unfold : (th : Theory) {by : List (VarId × TermId)} {ps : PlainProcesses} {ns : PlainNetworks} → AllOpen ds marks ts by ps ns → (xs : List VarId) → Binds xs by → ProcessesFit s ts ds xs ps → AllUnfold th d (env_of g by) (bodies_of g ps) (network_bodies g ns)
      all_unfold th none_open xs b k = none_unfold
      all_unfold th (more_open h i) xs b k = more_unfold (opens_unfolds th h xs b k.0) (all_unfold th i xs b k.1)

-- ---- components
module _ (s : Sig) (stands : IsSignature s) (ts : List Tree) (m : PlainModel) (fits : ModelFits s ts m) (marks : List Bool) (marks_are : (x : ℕ) → IsMarked marks x ↔ IsParallelName (table_of (entries_of s ts) m.definitions) x) where
  abbrev entries : Entries
  entries = entries_of s ts

  abbrev table : Table
  table = table_of entries m.definitions

  abbrev IsFromInit : ℕ → Type 0
  IsFromInit x = Reaches table (body_of entries m.init) x

  abbrev AreFromInit : List ℕ → Type 0
  AreFromInit xs = (x : ℕ) → Contains xs x → IsFromInit x

  -- reached names are those that the component reaches
  from_calls : (q : PlainProcess) → AreFromInit (plain_calls Everywhere q) → (x : ℕ) → Reaches table (body_of entries q) x → IsFromInit x
  from_calls q all x r = reached_from table (body_of entries m.init) (body_of entries q) (λ y i. all y (subst (λ l. Contains l y) (sym (same_calls Everywhere entries q)) i)) x r

  still_sequential : {by : List (VarId × TermId)} {p q : PlainProcess} → IsPutIn ts by p q → is_sequential marks p ≡ true → is_sequential marks q ≡ true
  still_sequential h e = (λ i. not (put_parallel h i) && none_marked marks (put_calls h i)) ∙ e

  mutual
    pub opens_components : {by : List (VarId × TermId)} {p : PlainProcess} {n : PlainNetwork} → Opens m.definitions marks ts by p n → (xs : List VarId) → Binds s stands ts xs by → ProcessFits s ts m.definitions xs p → AreFromInit (plain_calls Everywhere p) → AllComponents (IsComponentOf s ts m) n
    opens_components (term_kept {p = p} {q = q} e h) xs b k r = record {
      fits = put_fits s stands ts m.definitions h b.inside b.sorted xs [] b.covers k;
      sequential = sequential_is s stands ts m.definitions fits.definitions marks marks_are q (still_sequential h e);
      reached = from_calls q (λ x i. r x (subst (λ l. Contains l x) (put_calls h) i));
    }
    opens_components (call_kept {by = by} {x = x} {us = us} {vs = vs} not_so h) xs b k r = record {
      fits = put_fits s stands ts m.definitions (put_call {x = x} h) b.inside b.sorted xs [] b.covers k;
      sequential = call_sequential s stands ts m.definitions fits.definitions marks marks_are x (map (term_at entries) vs) not_so;
      reached = from_calls (call x vs) r;
    }
    opens_components (call_opened {by = by} {x = x} {us = us} {vs = vs} f at marked h o) xs b k r =
        let args = call_fits s stands ts m.definitions fits.definitions marks marks_are x us xs f at k in
        let made : TermsFit s ts [] (map (sort_of_variable s) f.params) vs = terms_fit s stands ts by b.inside b.sorted xs [] b.covers (map (sort_of_variable s) f.params) us vs h args in
        opens_components o f.params (binds_call s stands ts f.params vs made) (all_at (DefinitionFits s ts m.definitions) m.definitions x.0 f fits.definitions at).body
        (λ y i. reaches_on Everywhere table (body_of entries m.init) x.0 y (r x.0 (contains_last x.0)) (definition_of entries f, at_definition s stands ts m.definitions fits.definitions marks marks_are x.0 f at, subst (λ l. Contains l y) (same_calls Everywhere entries f.body) i))
    opens_components (beside h) xs b k r = all_components h xs b k r
    opens_components (one_choice one h) xs b k r = all_components h xs b k r
    opens_components (one_step one h) xs b k r = all_components h xs b k r
    opens_components (left_merged {p = p} {q = q} h i) xs b k r =
        (opens_components h xs b k.0 (λ x j. r x (Contains-append_left (plain_calls Everywhere p) (plain_calls Everywhere q) x j)), opens_components i xs b k.1 (λ x j. r x (Contains-append_right (plain_calls Everywhere p) (plain_calls Everywhere q) x j)))
    opens_components (synced h) xs b k r = all_components h xs b k r
    opens_components (no_sum h) xs b k r = opens_components h xs b k.1 r
    opens_components (within h) xs b k r = opens_components h xs b k.1 r

    all_components : {by : List (VarId × TermId)} {ps : PlainProcesses} {ns : PlainNetworks} → AllOpen m.definitions marks ts by ps ns → (xs : List VarId) → Binds s stands ts xs by → ProcessesFit s ts m.definitions xs ps → AreFromInit (all_calls Everywhere ps) → AllComponentsOfEach (IsComponentOf s ts m) ns
    all_components none_open xs b k r = tt
    all_components (more_open {p = p} {ps = ps} h i) xs b k r =
        (opens_components h xs b k.0 (λ x j. r x (Contains-append_left (plain_calls Everywhere p) (all_calls Everywhere ps) x j)), all_components i xs b k.1 (λ x j. r x (Contains-append_right (plain_calls Everywhere p) (all_calls Everywhere ps) x j)))
