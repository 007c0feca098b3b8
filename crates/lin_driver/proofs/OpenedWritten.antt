-- What the components of an opened network write are instances of what the specification writes.
use Rattle.std.proofs.Common.{◌≡◌, ◌||◌, true, Bool, false, cond as by_test, ℕ, List, [], ◌∷◌, ◌++◌, map, length, refl, sym, ap, ◌∙◌, subst, ⊎_elim, arith, Some}
use Rattle.std.specs.Prelude.{Contains, flat_map, slice_get, not}
use Rattle.std.specs.List.{All, AllByRecursion, zip}
use Rattle.std.proofs.lemmas.Bool.Decides.{eqb_tells}
use Rattle.std.proofs.lemmas.List.{length-map}
use Rattle.std.proofs.lemmas.List.Elements.{All-nil, All-cons, All-head, All-tail, All-filter, Contains-append_cases, Contains-append_left, Contains-append_right}
use Rattle.data_theory.specs.declared.ids.VarId.{VarId}
use Rattle.data_theory.specs.declared.ids.TermId.{TermId}
use Rattle.data_theory.specs.Terms.{Sort, Term, put}
use Rattle.data_theory.specs.Declarations.{Declares, HasSort, HaveSorts}
use Rattle.data_theory.specs.EqualityLaws.{Grows}
use Rattle.data_theory.specs.Environments.{Environment, term_in, bound, terms_of, IsOver}
use Rattle.data_theory.specs.Signature.{Sig}
use Rattle.data_theory.specs.WholeSignatures.{IsSignature}
use Rattle.data_theory.specs.IdData.{data_meant}
use Rattle.data_theory.specs.IdTerms.{variable_sorts}
use Rattle.data_theory.specs.IdTrees.{Tree}
use Rattle.term_pool.specs.Bindings.{listed, listed_terms}
use Rattle.term_pool.specs.HeadTrees.{IsIn, AreIn}
use Rattle.process_terms.specs.Labels.{Action, Label, put_label}
use Rattle.process_terms.specs.Meanings.{Entries, bound_at, term_at, label_of, around_of, body_of, bodies_of, component_body}
use Rattle.process_terms.specs.PlainProcesses.{PlainAround, PlainProcess, PlainProcesses, allow, block, hide, rename, comm, PlainDefinition, PlainComponent}
use Rattle.process_terms.specs.Processes.{Bound, Body, written_delta, written_choice, written_seq, written_call, sums_around}
use Rattle.process_terms.specs.SignatureEntries.{entries_of}
use Rattle.bisim_laws.specs.LinearProcesses.{variables, sorts, AreDeclared}
use Rattle.bisim_laws.proofs.Firing.{contains_first, contains_later, contains_cases, contains_none}
use Rattle.lps_core.specs.Fitting.{IsVariable, sort_of_variable}
use Rattle.lps_core.specs.MadeTerms.{Written, both_written, is_comm, written_in, Origin, AreMade, none_made, more_made, IsMade, of_a_call, an_instance}
use Rattle.lps_core.specs.TreeSummands.{numbers_of, meant_action}
use Rattle.lps_core.proofs.Environments.{later_in}
use Rattle.lps_core.proofs.GrowingData.{terms_grown}
use Rattle.lps_core.proofs.Members.{contains_map}
use Rattle.lps_core.proofs.OverVariables.{over_more}
use Rattle.lps_core.proofs.MeantTrees.{label_means, label_read}
use Rattle.lps_core.proofs.SortedTerms.{HaveTerms, one_sort, closed_instance, sorts_long}
use Rattle.lps_core.proofs.Staying.{terms_sorted, sorts_of_variables, variables_declared}
use Rattle.proc_unfold.specs.FittingModels.{TermsFit, ProcessFits, ProcessesFit, DefinitionFits}
use Rattle.proc_unfold.specs.Networks.{PlainNetwork, PlainNetworks, AllComponents, AllComponentsOfEach}
use Rattle.proc_unfold.specs.Opening.{Opens, term_kept, call_kept, call_opened, beside, one_choice, one_step, left_merged, synced, no_sum, within, AllOpen, none_open, more_open}
use Rattle.proc_unfold.specs.PutTerms.{is_among, without, ArePut, IsPutIn, put_delta, put_act, put_call, put_choice, put_seq, put_cond, put_sum, put_merge, put_left, put_sync, put_around, ArePutIn, none_put, more_put}
use Rattle.proc_unfold.proofs.PutBodies.{env_of, listed_without, listed_means, term_means, terms_mean}
use Rattle.stack_encoder.proofs.WiderOrigins.{AreInstancesOf, some_are_instances}
use Rattle.regular_encoder.proofs.FirstTerms.{some_is}
use Rattle.lin_driver.specs.PlainlyMade.{IsCommWritten, AreCommsWritten, AreCommsWrittenBeside}
use Rattle.lin_driver.proofs.BodyLists.{chain_holds, chain_parts, merge_holds, merge_parts, sync_holds, sync_parts}
use Rattle.lin_driver.proofs.ComposedInstances.{HasClosedTerms, closed_lists_fit, instances_compose}

-- ---- all of the first is in the second
pub record IsSomeOf (v w : Written) : Type 0 where
  pub sums : (s : Sort) → Contains v.sums s → Contains w.sums s
  pub conditions : (c : Term) → Contains v.conditions c → Contains w.conditions c
  pub action_arguments : (t : Term) → Contains v.action_arguments t → Contains w.action_arguments t
  pub call_arguments : (t : Term) → Contains v.call_arguments t → Contains w.call_arguments t
  pub communicates : v.communicates ≡ true → w.communicates ≡ true

either_left : (a b : Bool) → a ≡ true → (a || b) ≡ true
either_left true b e = refl
either_left false b e = cc

either_right : (a b : Bool) → b ≡ true → (a || b) ≡ true
either_right true b e = refl
either_right false b e = e

either_cases : (a b : Bool) (P : Type 0) → (a ≡ true → P) → (b ≡ true → P) → (a || b) ≡ true → P
either_cases true b P f g e = f refl
either_cases false b P f g e = g e

pub both_some : (u v w : Written) → IsSomeOf (both_written u v) w → IsSomeOf u w × IsSomeOf v w
both_some u v w h = (
  record {
    sums = λ s i. h.sums s (Contains-append_left u.sums v.sums s i);
    conditions = λ c i. h.conditions c (Contains-append_left u.conditions v.conditions c i);
    action_arguments = λ t i. h.action_arguments t (Contains-append_left u.action_arguments v.action_arguments t i);
    call_arguments = λ t i. h.call_arguments t (Contains-append_left u.call_arguments v.call_arguments t i);
    communicates = λ e. h.communicates (either_left u.communicates v.communicates e);
  },
  record {
    sums = λ s i. h.sums s (Contains-append_right u.sums v.sums s i);
    conditions = λ c i. h.conditions c (Contains-append_right u.conditions v.conditions c i);
    action_arguments = λ t i. h.action_arguments t (Contains-append_right u.action_arguments v.action_arguments t i);
    call_arguments = λ t i. h.call_arguments t (Contains-append_right u.call_arguments v.call_arguments t i);
    communicates = λ e. h.communicates (either_right u.communicates v.communicates e);
  },
)

-- ---- each of the first is an instance of one that the origin has
pub record AreInstances (o : Origin) (v : Written) : Type 0 where
  pub sums : (s : Sort) → Contains v.sums s → Contains o.written.sums s
  pub conditions : AreInstancesOf o v.conditions o.written.conditions
  pub action_arguments : AreInstancesOf o v.action_arguments o.written.action_arguments
  pub call_arguments : AreInstancesOf o v.call_arguments o.written.call_arguments
  pub communicates : v.communicates ≡ true → o.written.communicates ≡ true

no_instances : (o : Origin) (us : List Term) → AreInstancesOf o [] us
no_instances o us ps xs t u i k = absurd (contains_none t i)

more_instances : (o : Origin) (ts vs us : List Term) → AreInstancesOf o ts us → AreInstancesOf o vs us → AreInstancesOf o (ts ++ vs) us
more_instances o ts vs us h k ps xs t u i j = ⊎_elim (λ c. h ps xs t u c j) (λ c. k ps xs t u c j) (Contains-append_cases ts vs t i)

pub no_part : (o : Origin) → AreInstances o (written_in written_delta)
no_part o = record {
  sums = λ s i. absurd (contains_none s i);
  conditions = no_instances o o.written.conditions;
  action_arguments = no_instances o o.written.action_arguments;
  call_arguments = no_instances o o.written.call_arguments;
  communicates = λ e. cc;
}

pub both_parts : (o : Origin) (u v : Written) → AreInstances o u → AreInstances o v → AreInstances o (both_written u v)
both_parts o u v h k = record {
  sums = λ s i. ⊎_elim (λ c. h.sums s c) (λ c. k.sums s c) (Contains-append_cases u.sums v.sums s i);
  conditions = more_instances o u.conditions v.conditions o.written.conditions h.conditions k.conditions;
  action_arguments = more_instances o u.action_arguments v.action_arguments o.written.action_arguments h.action_arguments k.action_arguments;
  call_arguments = more_instances o u.call_arguments v.call_arguments o.written.call_arguments h.call_arguments k.call_arguments;
  communicates = λ e. either_cases u.communicates v.communicates (o.written.communicates ≡ true) h.communicates k.communicates e;
}

pub some_are_parts : (o : Origin) (v : Written) → IsSomeOf v o.written → AreInstances o v
some_are_parts o v h = record {
  sums = h.sums;
  conditions = some_are_instances o v.conditions o.written.conditions h.conditions;
  action_arguments = some_are_instances o v.action_arguments o.written.action_arguments h.action_arguments;
  call_arguments = some_are_instances o v.call_arguments o.written.call_arguments h.call_arguments;
  communicates = h.communicates;
}

-- the first terms are the second ones with closed terms put in
abbrev AreThesePut : Environment → List Term → List Term → Type 0
AreThesePut e vs us = (v : Term) → Contains vs v → (t : Term) × Contains us t × (v ≡ put (term_in e) t)

put_instances : (o : Origin) (e : Environment) → HasClosedTerms o e → (vs ts us : List Term) → AreThesePut e vs ts → ((t : Term) → Contains ts t → Contains us t) → AreInstancesOf o vs us
put_instances o e k vs ts us h among ps xs v u i j = let r = h v i in record { term = r.0; among = among r.0 r.1; instance = instances_compose o e k ps xs r.0 v u r.2 j }

mapped_put : (e : Environment) (ts : List Term) → AreThesePut e (map (put (term_in e)) ts) ts
mapped_put e ts v i = let r = contains_map (put (term_in e)) ts v i in (r.0, r.1.0, r.1.1)

abbrev arguments_in : Label → List Term
arguments_in m = flat_map (λ (a : Action). a.args) m

label_put : (e : Environment) (m : Label) → AreThesePut e (arguments_in (put_label e m)) (arguments_in m)
label_put e [] v i = absurd (contains_none v i)
label_put e (a ∷ m) v i = ⊎_elim
    (λ c. let r = mapped_put e a.args v c in (r.0, Contains-append_left a.args (arguments_in m) r.0 r.1, r.2))
    (λ c. let r = label_put e m v c in (r.0, Contains-append_right a.args (arguments_in m) r.0 r.1, r.2))
    (Contains-append_cases (map (put (term_in e)) a.args) (arguments_in (put_label e m)) v i)

-- ---- over the signature at which the network was opened
module _ (b : Sig) (stands : IsSignature b) (ts : List Tree) (o : Origin) (declares : (v : ℕ) (s : Sort) → Declares (variable_sorts b) v s → Declares o.variable_sorts v s) (grows : Grows (data_meant b) o.declared) where
  abbrev e : Entries
  e = entries_of b ts

  -- a variable with a closed made term of its sort
  pub record IsClosedFor (x : VarId × TermId) : Type 0 where
    pub variable : IsVariable b x.0
    pub sorted : HasSort (data_meant b) [] (term_at e x.1) (bound_at e x.0).sort
    pub made : IsMade o [] [] (term_at e x.1)

  abbrev its_variables : List (VarId × TermId) → List Bound
  its_variables by = map (λ (x : VarId × TermId). bound_at e x.0) by

  abbrev its_terms : List (VarId × TermId) → List Term
  its_terms by = map (λ (x : VarId × TermId). term_at e x.1) by

  env_is : (by : List (VarId × TermId)) → env_of e by ≡ bound (variables (its_variables by)) (its_terms by)
  env_is [] = refl
  env_is (x ∷ by) = ap (λ d. record { var = x.0.0; term = term_at e x.1 } ∷ d) (env_is by)

  all_variables : (by : List (VarId × TermId)) → All IsClosedFor by → All (IsVariable b) (map (λ (x : VarId × TermId). x.0) by)
  all_variables [] k = All-nil (IsVariable b)
  all_variables (x ∷ by) k = All-cons (IsVariable b) x.0 (map (λ (x : VarId × TermId). x.0) by) (All-head IsClosedFor x by k).variable (all_variables by (All-tail IsClosedFor x by k))

  all_sorted : (by : List (VarId × TermId)) → All IsClosedFor by → HaveSorts (data_meant b) [] (terms_of (its_terms by)) (sorts (its_variables by))
  all_sorted [] k = tt
  all_sorted (x ∷ by) k = ((All-head IsClosedFor x by k).sorted, all_sorted by (All-tail IsClosedFor x by k))

  all_made : (by : List (VarId × TermId)) → All IsClosedFor by → AreMade o [] [] (its_terms by)
  all_made [] k = none_made
  all_made (x ∷ by) k = more_made (All-head IsClosedFor x by k).made (all_made by (All-tail IsClosedFor x by k))

  bounds_are : (by : List (VarId × TermId)) → map (bound_at e) (map (λ (x : VarId × TermId). x.0) by) ≡ its_variables by
  bounds_are [] = refl
  bounds_are (x ∷ by) = ap (λ xs. bound_at e x.0 ∷ xs) (bounds_are by)

  its_declared : (by : List (VarId × TermId)) → All IsClosedFor by → AreDeclared (variable_sorts b) (its_variables by)
  its_declared by k = subst (AreDeclared (variable_sorts b)) (bounds_are by) (variables_declared b ts (map (λ (x : VarId × TermId). x.0) by) (all_variables by k))

  closed_terms : (by : List (VarId × TermId)) → All IsClosedFor by → HasClosedTerms o (env_of e by)
  closed_terms by k = record {
    vars = its_variables by;
    terms = its_terms by;
    is = env_is by;
    declared = λ x i. declares x.var x.sort (its_declared by k x i);
    sorted = terms_grown (data_meant b) o.declared grows [] (terms_of (its_terms by)) (sorts (its_variables by)) (all_sorted by k);
    made = all_made by k;
  }

  left_closed : (xs : List VarId) (by : List (VarId × TermId)) → All IsClosedFor by → All IsClosedFor (without xs by)
  left_closed xs by k = All-filter (λ (x : VarId × TermId). not (is_among xs x.0)) IsClosedFor by k

  -- ---- process terms with these put in
  abbrev IsWrittenHere : Body → Type 0
  IsWrittenHere p = IsSomeOf (written_in p) o.written

  abbrev HasInstances : Body → Type 0
  HasInstances p = AreInstances o (written_in p)

  calls_put : {by : List (VarId × TermId)} {ids made : List TermId} (x : ℕ) → ArePut ts by ids made → AreIn ts (listed_terms by) → All IsClosedFor by → IsWrittenHere (written_call x (map (term_at e) ids)) → HasInstances (written_call x (map (term_at e) made))
  calls_put {by} {ids} {made} x a inside k h = record {
    sums = λ s i. absurd (contains_none s i);
    conditions = no_instances o o.written.conditions;
    action_arguments = no_instances o o.written.action_arguments;
    call_arguments = put_instances o (env_of e by) (closed_terms by k) (map (term_at e) made) (map (term_at e) ids) o.written.call_arguments
        (subst (λ vs. AreThesePut (env_of e by) vs (map (term_at e) ids)) (sym (terms_mean b stands.table ts by inside ids made a)) (mapped_put (env_of e by) (map (term_at e) ids))) h.call_arguments;
    communicates = λ q. cc;
  }

  sums_kept : (xs : List Bound) (p q : Body) → (IsWrittenHere p → HasInstances q) → IsWrittenHere (sums_around xs p) → HasInstances (sums_around xs q)
  sums_kept [] p q f h = f h
  sums_kept (x ∷ xs) p q f h =
      let one : Written = record { sums = x.sort ∷ []; conditions = []; action_arguments = []; call_arguments = []; communicates = false } in
      let r = both_some one (written_in (sums_around xs p)) o.written h in
      both_parts o one (written_in (sums_around xs q)) (some_are_parts o one r.0) (sums_kept xs p q f r.1)

  mutual
    kept_instances : {by : List (VarId × TermId)} {p q : PlainProcess} → IsPutIn ts by p q → AreIn ts (listed_terms by) → All IsClosedFor by → IsWrittenHere (body_of e p) → HasInstances (body_of e q)
    kept_instances put_delta inside k h = no_part o
    kept_instances (put_act {by = by} {m = m} {n = n} a) inside k h =
        let same : label_of e n ≡ put_label (env_of e by) (label_of e m) =
        label_read b ts n a.within ∙ (ap (map (meant_action b)) a.trees ∙ label_means b stands.table (listed ts by) (env_of e by) (listed_means b stands.table ts by inside) ts m a.read) in
        record {
          sums = λ s i. absurd (contains_none s i);
          conditions = no_instances o o.written.conditions;
          action_arguments = put_instances o (env_of e by) (closed_terms by k) (arguments_in (label_of e n)) (arguments_in (label_of e m)) o.written.action_arguments
              (subst (λ l. AreThesePut (env_of e by) (arguments_in l) (arguments_in (label_of e m))) (sym same) (label_put (env_of e by) (label_of e m))) h.action_arguments;
          call_arguments = no_instances o o.written.call_arguments;
          communicates = λ q. cc;
        }
    kept_instances (put_call {x = x} a) inside k h = calls_put x.0 a inside k h
    kept_instances (put_choice {ps = ps} {qs = qs} a) inside k h =
        chain_holds HasInstances written_choice (no_part o) (λ p q i j. both_parts o (written_in p) (written_in q) i j) (bodies_of e qs)
        (all_kept_instances a inside k (chain_parts IsWrittenHere written_choice (λ p q i. both_some (written_in p) (written_in q) o.written i) (bodies_of e ps) h))
    kept_instances (put_seq {ps = ps} {qs = qs} a) inside k h =
        chain_holds HasInstances written_seq (no_part o) (λ p q i j. both_parts o (written_in p) (written_in q) i j) (bodies_of e qs)
        (all_kept_instances a inside k (chain_parts IsWrittenHere written_seq (λ p q i. both_some (written_in p) (written_in q) o.written i) (bodies_of e ps) h))
    kept_instances (put_cond {by = by} {c = c} {d = d} {p = p} {q = q} {r = r} {s = s} a l m) inside k h =
        let before : Written = record { sums = []; conditions = term_at e c ∷ []; action_arguments = []; call_arguments = []; communicates = false } in
        let after : Written = record { sums = []; conditions = term_at e d ∷ []; action_arguments = []; call_arguments = []; communicates = false } in
        let one = both_some before (both_written (written_in (body_of e p)) (written_in (body_of e q))) o.written h in
        let two = both_some (written_in (body_of e p)) (written_in (body_of e q)) o.written one.1 in
        let same = term_means b stands.table ts by inside c d a in
        both_parts o after (both_written (written_in (body_of e r)) (written_in (body_of e s)))
        (record {
          sums = λ s i. absurd (contains_none s i);
          conditions = put_instances o (env_of e by) (closed_terms by k) (term_at e d ∷ []) (term_at e c ∷ []) o.written.conditions
              (λ v i. (term_at e c, contains_first (term_at e c) [], ⊎_elim (λ q. sym q ∙ same) (λ n. absurd (contains_none v n)) (contains_cases (term_at e d) v [] i))) one.0.conditions;
          action_arguments = no_instances o o.written.action_arguments;
          call_arguments = no_instances o o.written.call_arguments;
          communicates = λ q. cc;
        })
        (both_parts o (written_in (body_of e r)) (written_in (body_of e s)) (kept_instances l inside k two.0) (kept_instances m inside k two.1))
    kept_instances (put_sum {by = by} {xs = xs} {p = p} {q = q} a) inside k h =
        sums_kept (map (bound_at e) xs) (body_of e p) (body_of e q) (λ w. kept_instances a (listed_without ts xs by inside) (left_closed xs by k) w) h
    kept_instances (put_merge {ps = ps} {qs = qs} a) inside k h =
        merge_holds HasInstances (no_part o) (λ p q i j. both_parts o (written_in p) (written_in q) i j) (bodies_of e qs)
        (all_kept_instances a inside k (merge_parts IsWrittenHere (λ p q i. both_some (written_in p) (written_in q) o.written i) (bodies_of e ps) h))
    kept_instances (put_left {p = p} {q = q} {r = r} {s = s} a l) inside k h =
        let both = both_some (written_in (body_of e p)) (written_in (body_of e q)) o.written h in
        both_parts o (written_in (body_of e r)) (written_in (body_of e s)) (kept_instances a inside k both.0) (kept_instances l inside k both.1)
    kept_instances (put_sync {ps = ps} {qs = qs} a) inside k h =
        sync_holds HasInstances (no_part o) (λ p q i j. both_parts o (written_in p) (written_in q) i j) (bodies_of e qs)
        (all_kept_instances a inside k (sync_parts IsWrittenHere (λ p q i. both_some (written_in p) (written_in q) o.written i) (bodies_of e ps) h))
    kept_instances (put_around {o = a} {p = p} {q = q} l) inside k h =
        let one : Written = record { sums = []; conditions = []; action_arguments = []; call_arguments = []; communicates = is_comm (around_of e a) } in
        let r = both_some one (written_in (body_of e p)) o.written h in
        both_parts o one (written_in (body_of e q)) (some_are_parts o one r.0) (kept_instances l inside k r.1)

    all_kept_instances : {by : List (VarId × TermId)} {ps qs : PlainProcesses} → ArePutIn ts by ps qs → AreIn ts (listed_terms by) → All IsClosedFor by → AllByRecursion IsWrittenHere (bodies_of e ps) → AllByRecursion HasInstances (bodies_of e qs)
    all_kept_instances none_put inside k h = tt
    all_kept_instances (more_put a l) inside k h = (kept_instances a inside k h.0, all_kept_instances l inside k h.1)

  -- ---- terms for parameters
  bound_have : (xs : List Bound) (us : List Term) → AreDeclared (variable_sorts b) xs → HaveSorts (data_meant b) [] (terms_of us) (sorts xs) → HaveTerms (data_meant b) (variable_sorts b) (variables xs) (term_in (bound (variables xs) us))
  bound_have [] us d h v s i q = absurd (contains_none v i)
  bound_have (x ∷ xs) [] d h v s i q = absurd h
  bound_have (x ∷ xs) (u ∷ us) d h v s i q = ⊎_elim
      (λ c. subst (λ z. HasSort (data_meant b) [] (by_test z u (term_in (bound (variables xs) us) v)) s) (sym c.0)
      (subst (λ r. HasSort (data_meant b) [] u r) (one_sort (variable_sorts b) v x.sort s (subst (λ z. Declares (variable_sorts b) z x.sort) c.1 (d x (contains_first x xs))) q) h.0))
      (λ c. subst (λ z. HasSort (data_meant b) [] (by_test z u (term_in (bound (variables xs) us) v)) s) (sym c.0)
      (bound_have xs us (λ y j. d y (contains_later x y xs j)) h.1 v s (later_in x.var v (variables xs) c.1 i) q))
      (eqb_tells x.var v)

  -- the arguments of a call over these variables, with closed terms put in, stand for the parameters
  abbrev AreVariablesOf : List VarId → List (VarId × TermId) → Type 0
  AreVariablesOf xs by = (v : ℕ) → Contains (numbers_of xs) v → Contains (variables (its_variables by)) v

  parameters_closed : (by : List (VarId × TermId)) → All IsClosedFor by → (xs : List VarId) → AreVariablesOf xs by → (params : List VarId) (us vs : List TermId) → All (IsVariable b) params
      → HaveSorts (data_meant b) (variable_sorts b) (terms_of (map (term_at e) us)) (sorts (map (bound_at e) params)) → All (λ (u : TermId). IsOver (numbers_of xs) (term_at e u)) us → ((t : Term) → Contains (map (term_at e) us) t → Contains o.written.call_arguments t)
      → map (term_at e) vs ≡ map (put (term_in (env_of e by))) (map (term_at e) us) → All IsClosedFor (zip params vs)
  parameters_closed by k xs scope [] us vs l h i w is = All-nil IsClosedFor
  parameters_closed by k xs scope (x ∷ params) us [] l h i w is = All-nil IsClosedFor
  parameters_closed by k xs scope (x ∷ params) [] (v ∷ vs) l h i w is = cc
  parameters_closed by k xs scope (x ∷ params) (u ∷ us) (v ∷ vs) l h i w is =
      let t = term_at e u in
      let heads : term_at e v ≡ put (term_in (env_of e by)) t = cc in
      let tails : map (term_at e) vs ≡ map (put (term_in (env_of e by))) (map (term_at e) us) = cc in
      let own : put (term_in (bound (variables (its_variables by)) (its_terms by))) t ≡ term_at e v = ap (λ d. put (term_in d) t) (sym (env_is by)) ∙ sym heads in
      let over = over_more (numbers_of xs) (variables (its_variables by)) scope t (All-head (λ (u : TermId). IsOver (numbers_of xs) (term_at e u)) u us i) in
      let closed = closed_terms by k in
      All-cons IsClosedFor (x, v) (zip params vs)
      (record {
        variable = All-head (IsVariable b) x params l;
        sorted = subst (λ z. HasSort (data_meant b) [] z (bound_at e x).sort) own
            (closed_instance (data_meant b) (variable_sorts b) (variables (its_variables by)) (term_in (bound (variables (its_variables by)) (its_terms by))) (bound_have (its_variables by) (its_terms by) (its_declared by k) (all_sorted by k)) t (bound_at e x).sort over h.0);
        made = subst (λ z. IsMade o [] [] z) own (of_a_call (w t (contains_first t (map (term_at e) us)))
            (an_instance (its_variables by) (its_terms by) over (λ y j. declares y.var y.sort (its_declared by k y j))
            (closed_lists_fit o.declared o.variable_sorts (its_terms by) (sorts (its_variables by)) (terms_grown (data_meant b) o.declared grows [] (terms_of (its_terms by)) (sorts (its_variables by)) (all_sorted by k))) (all_made by k)));
      })
      (parameters_closed by k xs scope params us vs (All-tail (IsVariable b) x params l) h.1 (All-tail (λ (u : TermId). IsOver (numbers_of xs) (term_at e u)) u us i) (λ z j. w z (contains_later t z (map (term_at e) us) j)) tails)

  listed_zip : (xs : List VarId) (vs : List TermId) → AreIn ts vs → AreIn ts (listed_terms (zip xs vs))
  listed_zip [] vs w = All-nil (IsIn ts)
  listed_zip (x ∷ xs) [] w = All-nil (IsIn ts)
  listed_zip (x ∷ xs) (v ∷ vs) w = All-cons (IsIn ts) v (listed_terms (zip xs vs)) (All-head (IsIn ts) v vs w) (listed_zip xs vs (All-tail (IsIn ts) v vs w))

  zip_variables : (xs : List VarId) (vs : List TermId) → length vs ≡ length xs → AreVariablesOf xs (zip xs vs)
  zip_variables [] vs l v i = absurd (contains_none v i)
  zip_variables (x ∷ xs) [] l v i = absurd (omega (arith, l))
  zip_variables (x ∷ xs) (u ∷ vs) l v i = ⊎_elim
      (λ q. subst (λ z. Contains (x.0 ∷ variables (its_variables (zip xs vs))) z) q (contains_first x.0 (variables (its_variables (zip xs vs)))))
      (λ j. contains_later x.0 v (variables (its_variables (zip xs vs))) (zip_variables xs vs (omega (arith, l)) v j))
      (contains_cases x.0 v (numbers_of xs) i)

  -- ---- the network
  abbrev pub LeafHasInstances : PlainComponent → Type 0
  LeafHasInstances c = AreInstances o (written_in (component_body e c))

  module _ (ds : List PlainDefinition) (fit : (x : ℕ) (f : PlainDefinition) → slice_get ds x ≡ Some f → DefinitionFits b ts ds f) (written : (x : ℕ) (f : PlainDefinition) → slice_get ds x ≡ Some f → IsSomeOf (written_in (body_of e f.body)) o.written) (marks : List Bool) where
    mutual
      pub opened_instances : {by : List (VarId × TermId)} {p : PlainProcess} {n : PlainNetwork} → Opens ds marks ts by p n → (xs : List VarId) → AreVariablesOf xs by → AreIn ts (listed_terms by) → All IsClosedFor by → ProcessFits b ts ds xs p → IsWrittenHere (body_of e p)
          → AllComponents LeafHasInstances n
      opened_instances (term_kept s a) xs scope inside k f h = kept_instances a inside k h
      opened_instances (call_kept {x = x} u a) xs scope inside k f h = calls_put x.0 a inside k h
      opened_instances (call_opened {by = by} {x = x} {us = us} {vs = vs} d at m a l) xs scope inside k f h =
          let same : f.definition ≡ d = some_is (sym f.stands ∙ at) in
          let own = fit x.0 d at in
          let args = subst (λ (z : PlainDefinition). TermsFit b ts xs (map (sort_of_variable b) z.params) us) same f.args in
          let sorted = subst (λ ss. HaveSorts (data_meant b) (variable_sorts b) (terms_of (map (term_at e) us)) ss) (sym (sorts_of_variables b ts d.params own.params)) (terms_sorted b ts (map (sort_of_variable b) d.params) us stands.table args.terms) in
          let values = terms_mean b stands.table ts by inside us vs a in
          let long : length vs ≡ length d.params =
          sym (length-map vs (term_at e)) ∙ ap length values ∙ length-map (map (term_at e) us) (put (term_in (env_of e by))) ∙ sorts_long (data_meant b) (variable_sorts b) (map (term_at e) us) (sorts (map (bound_at e) d.params)) sorted
          ∙ length-map (map (bound_at e) d.params) (λ (y : Bound). y.sort) ∙ length-map d.params (bound_at e) in
          opened_instances l d.params (zip_variables d.params vs long) (listed_zip d.params vs a.within) (parameters_closed by k xs scope d.params us vs own.params sorted args.over h.call_arguments values) own.body (written x.0 d at)
      opened_instances (beside {ps = ps} l) xs scope inside k f h = all_opened_instances l xs scope inside k f (merge_parts IsWrittenHere (λ p q i. both_some (written_in p) (written_in q) o.written i) (bodies_of e ps) h)
      opened_instances (one_choice {ps = ps} one l) xs scope inside k f h = all_opened_instances l xs scope inside k f (chain_parts IsWrittenHere written_choice (λ p q i. both_some (written_in p) (written_in q) o.written i) (bodies_of e ps) h)
      opened_instances (one_step {ps = ps} one l) xs scope inside k f h = all_opened_instances l xs scope inside k f (chain_parts IsWrittenHere written_seq (λ p q i. both_some (written_in p) (written_in q) o.written i) (bodies_of e ps) h)
      opened_instances (left_merged {p = p} {q = q} l a) xs scope inside k f h =
          let both = both_some (written_in (body_of e p)) (written_in (body_of e q)) o.written h in
          (opened_instances l xs scope inside k f.0 both.0, opened_instances a xs scope inside k f.1 both.1)
      opened_instances (synced {ps = ps} l) xs scope inside k f h = all_opened_instances l xs scope inside k f (sync_parts IsWrittenHere (λ p q i. both_some (written_in p) (written_in q) o.written i) (bodies_of e ps) h)
      opened_instances (no_sum l) xs scope inside k f h = opened_instances l xs scope inside k f.1 h
      opened_instances (within {o = a} {p = p} l) xs scope in_pool k f h =
          opened_instances l xs scope in_pool k f.1 (both_some (record { sums = []; conditions = []; action_arguments = []; call_arguments = []; communicates = is_comm (around_of e a) }) (written_in (body_of e p)) o.written h).1

      all_opened_instances : {by : List (VarId × TermId)} {ps : PlainProcesses} {ns : PlainNetworks} → AllOpen ds marks ts by ps ns → (xs : List VarId) → AreVariablesOf xs by → AreIn ts (listed_terms by) → All IsClosedFor by → ProcessesFit b ts ds xs ps
          → AllByRecursion IsWrittenHere (bodies_of e ps) → AllComponentsOfEach LeafHasInstances ns
      all_opened_instances none_open xs scope inside k f h = tt
      all_opened_instances (more_open a l) xs scope inside k f h = (opened_instances a xs scope inside k f.0 h.0, all_opened_instances l xs scope inside k f.1 h.1)

    -- a `comm` of the network is written
    comm_is_written : (a : PlainAround) → (is_comm (around_of e a) ≡ true → o.written.communicates ≡ true) → IsCommWritten o.written a
    comm_is_written (allow sets) h = tt
    comm_is_written (block names) h = tt
    comm_is_written (hide names) h = tt
    comm_is_written (rename renamings) h = tt
    comm_is_written (comm rules) h = h refl

    mutual
      pub opened_comms : {by : List (VarId × TermId)} {p : PlainProcess} {n : PlainNetwork} → Opens ds marks ts by p n → IsWrittenHere (body_of e p) → AreCommsWritten o.written n
      opened_comms (term_kept s a) h = tt
      opened_comms (call_kept u a) h = tt
      opened_comms (call_opened {x = x} d at m a l) h = opened_comms l (written x.0 d at)
      opened_comms (beside {ps = ps} l) h = all_opened_comms l (merge_parts IsWrittenHere (λ p q i. both_some (written_in p) (written_in q) o.written i) (bodies_of e ps) h)
      opened_comms (one_choice {ps = ps} one l) h = all_opened_comms l (chain_parts IsWrittenHere written_choice (λ p q i. both_some (written_in p) (written_in q) o.written i) (bodies_of e ps) h)
      opened_comms (one_step {ps = ps} one l) h = all_opened_comms l (chain_parts IsWrittenHere written_seq (λ p q i. both_some (written_in p) (written_in q) o.written i) (bodies_of e ps) h)
      opened_comms (left_merged {p = p} {q = q} l a) h = let both = both_some (written_in (body_of e p)) (written_in (body_of e q)) o.written h in (opened_comms l both.0, opened_comms a both.1)
      opened_comms (synced {ps = ps} l) h = all_opened_comms l (sync_parts IsWrittenHere (λ p q i. both_some (written_in p) (written_in q) o.written i) (bodies_of e ps) h)
      opened_comms (no_sum l) h = opened_comms l h
      opened_comms (within {o = a} {p = p} l) h =
          let r = both_some (record { sums = []; conditions = []; action_arguments = []; call_arguments = []; communicates = is_comm (around_of e a) }) (written_in (body_of e p)) o.written h in
          (comm_is_written a r.0.communicates, opened_comms l r.1)

      all_opened_comms : {by : List (VarId × TermId)} {ps : PlainProcesses} {ns : PlainNetworks} → AllOpen ds marks ts by ps ns → AllByRecursion IsWrittenHere (bodies_of e ps) → AreCommsWrittenBeside o.written ns
      all_opened_comms none_open h = tt
      all_opened_comms (more_open a l) h = (opened_comms a h.0, all_opened_comms l h.1)
