-- What process terms with terms put in mean.
use Rattle.std.proofs.Common.{◌≡◌, ◌==◌, ◌||◌, ◌⊎◌, inl, inr, ⊎_elim, ℕ, Bool, true, false, not, cond as by_test, List, [], ◌∷◌, map, refl, sym, ap, ap₂, ◌∙◌, subst}
use Rattle.std.specs.List.{Contains}
use Rattle.std.proofs.lemmas.List.Elements.{All-head, All-tail, All-nil, All-cons}
use Rattle.std.proofs.lemmas.Bool.Decides.{eqb_tells}
use Rattle.data_theory.specs.declared.ids.VarId.{VarId}
use Rattle.data_theory.specs.declared.ids.TermId.{TermId}
use Rattle.data_theory.specs.Terms.{Term, variable, put}
use Rattle.data_theory.specs.Environments.{Environment, term_in}
use Rattle.data_theory.specs.Provable.{reflexive}
use Rattle.data_theory.specs.Signature.{Sig}
use Rattle.data_theory.specs.IdTables.{IsTable}
use Rattle.data_theory.specs.IdTrees.{Tree}
use Rattle.data_theory.specs.IdTerms.{term_under}
use Rattle.data_theory.proofs.EnvironmentLemmas.{putting_in_twice, contains_first, contains_later, contains_cases, contains_nothing}
use Rattle.term_pool.specs.HeadTrees.{tree_at, trees_at, IsIn, AreIn}
use Rattle.term_pool.specs.Bindings.{listed, listed_terms}
use Rattle.process_terms.specs.Theories.{Theory, Equal, Equals}
use Rattle.process_terms.specs.Labels.{Label, put_label, AgreeInOrder}
use Rattle.process_terms.specs.Processes.{Body, written_choice, written_seq, chain_of, merged_with, merge_of, synced_with, sync_of, sums_around}
use Rattle.process_terms.specs.PlainProcesses.{PlainAction, PlainProcess, PlainProcesses}
use Rattle.process_terms.specs.Meanings.{Entries, term_at, bound_at, label_of, body_of, bodies_of}
use Rattle.process_terms.specs.SignatureEntries.{entries_of}
use Rattle.process_terms.proofs.AgreeingLabels.{equals_refl, agree_refl}
use Rattle.bisim_laws.specs.Sameness.{SameBody, same_delta, same_act, same_choice, same_seq, same_cond, same_sum, same_call, same_merge, same_starting, same_around}
use Rattle.lps_core.specs.TreeSummands.{numbers_of, meant_action}
use Rattle.lps_core.proofs.Staying.{term_is, terms_are}
use Rattle.lps_core.proofs.MeantTrees.{Means, put_pointwise, put_means, puts_mean, label_means, label_read}
use Rattle.proc_unfold.specs.PutTerms.{is_among, without, ArePut, IsTermPut, IsLabelPut, IsPutIn, ArePutIn, put_delta, put_act, put_call, put_choice, put_seq, put_cond, put_sum, put_merge, put_left, put_sync, put_around, none_put, more_put}

-- ---- environments
abbrev pub env_of : Entries → List (VarId × TermId) → Environment
env_of g by = map (λ (b : VarId × TermId). record { var = b.0.0; term = term_at g b.1 }) by

-- nothing can be put into the term
abbrev pub IsFixed : Term → Type 0
IsFixed t = (s : ℕ → Term) → put s t ≡ t

-- each variable stands for such a term, or for itself
abbrev pub IsFixedOrOpen : Environment → ℕ → Type 0
IsFixedOrOpen e v = IsFixed (term_in e v) ⊎ (term_in e v ≡ variable v)

abbrev pub AreFixedOrOpen : Environment → Type 0
AreFixedOrOpen e = (v : ℕ) → IsFixedOrOpen e v

-- what e puts in and r then reads is what d reads
abbrev pub Through : Environment → Environment → Environment → Type 0
Through r e d = (v : ℕ) → put (term_in r) (term_in e v) ≡ term_in d v

-- ... but for some variables
abbrev pub ThroughBut : List ℕ → Environment → Environment → Environment → Type 0
ThroughBut xs r e d = (v : ℕ) → Contains xs v ⊎ (put (term_in r) (term_in e v) ≡ term_in d v)

pub term_through : (r e d : Environment) → Through r e d → (t : Term) → put (term_in d) t ≡ put (term_in r) (put (term_in e) t)
term_through r e d h t = sym (putting_in_twice (term_in e) (term_in r) t ∙ put_pointwise (λ v. put (term_in r) (term_in e v)) (term_in d) h t)

terms_through : (r e d : Environment) → Through r e d → (ts : List Term) → map (put (term_in d)) ts ≡ map (put (term_in r)) (map (put (term_in e)) ts)
terms_through r e d h [] = refl
terms_through r e d h (t ∷ ts) = ap₂ (λ u us. u ∷ us) (term_through r e d h t) (terms_through r e d h ts)

label_through : (r e d : Environment) → Through r e d → (m : Label) → put_label d m ≡ put_label r (put_label e m)
label_through r e d h [] = refl
label_through r e d h (a ∷ m) = ap₂ (λ args n. record { name = a.name; sorts = a.sorts; args = args } ∷ n) (terms_through r e d h a.args) (label_through r e d h m)

-- at the start what is put in is read
pub through_first : (e : Environment) → AreFixedOrOpen e → Through [] e e
through_first e f v = ⊎_elim (λ h. h (term_in [])) (λ h. ap (put (term_in [])) h ∙ sym h) (f v)

-- ---- bindings of other variables
module _ (g : Entries) where
  -- what is left of the bindings reads v as the rest does, behind the first of them
  abbrev ReadsAs : List VarId → List (VarId × TermId) → ℕ → Type 0
  ReadsAs xs by v = term_in (env_of g (without xs by)) v ≡ by_test (is_among xs (record { 0 = v })) (variable v) (term_in (env_of g by) v)

  first_left : (xs : List VarId) (b : VarId × TermId) (by : List (VarId × TermId)) (v : ℕ) → b.0.0 ≡ v → (b.0.0 == v) ≡ true → ReadsAs xs by v → (c : Bool) → is_among xs (record { 0 = v }) ≡ c → is_among xs b.0 ≡ c
      → term_in (env_of g (by_test (not c) (b ∷ without xs by) (without xs by))) v ≡ by_test c (variable v) (term_in (env_of g (b ∷ by)) v)
  first_left xs b by v same q rest true e f = rest ∙ ap (λ c. by_test c (variable v) (term_in (env_of g by) v)) e
  first_left xs b by v same q rest false e f = ap (λ c. by_test c (term_at g b.1) (term_in (env_of g (without xs by)) v)) q ∙ sym (ap (λ c. by_test c (term_at g b.1) (term_in (env_of g by) v)) q)

  others_left : (xs : List VarId) (b : VarId × TermId) (by : List (VarId × TermId)) (v : ℕ) → (b.0.0 == v) ≡ false → ReadsAs xs by v → (c : Bool)
      → term_in (env_of g (by_test (not c) (b ∷ without xs by) (without xs by))) v ≡ by_test (is_among xs (record { 0 = v })) (variable v) (term_in (env_of g (b ∷ by)) v)
  others_left xs b by v q rest true = rest ∙ ap (λ t. by_test (is_among xs (record { 0 = v })) (variable v) t) (sym (ap (λ c. by_test c (term_at g b.1) (term_in (env_of g by) v)) q))
  others_left xs b by v q rest false =
      ap (λ c. by_test c (term_at g b.1) (term_in (env_of g (without xs by)) v)) q
      ∙ (rest ∙ ap (λ t. by_test (is_among xs (record { 0 = v })) (variable v) t) (sym (ap (λ c. by_test c (term_at g b.1) (term_in (env_of g by) v)) q)))

  without_one : (xs : List VarId) (by : List (VarId × TermId)) (v : ℕ) → ReadsAs xs by v
  without_one xs [] v = elim (is_among xs (record { 0 = v })) as (λ c. variable v ≡ by_test c (variable v) (variable v)) [ true ↦ refl | false ↦ refl ]
  without_one xs (b ∷ by) v =
      let rest = without_one xs by v in
      ⊎_elim
      (λ same. let own : is_among xs b.0 ≡ is_among xs (record { 0 = v }) = ap (λ (n : ℕ). is_among xs (record { 0 = n })) same.1 in
      subst (λ c. term_in (env_of g (by_test (not c) (b ∷ without xs by) (without xs by))) v ≡ by_test (is_among xs (record { 0 = v })) (variable v) (term_in (env_of g (b ∷ by)) v)) (sym own) (first_left xs b by v same.1 same.0 rest (is_among xs (record { 0 = v })) refl own))
      (λ other. others_left xs b by v other.0 rest (is_among xs b.0))
      (eqb_tells b.0.0 v)

  -- one of these stands for itself, and another one for what it stood for
  pub read_without : (xs : List VarId) (by : List (VarId × TermId)) (v : ℕ)
      → (Contains (numbers_of xs) v × (term_in (env_of g (without xs by)) v ≡ variable v)) ⊎ ((Contains (numbers_of xs) v → ⊥) × (term_in (env_of g (without xs by)) v ≡ term_in (env_of g by) v))
  read_without xs by v = by_case (is_among xs (record { 0 = v })) refl
    where
      among : (xs : List VarId) → is_among xs (record { 0 = v }) ≡ true → Contains (numbers_of xs) v
      among [] e = cc
      among (x ∷ xs) e = elim (eqb_tells x.0 v) [
        | inl same ↦ subst (Contains (numbers_of (x ∷ xs))) same.1 (contains_first x.0 (numbers_of xs))
        | inr other ↦ contains_later x.0 v (numbers_of xs) (among xs (sym (ap (λ b. b || is_among xs (record { 0 = v })) other.0) ∙ e))
      ]

      not_among : (xs : List VarId) → is_among xs (record { 0 = v }) ≡ false → Contains (numbers_of xs) v → ⊥
      not_among [] e i = contains_nothing v i
      not_among (x ∷ xs) e i = elim (eqb_tells x.0 v) [
        | inl same ↦ (let no : ⊥ = cc in no)
        | inr other ↦ ⊎_elim (λ q. other.1 q) (λ j. not_among xs (sym (ap (λ b. b || is_among xs (record { 0 = v })) other.0) ∙ e) j) (contains_cases x.0 v (numbers_of xs) i)
      ]

      by_case : (c : Bool) → is_among xs (record { 0 = v }) ≡ c
          → (Contains (numbers_of xs) v × (term_in (env_of g (without xs by)) v ≡ variable v)) ⊎ ((Contains (numbers_of xs) v → ⊥) × (term_in (env_of g (without xs by)) v ≡ term_in (env_of g by) v))
      by_case true e = inl (among xs e, without_one xs by v ∙ ap (λ c. by_test c (variable v) (term_in (env_of g by) v)) e)
      by_case false e = inr (not_among xs e, without_one xs by v ∙ ap (λ c. by_test c (variable v) (term_in (env_of g by) v)) e)

  pub fixed_without : (xs : List VarId) (by : List (VarId × TermId)) → AreFixedOrOpen (env_of g by) → AreFixedOrOpen (env_of g (without xs by))
  fixed_without xs by f v = elim (read_without xs by v) [
    | inl bound ↦ inr bound.1
    | inr free ↦ ⊎_elim (λ h. inl (subst IsFixed (sym free.1) h)) (λ h. inr (free.1 ∙ h)) (f v)
  ]

  through_without : (xs : List VarId) (by : List (VarId × TermId)) (r d : Environment) → Through r (env_of g by) d → ThroughBut (numbers_of xs) r (env_of g (without xs by)) d
  through_without xs by r d h v = elim (read_without xs by v) [ inl bound ↦ inl bound.0 | inr free ↦ inr (ap (put (term_in r)) free.1 ∙ h v) ]

pub listed_without : (ts : List Tree) (xs : List VarId) (by : List (VarId × TermId)) → AreIn ts (listed_terms by) → AreIn ts (listed_terms (without xs by))
listed_without ts xs [] h = All-nil (IsIn ts)
listed_without ts xs (b ∷ by) h = elim (is_among xs b.0) as (λ c. AreIn ts (listed_terms (by_test (not c) (b ∷ without xs by) (without xs by)))) [
  | true ↦ listed_without ts xs by (All-tail (IsIn ts) b.1 (listed_terms by) h)
  | false ↦ All-cons (IsIn ts) b.1 (listed_terms (without xs by)) (All-head (IsIn ts) b.1 (listed_terms by) h) (listed_without ts xs by (All-tail (IsIn ts) b.1 (listed_terms by) h))
]

-- ---- bodies that are the same place by place, each under its own environment
pub data AllSame (th : Theory) (d e : Environment) : List Body → List Body → Type 0 where
  none_same : AllSame th d e [] []
  more_same : {p q : Body} {ps qs : List Body} → SameBody th d p e q → AllSame th d e ps qs → AllSame th d e (p ∷ ps) (q ∷ qs)

chain_same : {th : Theory} {d e : Environment} {ps qs : List Body} (op : Body → Body → Body) → ((p p' q q' : Body) → SameBody th d p e p' → SameBody th d q e q' → SameBody th d (op p q) e (op p' q')) → AllSame th d e ps qs → SameBody th d (chain_of op ps) e (chain_of op qs)
chain_same op s none_same = same_delta
chain_same op s (more_same h none_same) = h
chain_same op s (more_same h (more_same i k)) = s _ _ _ _ h (chain_same op s (more_same i k))

merged_same : {th : Theory} {d e : Environment} {p q : Body} {ps qs : List Body} → SameBody th d p e q → AllSame th d e ps qs → SameBody th d (merged_with p ps) e (merged_with q qs)
merged_same h none_same = h
merged_same h (more_same i k) = merged_same (same_merge h i) k

merge_same : {th : Theory} {d e : Environment} {ps qs : List Body} → AllSame th d e ps qs → SameBody th d (merge_of ps) e (merge_of qs)
merge_same none_same = same_delta
merge_same (more_same h k) = merged_same h k

synced_same : {th : Theory} {d e : Environment} {p q : Body} {ps qs : List Body} → SameBody th d p e q → AllSame th d e ps qs → SameBody th d (synced_with p ps) e (synced_with q qs)
synced_same h none_same = h
synced_same h (more_same i k) = synced_same (same_starting h i) k

sync_same : {th : Theory} {d e : Environment} {ps qs : List Body} → AllSame th d e ps qs → SameBody th d (sync_of ps) e (sync_of qs)
sync_same none_same = same_delta
sync_same (more_same h k) = synced_same h k

-- a sum binds the same term on both sides
sums_same : (th : Theory) (g : Entries) (xs : List VarId) (e : Environment) → AreFixedOrOpen e → ((v : ℕ) → Contains (numbers_of xs) v → term_in e v ≡ variable v) → (p q : Body)
    → ((d r : Environment) → Through r e d → SameBody th d p r q) → (d r : Environment) → ThroughBut (numbers_of xs) r e d → SameBody th d (sums_around (map (bound_at g) xs) p) r (sums_around (map (bound_at g) xs) q)
sums_same th g [] e f own p q h d r t = h d r (λ v. ⊎_elim (λ i. absurd (contains_nothing v i)) (λ i. i) (t v))
sums_same th g (x ∷ xs) e f own p q h d r t =
    same_sum (λ u. sums_same th g xs e f (λ v i. own v (contains_later x.0 v (numbers_of xs) i)) p q h (record { var = x.0; term = u } ∷ d) (record { var = x.0; term = u } ∷ r) (λ v. bound_now u v))
  where
    bound_now : (u : Term) (v : ℕ) → Contains (numbers_of xs) v ⊎ (put (term_in (record { var = x.0; term = u } ∷ r)) (term_in e v) ≡ by_test (x.0 == v) u (term_in d v))
    bound_now u v = elim (eqb_tells x.0 v) [
      | inl same ↦ inr (ap (put (term_in (record { var = x.0; term = u } ∷ r))) (own v (subst (Contains (numbers_of (x ∷ xs))) same.1 (contains_first x.0 (numbers_of xs)))) ∙ (ap (λ c. by_test c u (term_in r v)) same.0 ∙ sym (ap (λ c. by_test c u (term_in d v)) same.0)))
      | inr other ↦ ⊎_elim
          (λ i. ⊎_elim (λ e. absurd (other.1 e)) (λ j. inl j) (contains_cases x.0 v (numbers_of xs) i))
          (λ i. inr (⊎_elim
          (λ k. k (term_in (record { var = x.0; term = u } ∷ r)) ∙ (sym (k (term_in r)) ∙ (i ∙ sym (ap (λ c. by_test c u (term_in d v)) other.0))))
          (λ k. ap (put (term_in (record { var = x.0; term = u } ∷ r))) k ∙ (ap (λ c. by_test c u (term_in r v)) other.0 ∙ (sym (ap (put (term_in r)) k) ∙ (i ∙ sym (ap (λ c. by_test c u (term_in d v)) other.0)))))
          (f v)))
          (t v)
    ]

-- ---- what is put in means what is put in
module _ (s : Sig) (table : IsTable s) (ts : List Tree) where
  abbrev g : Entries
  g = entries_of s ts

  pub listed_means : (by : List (VarId × TermId)) → AreIn ts (listed_terms by) → Means s (listed ts by) (env_of g by)
  listed_means [] w x = refl
  listed_means (b ∷ by) w x = elim (b.0.0 == x.0) as (λ c. term_under s (by_test c (tree_at ts b.1) (listed ts by x)) ≡ by_test c (term_at g b.1) (term_in (env_of g by) x.0)) [
    | true ↦ sym (term_is s ts b.1 (All-head (IsIn ts) b.1 (listed_terms by) w))
    | false ↦ listed_means by (All-tail (IsIn ts) b.1 (listed_terms by) w) x
  ]

  pub term_means : (by : List (VarId × TermId)) → AreIn ts (listed_terms by) → (id made : TermId) → IsTermPut ts by id made → term_at g made ≡ put (term_in (env_of g by)) (term_at g id)
  term_means by w id made h =
      term_is s ts made h.within ∙ (ap (term_under s) h.tree ∙ (put_means s table (listed ts by) (env_of g by) (listed_means by w) (tree_at ts id) ∙ ap (put (term_in (env_of g by))) (sym (term_is s ts id h.read))))

  pub terms_mean : (by : List (VarId × TermId)) → AreIn ts (listed_terms by) → (ids made : List TermId) → ArePut ts by ids made → map (term_at g) made ≡ map (put (term_in (env_of g by))) (map (term_at g) ids)
  terms_mean by w ids made h =
      terms_are s ts made h.within ∙ (ap (map (term_under s)) h.trees ∙ (puts_mean s table (listed ts by) (env_of g by) (listed_means by w) (trees_at ts ids) ∙ ap (map (put (term_in (env_of g by)))) (sym (terms_are s ts ids h.read))))

  label_meant : (by : List (VarId × TermId)) → AreIn ts (listed_terms by) → (m made : List PlainAction) → IsLabelPut ts by m made → label_of g made ≡ put_label (env_of g by) (label_of g m)
  label_meant by w m made h = label_read s ts made h.within ∙ (ap (map (meant_action s)) h.trees ∙ label_means s table (listed ts by) (env_of g by) (listed_means by w) ts m h.read)

  module _ (th : Theory) where
    equal_through : (r e d : Environment) → Through r e d → (t u : Term) → u ≡ put (term_in e) t → Equal th (put (term_in d) t) (put (term_in r) u)
    equal_through r e d h t u is = subst (λ z. Equal th (put (term_in d) t) z) (term_through r e d h t ∙ ap (put (term_in r)) (sym is)) reflexive

    mutual
      pub put_same : {by : List (VarId × TermId)} {p q : PlainProcess} → IsPutIn ts by p q → AreIn ts (listed_terms by) → AreFixedOrOpen (env_of g by) → (d r : Environment) → Through r (env_of g by) d → SameBody th d (body_of g p) r (body_of g q)
      put_same put_delta w f d r t = same_delta
      put_same (put_act {by = by} {m = m} {n = n} h) w f d r t =
          same_act (subst (λ z. AgreeInOrder th (put_label d (label_of g m)) z) (label_through r (env_of g by) d t (label_of g m) ∙ ap (put_label r) (sym (label_meant by w m n h))) (agree_refl th (put_label d (label_of g m))))
      put_same (put_call {by = by} {ids = ids} {made = made} h) w f d r t =
          same_call (subst (λ z. Equals th (map (put (term_in d)) (map (term_at g) ids)) z) (terms_through r (env_of g by) d t (map (term_at g) ids) ∙ ap (map (put (term_in r))) (sym (terms_mean by w ids made h))) (equals_refl th (map (put (term_in d)) (map (term_at g) ids))))
      put_same (put_choice h) w f d r t = chain_same written_choice (λ p p' q q' h k. same_choice h k) (all_same h w f d r t)
      put_same (put_seq h) w f d r t = chain_same written_seq (λ p p' q q' h k. same_seq h k) (all_same h w f d r t)
      put_same (put_cond {by = by} {c = c} {d = c'} h i k) w f d r t = same_cond (equal_through r (env_of g by) d t (term_at g c) (term_at g c') (term_means by w c c' h)) (put_same i w f d r t) (put_same k w f d r t)
      put_same (put_sum {by = by} {xs = xs} {p = p} {q = q} h) w f d r t =
          sums_same th g xs (env_of g (without xs by)) (fixed_without g xs by f) (λ v i. elim (read_without g xs by v) [ inl bound ↦ bound.1 | inr free ↦ absurd (free.0 i) ]) (body_of g p) (body_of g q)
          (λ d' r' t'. put_same h (listed_without ts xs by w) (fixed_without g xs by f) d' r' t') d r (through_without g xs by r d t)
      put_same (put_merge h) w f d r t = merge_same (all_same h w f d r t)
      put_same (put_left h k) w f d r t = same_starting (put_same h w f d r t) (put_same k w f d r t)
      put_same (put_sync h) w f d r t = sync_same (all_same h w f d r t)
      put_same (put_around h) w f d r t = same_around (put_same h w f d r t)

      all_same : {by : List (VarId × TermId)} {ps qs : PlainProcesses} → ArePutIn ts by ps qs → AreIn ts (listed_terms by) → AreFixedOrOpen (env_of g by) → (d r : Environment) → Through r (env_of g by) d → AllSame th d r (bodies_of g ps) (bodies_of g qs)
      all_same none_put w f d r t = none_same
      all_same (more_put h k) w f d r t = more_same (put_same h w f d r t) (all_same k w f d r t)
