-- Process terms with terms put in are well formed.
use Rattle.std.proofs.Common.{◌≡◌, ◌∙◌, inl, inr, ⊎_elim, ℕ, List, [], ◌∷◌, ◌++◌, map, not, refl, sym, ap, subst}
use Rattle.std.specs.Prelude.{slice_get, Contains, ◌||◌}
use Rattle.std.specs.List.{All}
use Rattle.std.proofs.lemmas.List.{map-append}
use Rattle.std.proofs.lemmas.List.Elements.{All-head, All-tail, All-nil, All-cons, All-filter, Contains-append_cases, Contains-append_left, Contains-append_right}
use Rattle.data_theory.specs.declared.ids.SortId.{SortId}
use Rattle.data_theory.specs.declared.ids.VarId.{VarId}
use Rattle.data_theory.specs.declared.ids.TermId.{TermId}
use Rattle.data_theory.specs.Terms.{put}
use Rattle.data_theory.specs.Environments.{term_in, IsOver}
use Rattle.data_theory.specs.Signature.{Sig}
use Rattle.data_theory.specs.WholeSignatures.{IsSignature}
use Rattle.data_theory.specs.IdTrees.{Tree, put_tree, trees_of}
use Rattle.data_theory.specs.IdTreeSorts.{IsVariableOf, HasTreeSort, HaveTreeSorts}
use Rattle.term_pool.specs.HeadTrees.{tree_at, trees_at, AreIn}
use Rattle.term_pool.specs.Bindings.{listed, listed_terms}
use Rattle.term_pool.specs.TermSorts.{HaveVariableSorts}
use Rattle.term_pool.proofs.KeptSorts.{putting_in_keeps_sorts}
use Rattle.process_terms.specs.PlainProcesses.{PlainAction, PlainProcess, PlainProcesses, PlainDefinition}
use Rattle.process_terms.specs.Meanings.{Entries, ReadsOnly, term_at}
use Rattle.process_terms.specs.SignatureEntries.{entries_of}
use Rattle.guard_check.specs.declared.calls.Extent.TheVariants.{Everywhere}
use Rattle.guard_check.specs.CallGraphs.{plain_calls, all_calls}
use Rattle.lps_core.specs.TreeSummands.{IsActionIn, TreeAction, trees_of_action, trees_of_label, put_in_action, put_actions, numbers_of}
use Rattle.lps_core.proofs.OverVariables.{over_more, put_over}
use Rattle.lps_core.proofs.NamedLinears.{first_functions}
use Rattle.proc_unfold.specs.ParallelTests.{has_two, has_parallel, any_parallel}
use Rattle.proc_unfold.specs.PutTerms.{is_among, without, ArePut, IsTermPut, IsLabelPut, IsPutIn, ArePutIn, put_delta, put_act, put_call, put_choice, put_seq, put_cond, put_sum, put_merge, put_left, put_sync, put_around, none_put, more_put}
use Rattle.proc_unfold.specs.FittingModels.{TermFits, TermsFit, ActionFits, ProcessFits, ProcessesFit}
use Rattle.proc_unfold.proofs.PutBodies.{env_of, read_without, listed_without, term_means, terms_mean}

-- ---- calls and operators stay
mutual
  pub put_calls : {ts : List Tree} {by : List (VarId × TermId)} {p q : PlainProcess} → IsPutIn ts by p q → plain_calls Everywhere q ≡ plain_calls Everywhere p
  put_calls put_delta = refl
  put_calls (put_act h) = refl
  put_calls (put_call h) = refl
  put_calls (put_choice h) = all_put_calls h
  put_calls (put_seq h) = all_put_calls h
  put_calls (put_cond c h k) = λ i. put_calls h i ++ put_calls k i
  put_calls (put_sum h) = put_calls h
  put_calls (put_merge h) = all_put_calls h
  put_calls (put_left h k) = λ i. put_calls h i ++ put_calls k i
  put_calls (put_sync h) = all_put_calls h
  put_calls (put_around h) = put_calls h

  all_put_calls : {ts : List Tree} {by : List (VarId × TermId)} {ps qs : PlainProcesses} → ArePutIn ts by ps qs → all_calls Everywhere qs ≡ all_calls Everywhere ps
  all_put_calls none_put = refl
  all_put_calls (more_put h k) = λ i. put_calls h i ++ all_put_calls k i

two_put : {ts : List Tree} {by : List (VarId × TermId)} {ps qs : PlainProcesses} → ArePutIn ts by ps qs → has_two qs ≡ has_two ps
two_put none_put = refl
two_put (more_put h none_put) = refl
two_put (more_put h (more_put i k)) = refl

mutual
  pub put_parallel : {ts : List Tree} {by : List (VarId × TermId)} {p q : PlainProcess} → IsPutIn ts by p q → has_parallel q ≡ has_parallel p
  put_parallel put_delta = refl
  put_parallel (put_act h) = refl
  put_parallel (put_call h) = refl
  put_parallel (put_choice h) = any_put_parallel h
  put_parallel (put_seq h) = any_put_parallel h
  put_parallel (put_cond c h k) = λ i. put_parallel h i || put_parallel k i
  put_parallel (put_sum h) = put_parallel h
  put_parallel (put_merge h) = λ i. two_put h i || any_put_parallel h i
  put_parallel (put_left h k) = refl
  put_parallel (put_sync h) = λ i. two_put h i || any_put_parallel h i
  put_parallel (put_around h) = refl

  any_put_parallel : {ts : List Tree} {by : List (VarId × TermId)} {ps qs : PlainProcesses} → ArePutIn ts by ps qs → any_parallel qs ≡ any_parallel ps
  any_put_parallel none_put = refl
  any_put_parallel (more_put h k) = λ i. put_parallel h i || any_put_parallel k i

-- ---- sorts and scopes
module _ (s : Sig) (stands : IsSignature s) (ts : List Tree) where
  abbrev g : Entries
  g = entries_of s ts

  -- what stands for the first variables is over the second ones
  abbrev pub Covers : List VarId → List VarId → List (VarId × TermId) → Type 0
  Covers xs ys by = (v : ℕ) → Contains (numbers_of xs) v → IsOver (numbers_of ys) (term_in (env_of g by) v)

  covers_without : (xs ys zs : List VarId) (by : List (VarId × TermId)) → Covers xs ys by → Covers (zs ++ xs) (zs ++ ys) (without zs by)
  covers_without xs ys zs by h v i = elim (read_without g zs by v) [
    | inl bound ↦ subst (IsOver (numbers_of (zs ++ ys))) (sym bound.1) (subst (λ l. Contains l v) (sym (map-append (λ (x : VarId). x.0) zs ys)) (Contains-append_left (numbers_of zs) (numbers_of ys) v bound.0))
    | inr free ↦
        subst (IsOver (numbers_of (zs ++ ys))) (sym free.1)
        (over_more (numbers_of ys) (numbers_of (zs ++ ys)) (λ w j. subst (λ l. Contains l w) (sym (map-append (λ (x : VarId). x.0) zs ys)) (Contains-append_right (numbers_of zs) (numbers_of ys) w j)) (term_in (env_of g by) v)
        (h v (⊎_elim (λ j. absurd (free.0 j)) (λ j. j) (Contains-append_cases (numbers_of zs) (numbers_of xs) v (subst (λ l. Contains l v) (map-append (λ (x : VarId). x.0) zs xs) i)))))
  ]

  sorted_without : (zs : List VarId) (by : List (VarId × TermId)) → HaveVariableSorts s ts by → HaveVariableSorts s ts (without zs by)
  sorted_without zs by h = All-filter (λ (b : VarId × TermId). not (is_among zs b.0)) (λ (b : VarId × TermId). (a : SortId) → IsVariableOf s b.0 a → HasTreeSort s (tree_at ts b.1) a) by h

  module _ (by : List (VarId × TermId)) (own : AreIn ts (listed_terms by)) (sorted : HaveVariableSorts s ts by) (xs ys : List VarId) (covers : Covers xs ys by) where
    tree_sorted : (t : Tree) (a : SortId) → HasTreeSort s t a → HasTreeSort s (put_tree (listed ts by) t) a
    tree_sorted t a h = putting_in_keeps_sorts s (first_functions s stands.complete) ts by sorted t a h

    trees_sorted : (us : List Tree) (ss : List SortId) → HaveTreeSorts s (trees_of us) ss → HaveTreeSorts s (trees_of (map (put_tree (listed ts by)) us)) ss
    trees_sorted [] [] h = h
    trees_sorted [] (a ∷ ss) h = absurd h
    trees_sorted (u ∷ us) [] h = absurd h
    trees_sorted (u ∷ us) (a ∷ ss) h = (tree_sorted u a h.0, trees_sorted us ss h.1)

    term_fits : (a : SortId) (id made : TermId) → IsTermPut ts by id made → TermFits s ts xs a id → TermFits s ts ys a made
    term_fits a id made put h = record {
      term = record { within = put.within; sorted = subst (λ t. HasTreeSort s t a) (sym put.tree) (tree_sorted (tree_at ts id) a h.term.sorted) };
      over = subst (IsOver (numbers_of ys)) (sym (term_means s stands.table ts by own id made put)) (put_over (numbers_of xs) (numbers_of ys) (term_in (env_of g by)) covers (term_at g id) h.over);
    }

    overs : (ids made : List TermId) → map (term_at g) made ≡ map (put (term_in (env_of g by))) (map (term_at g) ids) → All (ReadsOnly g xs) ids → All (ReadsOnly g ys) made
    overs ids [] e h = All-nil (ReadsOnly g ys)
    overs [] (v ∷ made) e h = cc
    overs (u ∷ ids) (v ∷ made) e h =
        let first : term_at g v ≡ put (term_in (env_of g by)) (term_at g u) = cc in
        let rest : map (term_at g) made ≡ map (put (term_in (env_of g by))) (map (term_at g) ids) = cc in
        All-cons (ReadsOnly g ys) v made (subst (IsOver (numbers_of ys)) (sym first) (put_over (numbers_of xs) (numbers_of ys) (term_in (env_of g by)) covers (term_at g u) (All-head (ReadsOnly g xs) u ids h)))
        (overs ids made rest (All-tail (ReadsOnly g xs) u ids h))

    pub terms_fit : (ss : List SortId) (ids made : List TermId) → ArePut ts by ids made → TermsFit s ts xs ss ids → TermsFit s ts ys ss made
    terms_fit ss ids made put h = record {
      terms = record { within = put.within; sorted = subst (λ us. HaveTreeSorts s (trees_of us) ss) (sym put.trees) (trees_sorted (trees_at ts ids) ss h.terms.sorted) };
      over = overs ids made (terms_mean s stands.table ts by own ids made put) h.over;
    }

    action_fits : (a b : PlainAction) → b.act ≡ a.act → ArePut ts by a.args b.args → ActionFits s ts xs a → ActionFits s ts ys b
    action_fits a b same put h =
        let args = terms_fit h.action.key.sorts a.args b.args put (record { terms = h.action.args; over = h.over }) in
        record { action = record { key = h.action.key; stands = ap (λ n. slice_get s.actions n.0) same ∙ h.action.stands; args = args.terms }; over = args.over }

    label_fits : (m made : List PlainAction) → IsLabelPut ts by m made → All (ActionFits s ts xs) m → All (ActionFits s ts ys) made
    label_fits m [] put h = All-nil (ActionFits s ts ys)
    label_fits [] (b ∷ made) put h = let e = put.trees in cc
    label_fits (a ∷ m) (b ∷ made) put h =
        let e = put.trees in
        let first : trees_of_action ts b ≡ put_in_action (listed ts by) (trees_of_action ts a) = cc in
        let rest : trees_of_label ts made ≡ put_actions (listed ts by) (trees_of_label ts m) = cc in
        All-cons (ActionFits s ts ys) b made
        (action_fits a b (ap (λ (z : TreeAction). z.act) first) (record { read = All-head (IsActionIn ts) a m put.read; within = All-head (IsActionIn ts) b made put.within; trees = ap (λ (z : TreeAction). z.args) first }) (All-head (ActionFits s ts xs) a m h))
        (label_fits m made (record { read = All-tail (IsActionIn ts) a m put.read; within = All-tail (IsActionIn ts) b made put.within; trees = rest }) (All-tail (ActionFits s ts xs) a m h))

  module _ (ds : List PlainDefinition) where
    mutual
      pub put_fits : {by : List (VarId × TermId)} {p q : PlainProcess} → IsPutIn ts by p q → AreIn ts (listed_terms by) → HaveVariableSorts s ts by → (xs ys : List VarId) → Covers xs ys by → ProcessFits s ts ds xs p → ProcessFits s ts ds ys q
      put_fits put_delta own sorted xs ys c h = tt
      put_fits (put_act {by = by} {m = m} {n = n} put) own sorted xs ys c h = label_fits by own sorted xs ys c m n put h
      put_fits (put_call {by = by} {ids = ids} {made = made} put) own sorted xs ys c h = record { definition = h.definition; stands = h.stands; args = terms_fit by own sorted xs ys c _ ids made put h.args }
      put_fits (put_choice k) own sorted xs ys c h = all_put_fit k own sorted xs ys c h
      put_fits (put_seq k) own sorted xs ys c h = all_put_fit k own sorted xs ys c h
      put_fits (put_cond {by = by} {c = id} {d = made} put k l) own sorted xs ys c h = (term_fits by own sorted xs ys c _ id made put h.0, put_fits k own sorted xs ys c h.1, put_fits l own sorted xs ys c h.2)
      put_fits (put_sum {by = by} {xs = zs} k) own sorted xs ys c h = (h.0, put_fits k (listed_without ts zs by own) (sorted_without zs by sorted) (zs ++ xs) (zs ++ ys) (covers_without xs ys zs by c) h.1)
      put_fits (put_merge k) own sorted xs ys c h = all_put_fit k own sorted xs ys c h
      put_fits (put_left k l) own sorted xs ys c h = (put_fits k own sorted xs ys c h.0, put_fits l own sorted xs ys c h.1)
      put_fits (put_sync k) own sorted xs ys c h = all_put_fit k own sorted xs ys c h
      put_fits (put_around k) own sorted xs ys c h = (h.0, put_fits k own sorted xs ys c h.1)

      all_put_fit : {by : List (VarId × TermId)} {ps qs : PlainProcesses} → ArePutIn ts by ps qs → AreIn ts (listed_terms by) → HaveVariableSorts s ts by → (xs ys : List VarId) → Covers xs ys by → ProcessesFit s ts ds xs ps → ProcessesFit s ts ds ys qs
      all_put_fit none_put own sorted xs ys c h = tt
      all_put_fit (more_put k l) own sorted xs ys c h = (put_fits k own sorted xs ys c h.0, all_put_fit l own sorted xs ys c h.1)
