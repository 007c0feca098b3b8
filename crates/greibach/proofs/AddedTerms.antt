-- What ids that were made mean in the end.
use Rattle.std.proofs.Common.{◌≡◌, ◌==◌, ℕ, true, false, List, [], ◌∷◌, ◌++◌, map, length, take, Option, None, Some, refl, sym, ap, ap₂, ◌∙◌, subst, cond}
use Rattle.std.specs.Prelude.{slice_get}
use Rattle.std.specs.List.{All, AllZip}
use Rattle.std.proofs.lemmas.List.{map-append}
use Rattle.std.proofs.lemmas.List.Elements.{All-head, All-tail}
use Rattle.data_theory.specs.declared.ids.FunId.{FunId}
use Rattle.data_theory.specs.declared.ids.VarId.{VarId}
use Rattle.data_theory.specs.declared.ids.TermId.{TermId}
use Rattle.data_theory.specs.declared.words.Word.TheVariants as words
use Rattle.data_theory.specs.declared.rows.Row.TheVariants as rows
use Rattle.data_theory.specs.Functions.{Function}
use Rattle.data_theory.specs.Rows.{built_in, built_ins}
use Rattle.data_theory.specs.Table.{first_rows, truth_rows, sort_rows, first_table, bool_sort}
use Rattle.data_theory.specs.Terms.{Term, negation, application, none as no_terms, more as and_more}
use Rattle.data_theory.specs.Equations.{ !ᵗ◌}
use Rattle.data_theory.specs.Environments.{term_in}
use Rattle.data_theory.specs.Signature.{Sig}
use Rattle.data_theory.specs.Complete.{IsComplete}
use Rattle.data_theory.specs.IdTables.{IsTable}
use Rattle.data_theory.specs.IdSymbols.{declared_from, symbol_at}
use Rattle.data_theory.specs.IdTrees.{Tree, none, more, put_tree, apply_tree}
use Rattle.data_theory.specs.IdTreeSorts.{HasTreeSort}
use Rattle.data_theory.specs.IdTerms.{sort_under, symbol_under, term_under}
use Rattle.data_theory.proofs.IdTermLemmas.{sorted_trees_are_within}
use Rattle.term_pool.specs.HeadTrees.{tree_at, trees_at, IsIn, AreIn}
use Rattle.term_pool.specs.Pools.{Extends}
use Rattle.term_pool.specs.Bindings.{listed, listed_terms}
use Rattle.process_terms.specs.PlainProcesses.{PlainAction}
use Rattle.process_terms.specs.Labels.{put_label}
use Rattle.process_terms.specs.Communication.{conjunction_of}
use Rattle.process_terms.specs.Meanings.{Entries, term_at, label_of}
use Rattle.process_terms.specs.SignatureEntries.{entries_of}
use Rattle.lps_core.specs.Conditions.{parts, without_true}
use Rattle.lps_core.specs.TreeConditions.{tree_parts, trees_without_true, conjunction_tree}
use Rattle.lps_core.specs.TreeSummands.{IsActionIn, trees_of_label, put_actions, meant_action}
use Rattle.lps_core.proofs.Staying.{term_is, terms_are}
use Rattle.lps_core.proofs.MeantTrees.{Means, put_means, puts_mean, label_means, label_read}
use Rattle.lps_core.proofs.MeantParts.{parts_mean_parts, chains_mean_chains}
use Rattle.lps_core.proofs.PoolTrees.{tree_kept, trees_kept, all_in_kept, actions_kept, actions_in_kept}
use Rattle.greibach.specs.MeetingOrder.{Meets}
use Rattle.greibach.specs.PlacesInCode.{PlainPart, delta, act, choice, cond as cond_part, sum, call, whole, PlainPlaces}
use Rattle.greibach.specs.OnwardCalls.{part_at, rest_at, params_of_place, entry_place, rest_trees, first_trees, onward_trees, IsTreeCall, FirstIsListed, OnwardIsListed, HasArgumentsIn}
use Rattle.greibach.specs.NumberedCalls.{HaveNumbers, none_numbered, one_more_numbered}
use Rattle.greibach.specs.AddedHeads.{environment_of, put_in, rest_terms, first_terms, onward_terms, FirstIsCovered, OnwardIsCovered, IsCallAt}
use Rattle.greibach.proofs.ConditionTrees.{not_function, not_unmerged}
use Rattle.greibach.proofs.NumberedOneByOne.{number_stays}

-- ---- negation
not_at : (texts : List (List ℕ)) (new : List Function) → slice_get (built_ins texts first_table ++ new) 8 ≡ Some (built_in texts (rows.One words.Not bool_sort bool_sort))
unfolding first_table first_rows truth_rows sort_rows
not_at texts new = refl

symbol_is : (g : Sig) (i : FunId) (f : Function) → slice_get g.functions i.0 ≡ Some f → symbol_under g i ≡ symbol_at (sort_under g) (length (declared_from 0 (take i.0 g.functions))) (Some f)
symbol_is g i f e = ap (symbol_at (sort_under g) (length (declared_from 0 (take i.0 g.functions)))) e

not_means : (g : Sig) → IsComplete g → symbol_under g not_function ≡ negation
not_means g c = symbol_is g not_function (built_in g.texts (rows.One words.Not bool_sort bool_sort)) (ap (λ fs. slice_get fs 8) c.first_functions_stay.1 ∙ not_at g.texts c.first_functions_stay.0)

module _ (k : Sig) (table : IsTable k) (complete : IsComplete k) (ws : List Tree) where
  abbrev e : Entries
  e = entries_of k ws

  pub term_lifted : (us : List Tree) (id : TermId) → Extends us ws → IsIn us id → term_at (entries_of k ws) id ≡ term_under k (tree_at us id)
  term_lifted us id x w = let r = tree_kept us ws id x w in term_is k ws id r.1 ∙ ap (term_under k) r.0

  pub terms_lifted : (us : List Tree) (ids : List TermId) → Extends us ws → AreIn us ids → map (term_at (entries_of k ws)) ids ≡ map (term_under k) (trees_at us ids)
  terms_lifted us ids x w = terms_are k ws ids (all_in_kept us ws ids x w) ∙ ap (map (term_under k)) (trees_kept us ws ids x w)

  pub listed_lifted : (us : List Tree) (by : List (VarId × TermId)) → Extends us ws → AreIn us (listed_terms by) → Means k (listed us by) (environment_of (entries_of k ws) by)
  listed_lifted us [] x w v = refl
  listed_lifted us (p ∷ by) x w v = elim (p.0.0 == v.0) as (λ b. term_under k (cond b (tree_at us p.1) (listed us by v)) ≡ cond b (term_at (entries_of k ws) p.1) (term_in (environment_of (entries_of k ws) by) v.0)) [
    | true ↦ sym (term_lifted us p.1 x (All-head (IsIn us) p.1 (listed_terms by) w))
    | false ↦ listed_lifted us by x (All-tail (IsIn us) p.1 (listed_terms by) w) v
  ]

  -- ---- what was put in
  pub put_lifted : (ts us : List Tree) (by : List (VarId × TermId)) (id made : TermId) → Extends ts ws → Extends us ws → AreIn ts (listed_terms by) → IsIn ts id → IsIn us made → tree_at us made ≡ put_tree (listed ts by) (tree_at ts id)
      → term_at (entries_of k ws) made ≡ put_in (entries_of k ws) by (term_at (entries_of k ws) id)
  put_lifted ts us by id made x y own w m is =
      term_lifted us made y m
      ∙ ap (term_under k) is
      ∙ put_means k table (listed ts by) (environment_of (entries_of k ws) by) (listed_lifted ts by x own) (tree_at ts id)
      ∙ ap (put_in (entries_of k ws) by) (sym (term_lifted ts id x w))

  pub puts_lifted : (ts us : List Tree) (by : List (VarId × TermId)) (ids made : List TermId) → Extends ts ws → Extends us ws → AreIn ts (listed_terms by) → AreIn ts ids → AreIn us made → trees_at us made ≡ map (put_tree (listed ts by)) (trees_at ts ids)
      → map (term_at (entries_of k ws)) made ≡ map (put_in (entries_of k ws) by) (map (term_at (entries_of k ws)) ids)
  puts_lifted ts us by ids made x y own w m is =
      terms_lifted us made y m
      ∙ ap (map (term_under k)) is
      ∙ puts_mean k table (listed ts by) (environment_of (entries_of k ws) by) (listed_lifted ts by x own) (trees_at ts ids)
      ∙ ap (map (put_in (entries_of k ws) by)) (sym (terms_lifted ts ids x w))

  pub label_lifted : (ts us : List Tree) (by : List (VarId × TermId)) (m made : List PlainAction) → Extends ts ws → Extends us ws → AreIn ts (listed_terms by) → All (IsActionIn ts) m → All (IsActionIn us) made → trees_of_label us made ≡ put_actions (listed ts by) (trees_of_label ts m)
      → label_of (entries_of k ws) made ≡ put_label (environment_of (entries_of k ws) by) (label_of (entries_of k ws) m)
  label_lifted ts us by m made x y own w n is =
      label_read k ws made (actions_in_kept us ws made y n)
      ∙ ap (map (meant_action k)) (actions_kept us ws made y n ∙ is ∙ ap (put_actions (listed ts by)) (sym (actions_kept ts ws m x w)))
      ∙ label_means k table (listed ts by) (environment_of (entries_of k ws) by) (listed_lifted ts by x own) ws m (actions_in_kept ts ws m x w)

  -- ---- conditions
  pub condition_lifted : (ts us : List Tree) (ids : List TermId) (c : TermId) → Extends ts ws → Extends us ws → AreIn ts ids → IsIn us c → tree_at us c ≡ conjunction_tree (trees_at ts ids) → term_at (entries_of k ws) c ≡ conjunction_of (map (term_at (entries_of k ws)) ids)
  condition_lifted ts us ids c x y w m is = term_lifted us c y m ∙ ap (term_under k) is ∙ chains_mean_chains k table complete (trees_at ts ids) ∙ ap conjunction_of (sym (terms_lifted ts ids x w))

  pub parts_lifted : (us : List Tree) (ids new : List TermId) (c : TermId) → Extends us ws → AreIn us ids → AreIn us new → IsIn us c → HasTreeSort k (tree_at us c) bool_sort → trees_at us new ≡ trees_at us ids ++ trees_without_true (tree_parts (tree_at us c))
      → map (term_at (entries_of k ws)) new ≡ map (term_at (entries_of k ws)) ids ++ without_true (parts (term_at (entries_of k ws) c))
  parts_lifted us ids new c x w n m sorted is =
      terms_lifted us new x n
      ∙ ap (map (term_under k)) is
      ∙ map-append (term_under k) (trees_at us ids) (trees_without_true (tree_parts (tree_at us c)))
      ∙ ap₂ (λ xs ys. xs ++ ys) (sym (terms_lifted us ids x w)) (parts_mean_parts k table complete (tree_at us c) (sorted_trees_are_within k table (tree_at us c) bool_sort sorted) ∙ ap (λ t. without_true (parts t)) (sym (term_lifted us c x m)))

  pub not_lifted : (ts us : List Tree) (id made : TermId) → Extends ts ws → Extends us ws → IsIn ts id → IsIn us made → tree_at us made ≡ apply_tree not_function (more (tree_at ts id) none) → term_at (entries_of k ws) made ≡ !ᵗ term_at (entries_of k ws) id
  not_lifted ts us id made x y w m is =
      term_lifted us made y m
      ∙ ap (term_under k) (is ∙ not_unmerged (tree_at ts id))
      ∙ ap₂ (λ s t. application s (and_more t no_terms)) (not_means k complete) (sym (term_lifted ts id x w))

  -- ---- calls
  args_lifted : (us : List Tree) (by : List (VarId × TermId)) → Extends us ws → AreIn us (listed_terms by) → (vs : List VarId) → map (term_under k) (map (listed us by) vs) ≡ map (λ (v : VarId). term_in (environment_of (entries_of k ws) by) v.0) vs
  args_lifted us by x own [] = refl
  args_lifted us by x own (v ∷ vs) = ap₂ (λ t ts. t ∷ ts) (listed_lifted us by x own v) (args_lifted us by x own vs)

  pub behind_lifted : (us : List Tree) (by : List (VarId × TermId)) (ids : List TermId) (vs : List VarId) → Extends us ws → AreIn us (listed_terms by) → AreIn us ids → trees_at us ids ≡ map (listed us by) vs
      → map (term_at (entries_of k ws)) ids ≡ map (λ (v : VarId). term_in (environment_of (entries_of k ws) by) v.0) vs
  behind_lifted us by ids vs x own w is = terms_lifted us ids x w ∙ ap (map (term_under k)) is ∙ args_lifted us by x own vs

  abbrev lifted : List (ℕ × List Tree) → List (ℕ × List Term)
  lifted ws = map (λ w. (w.0, map (term_under k) w.1)) ws

  rest_lifted : (us : List Tree) (t : PlainPlaces) (by : List (VarId × TermId)) → Extends us ws → AreIn us (listed_terms by) → (rest : Option ℕ) → lifted (rest_trees t us by rest) ≡ rest_terms (entries_of k ws) t by rest
  rest_lifted us t by x own None = refl
  rest_lifted us t by x own (Some n) = ap (λ l. (n, l) ∷ []) (args_lifted us by x own (params_of_place t n))

  first_lifted : (us : List Tree) (t : PlainPlaces) (by : List (VarId × TermId)) → Extends us ws → AreIn us (listed_terms by) → (n : ℕ) (p : PlainPart) → FirstIsListed t us by n p → lifted (first_trees t us by n p) ≡ first_terms (entries_of k ws) t by n p
  first_lifted us t by x own n delta f = rest_lifted us t by x own (Some n)
  first_lifted us t by x own n (act m) f = rest_lifted us t by x own (Some n)
  first_lifted us t by x own n (choice ns) f = rest_lifted us t by x own (Some n)
  first_lifted us t by x own n (cond_part c i j) f = rest_lifted us t by x own (Some n)
  first_lifted us t by x own n (sum y i) f = rest_lifted us t by x own (Some n)
  first_lifted us t by x own n (whole i) f = rest_lifted us t by x own (Some n)
  first_lifted us t by x own n (call i ids) f =
      ap₂ (λ l cs. (entry_place t i, l) ∷ cs)
      (puts_mean k table (listed us by) (environment_of (entries_of k ws) by) (listed_lifted us by x own) (trees_at us ids) ∙ ap (map (put_in (entries_of k ws) by)) (sym (terms_lifted us ids x f.1)))
      (rest_lifted us t by x own (rest_at t n))

  pub onward_lifted : (us : List Tree) (t : PlainPlaces) (by : List (VarId × TermId)) → Extends us ws → AreIn us (listed_terms by) → (rest : Option ℕ) → OnwardIsListed t us by rest → lifted (onward_trees t us by rest) ≡ onward_terms (entries_of k ws) t by rest
  onward_lifted us t by x own None f = refl
  onward_lifted us t by x own (Some n) f = first_lifted us t by x own n (part_at t n) f.1

  pub calls_lifted : (us : List Tree) (mid new : List ℕ) (ps : List ℕ) → Extends us ws → Meets mid ps new → (wanted : List (ℕ × List Tree)) (cs : List (ℕ × List TermId)) → AllZip (IsTreeCall us mid) wanted cs → All (HasArgumentsIn us) cs → AllZip (IsCallAt (entries_of k ws) new) (lifted wanted) cs
  calls_lifted us mid new ps x m [] [] h w = tt
  calls_lifted us mid new ps x m [] (c ∷ cs) h w = absurd h
  calls_lifted us mid new ps x m (p ∷ wanted) [] h w = absurd h
  calls_lifted us mid new ps x m (p ∷ wanted) (c ∷ cs) h w = (
    record { number = number_stays m p.0 c.0 h.0.number; args = terms_lifted us c.1 x (All-head (HasArgumentsIn us) c cs w) ∙ ap (map (term_under k)) h.0.args },
    calls_lifted us mid new ps x m wanted cs h.1 (All-tail (HasArgumentsIn us) c cs w),
  )

-- ---- calls that waited
zip_both : {A B : Type 0} (R : A → B → Type 0) (xs ys : List A) (us vs : List B) → AllZip R xs us → AllZip R ys vs → AllZip R (xs ++ ys) (us ++ vs)
zip_both R [] ys [] vs h k = k
zip_both R [] ys (u ∷ us) vs h k = absurd h
zip_both R (x ∷ xs) ys [] vs h k = absurd h
zip_both R (x ∷ xs) ys (u ∷ us) vs h k = (h.0, zip_both R xs ys us vs h.1 k)

abbrev pub with_terms_at : Entries → List (ℕ × List TermId) → List (ℕ × List Term)
with_terms_at e ws = map (λ w. (w.0, map (term_at e) w.1)) ws

numbered_lifted : (e : Entries) (met : List ℕ) {ws cs : List (ℕ × List TermId)} → HaveNumbers met ws cs → AllZip (IsCallAt e met) (with_terms_at e ws) cs
numbered_lifted e met none_numbered = tt
numbered_lifted e met (one_more_numbered {ws = ws} {cs = cs} {w = w} {c = c} h one) =
    subst (λ l. AllZip (IsCallAt e met) l (cs ++ c ∷ [])) (sym (map-append (λ (z : ℕ × List TermId). (z.0, map (term_at e) z.1)) ws (w ∷ [])))
    (zip_both (IsCallAt e met) (with_terms_at e ws) ((w.0, map (term_at e) w.1) ∷ []) cs (c ∷ []) (numbered_lifted e met h) (record { number = one.number; args = ap (map (term_at e)) one.args }, tt))

pub all_calls_lifted : (e : Entries) (met : List ℕ) (wanted : List (ℕ × List Term)) (ws onward behind : List (ℕ × List TermId)) → AllZip (IsCallAt e met) wanted onward → HaveNumbers met ws behind → AllZip (IsCallAt e met) (wanted ++ with_terms_at e ws) (onward ++ behind)
all_calls_lifted e met wanted ws onward behind h n = zip_both (IsCallAt e met) wanted (with_terms_at e ws) onward behind h (numbered_lifted e met n)

-- ---- what is covered
first_covered : (ts : List Tree) (t : PlainPlaces) (by : List (VarId × TermId)) (n : ℕ) (p : PlainPart) → FirstIsListed t ts by n p → FirstIsCovered t by n p
first_covered ts t by n delta f = f
first_covered ts t by n (act m) f = f
first_covered ts t by n (choice ns) f = f
first_covered ts t by n (cond_part c i j) f = f
first_covered ts t by n (sum y i) f = f
first_covered ts t by n (whole i) f = f
first_covered ts t by n (call k ids) f = f.2

pub onward_covered : (ts : List Tree) (t : PlainPlaces) (by : List (VarId × TermId)) (rest : Option ℕ) → OnwardIsListed t ts by rest → OnwardIsCovered t by rest
onward_covered ts t by None f = tt
onward_covered ts t by (Some n) f = first_covered ts t by n (part_at t n) f.1
