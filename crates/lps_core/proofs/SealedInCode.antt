-- What a sealed linear process in code means, and that it fits.
use Rattle.std.proofs.Common.{◌≡◌, ◌<◌, ◌≤◌, ℕ, List, [], ◌∷◌, ◌++◌, map, length, get_or, refl, sym, ap, ap₂, ◌∙◌, subst, arith, Option, Some, None}
use Rattle.std.specs.Prelude.{slice_get, option_map, pos}
use Rattle.std.specs.List.{Contains}
use Rattle.std.proofs.lemmas.List.{append-nil, map-append, length-append}
use Rattle.std.proofs.lemmas.Option.{slice_get-get_or, slice_get_within, get_or_from_slice_get}
use Rattle.data_theory.specs.declared.ids.ActId.{ActId}
use Rattle.data_theory.specs.declared.ids.VarId.{VarId}
use Rattle.data_theory.specs.declared.signature.Variable.{Variable}
use Rattle.data_theory.specs.Keys.{Key, key}
use Rattle.data_theory.specs.Names.{place_in, with_text}
use Rattle.data_theory.specs.Table.{bool_sort, pos_sort}
use Rattle.data_theory.specs.Terms.{boolean, positive, variable as var, numeral as num, application, none as no_terms, more as and_more}
use Rattle.data_theory.specs.Signature.{Sig, with_action, with_variable}
use Rattle.data_theory.specs.Complete.{IsComplete, BeginsWith}
use Rattle.data_theory.specs.IdTables.{IsTable}
use Rattle.data_theory.specs.IdTrees.{Tree, variable}
use Rattle.data_theory.specs.IdTreeSorts.{IsVariableOf}
use Rattle.data_theory.specs.IdTerms.{sort_under, term_under, IsTreeWithin}
use Rattle.data_theory.specs.WholeSignatures.{IsSignature}
use Rattle.data_theory.proofs.NameLemmas.{place_reads, has_text, place_is}
use Rattle.data_theory.proofs.IdGrowthLemmas.{with_a_text_it_is_grown}
use Rattle.process_terms.specs.Communication.{conjunction_of}
use Rattle.process_terms.specs.Meanings.{ActionEntry, bound_at, action_at}
use Rattle.process_terms.specs.SignatureEntries.{entries_of, action_entry}
use Rattle.process_terms.proofs.MeaningLemmas.{entry_stays}
use Rattle.bisim_laws.specs.Terminations.{terminate_name, terminate_label}
use Rattle.bisim_laws.specs.BaseStates.{phase_running, phase_ended}
use Rattle.lps_core.specs.Columns.{as_terms}
use Rattle.lps_core.specs.Conditions.{parts, without_true, joined}
use Rattle.lps_core.specs.Fitting.{IsVariable, sort_of_variable, HasTakenName}
use Rattle.lps_core.specs.TreeConditions.{tree_parts, trees_without_true, conjunction_tree}
use Rattle.lps_core.specs.NumberTrees.{number_tree}
use Rattle.lps_core.specs.TreeSummands.{TreeSummand, meant_action, meant_summand}
use Rattle.lps_core.specs.Sealing.{phase, phase_is, sealed_next, sealed_summand, last_summand}
use Rattle.lps_core.specs.SealedTrees.{phase_tree, sealed_next_trees, sealed_tree, last_tree, HasPhase, a_phase}
use Rattle.lps_core.proofs.MeantParts.{numbers_mean, positive_meant, parts_mean_parts, chains_mean_chains}
use Rattle.lps_core.proofs.NamedSums.{last_variable, with_name_has, name_taken}
use Rattle.lps_core.proofs.Staying.{read_mapped}

-- ---- what was added
pub record PhaseStands (g h : Sig) (act : ActId) (v : VarId) : Type 0 where
  pub variable : IsVariable h v
  pub new : length g.variables ≤ v.0
  pub taken : HasTakenName h v
  pub sort : sort_of_variable h v ≡ pos_sort
  pub of_sort : IsVariableOf h v pos_sort
  pub bound : bound_at (entries_of h []) v ≡ phase v.0
  pub entry : Key
  pub stands : slice_get h.actions act.0 ≡ Some entry
  pub no_arguments : entry.sorts ≡ []
  pub action : meant_action h (record { act = act; args = [] }) ∷ [] ≡ terminate_label

last_entry : (xs : List Key) (x : Key) → slice_get (xs ++ x ∷ []) (length xs) ≡ Some x
last_entry [] x = refl
last_entry (y ∷ xs) x = last_entry xs x

some_name : {t u : List ℕ} → Some t ≡ Some u → t ≡ u
some_name e = cc

pub phase_stands : (g h : Sig) (act : ActId) (v : VarId) → IsSignature h → HasPhase g h act v → PhaseStands g h act v
phase_stands g _ _ _ s (a_phase {h = h} {name = name} f) =
    let x : Variable = record { name = name; sort = pos_sort } in
    let k : Sig = with_variable h x in
    let g1 : Sig = with_action g terminate_name [] in
    let v : VarId = record { 0 = length h.variables } in
    let e : Key = key (place_in g1.texts terminate_name) [] in
    let within : v.0 < length k.variables = (let l = length-append h.variables (x ∷ []) in omega (arith, l)) in
    let there : slice_get k.variables v.0 ≡ Some x = slice_get-get_or k.variables v.0 x within ∙ ap (λ y. Some y) (last_variable h x x) in
    let place : name ≡ place_in h.texts f.text = place_is h.texts f.text name.0 s.table.different f.named in
    let has : Contains h.taken name = subst (λ z. Contains h.taken z) (sym place) (subst (λ (z : Sig). Contains z.taken (place_in z.texts f.text)) (sym f.taken) (with_name_has g1.taken (place_in (with_text g1.texts f.text) f.text))) in
    let actions : h.actions ≡ g.actions ++ e ∷ [] = ap (λ (z : Sig). z.actions) f.taken in
    let variables : h.variables ≡ g.variables = ap (λ (z : Sig). z.variables) f.taken in
    let stands : slice_get k.actions (length g.actions) ≡ Some e = ap (λ as'. slice_get as' (length g.actions)) actions ∙ last_entry g.actions e in
    let read : slice_get g1.texts e.name.0 ≡ Some terminate_name = place_reads g1.texts terminate_name (has_text g.texts terminate_name) in
    let later : BeginsWith g1.texts h.texts = ((with_a_text_it_is_grown g1 f.text).new_texts, ap (λ (z : Sig). z.texts) f.taken ∙ (with_a_text_it_is_grown g1 f.text).texts) in
    let named : get_or h.texts e.name.0 [] ≡ terminate_name = (entry_stays g1.texts h.texts [] e.name.0 later (slice_get_within g1.texts e.name.0 terminate_name read)).0 ∙ get_or_from_slice_get g1.texts e.name.0 terminate_name [] read in
    let at : action_at (entries_of k []) (record { 0 = length g.actions }) ≡ action_entry k e = read_mapped (action_entry k) k.actions (length g.actions) (record { name = []; sorts = [] }) e (slice_get_within k.actions (length g.actions) e stands) ∙ ap (action_entry k) (get_or_from_slice_get k.actions (length g.actions) e e stands) in
    record {
      variable = within;
      new = omega (arith, ap length variables);
      taken = name_taken k v within (subst (λ z. Contains k.taken z) (sym (ap (λ (y : Variable). y.name) (last_variable h x (record { name = record { 0 = 0 }; sort = record { 0 = 0 } })))) has);
      sort = ap (λ (y : Variable). y.sort) (last_variable h x (record { name = record { 0 = 0 }; sort = bool_sort }));
      of_sort = (x, there, refl);
      bound = ap (λ a. record { var = v.0; sort = a }) (read_mapped (λ (y : Variable). sort_under k y.sort) k.variables v.0 boolean x within ∙ ap (λ (y : Variable). sort_under k y.sort) (last_variable h x x) ∙ positive_meant k s.table);
      entry = e;
      stands = stands;
      no_arguments = refl;
      action = ap (λ (z : ActionEntry). record { name = z.name; sorts = z.sorts; args = [] } ∷ []) at ∙ ap (λ n. record { name = n; sorts = []; args = [] } ∷ []) named;
    }

-- ---- what the trees mean
module _ (h : Sig) (table : IsTable h) (complete : IsComplete h) where
  pub number_means : (i : ℕ) → term_under h (number_tree i) ≡ num positive (pos i)
  number_means i = ap (λ s. num s (pos i)) (positive_meant h table)

  phase_means : (v : VarId) (i : ℕ) → term_under h (phase_tree v i) ≡ phase_is v.0 (num positive (pos i))
  phase_means v i = ap₂ (λ s t. application s (and_more (var v.0) (and_more t no_terms))) (numbers_mean h table complete).2 (number_means i)

  condition_means : (v : VarId) (t : Tree) → IsTreeWithin h t → term_under h (conjunction_tree (phase_tree v 1 ∷ trees_without_true (tree_parts t))) ≡ joined (phase_is v.0 phase_running ∷ term_under h t ∷ [])
  condition_means v t w =
      chains_mean_chains h table complete (phase_tree v 1 ∷ trees_without_true (tree_parts t))
      ∙ ap₂ (λ c cs. conjunction_of (c ∷ cs)) (phase_means v 1) (parts_mean_parts h table complete t w)
      ∙ ap (λ cs. conjunction_of (phase_is v.0 phase_running ∷ without_true cs)) (sym (append-nil (parts (term_under h t))))

  variables_mean : (us : List Tree) (xs : List VarId) → map (term_under h) (map variable xs) ≡ as_terms (map (bound_at (entries_of h us)) xs)
  variables_mean us [] = refl
  variables_mean us (x ∷ xs) = ap (λ ts. var x.0 ∷ ts) (variables_mean us xs)

  params_mean : (us : List Tree) (params : List VarId) (i : ℕ) → map (term_under h) (map variable params ++ number_tree i ∷ []) ≡ as_terms (map (bound_at (entries_of h us)) params) ++ num positive (pos i) ∷ []
  params_mean us params i = map-append (term_under h) (map variable params) (number_tree i ∷ []) ∙ ap₂ (λ xs t. xs ++ t ∷ []) (variables_mean us params) (number_means i)

  next_means : (us : List Tree) (params : List VarId) (v : VarId) (next : Option (List Tree)) → map (term_under h) (sealed_next_trees params v next) ≡ sealed_next (map (bound_at (entries_of h us)) params) v.0 (option_map (map (term_under h)) next)
  next_means us params v None = params_mean us params 2
  next_means us params v (Some ts) = map-append (term_under h) ts (variable v ∷ [])

  pub sealed_tree_means : (us : List Tree) (params : List VarId) (v : VarId) (s : TreeSummand) → IsTreeWithin h s.condition → meant_summand h (sealed_tree params v s) ≡ sealed_summand (map (bound_at (entries_of h us)) params) v.0 (meant_summand h s)
  sealed_tree_means us params v s w = ap₂ (λ c n. record { sums = map (bound_at (entries_of h [])) s.sums; condition = c; label = map (meant_action h) s.label; next = Some n }) (condition_means v s.condition w) (next_means us params v s.next)

  pub last_tree_means : (us : List Tree) (params : List VarId) (v : VarId) (act : ActId) → meant_action h (record { act = act; args = [] }) ∷ [] ≡ terminate_label → meant_summand h (last_tree params v act) ≡ last_summand (map (bound_at (entries_of h us)) params) v.0
  last_tree_means us params v act e =
      ap₂ (λ c m. record { sums = []; condition = c; label = m; next = Some (map (term_under h) (map variable params ++ number_tree 3 ∷ [])) }) (phase_means v 2) e
      ∙ ap (λ n. record { sums = []; condition = phase_is v.0 phase_ended; label = terminate_label; next = Some n }) (params_mean us params 3)
