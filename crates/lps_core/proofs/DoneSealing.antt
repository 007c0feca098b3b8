-- What `seal` answers: it is sealed, fits, never ends, and is bisimilar.
use Rattle.std.proofs.Common.{◌≡◌, ◌≤◌, true, false, List, [], ◌∷◌, ◌++◌, map, length, refl, sym, ap, ap₂, ◌∙◌, subst, arith, Option, Some, None, lit<}
use Rattle.std.specs.Prelude.{slice_get, option_map, IfSome}
use Rattle.std.specs.List.{All, Contains}
use Rattle.std.proofs.lemmas.List.{map-append}
use Rattle.std.proofs.lemmas.List.Elements.{All-nil, All-push, All-head, All-tail, All-cons, All-weaker, All-contains}
use Rattle.data_theory.specs.declared.ids.ActId.{ActId}
use Rattle.data_theory.specs.declared.ids.TermId.{TermId}
use Rattle.data_theory.specs.declared.ids.VarId.{VarId}
use Rattle.data_theory.specs.Keys.{Key}
use Rattle.data_theory.specs.Table.{bool_sort, pos_sort}
use Rattle.data_theory.specs.Terms.{positive}
use Rattle.data_theory.specs.Declarations.{HaveSorts, Declares}
use Rattle.data_theory.specs.Environments.{terms_of}
use Rattle.data_theory.specs.Signature.{Sig}
use Rattle.data_theory.specs.Complete.{IsComplete}
use Rattle.data_theory.specs.IdData.{data_meant}
use Rattle.data_theory.specs.IdTables.{IsTable}
use Rattle.data_theory.specs.IdTrees.{Tree, variable, trees_of}
use Rattle.data_theory.specs.IdTreeSorts.{HasTreeSort, HaveTreeSorts, IsVariableOf}
use Rattle.data_theory.specs.IdTerms.{term_under, variable_sorts, IsGrown}
use Rattle.data_theory.specs.WholeSignatures.{IsSignature}
use Rattle.data_theory.proofs.IdTermLemmas.{sorted_trees_are_within}
use Rattle.term_pool.specs.HeadTrees.{tree_at, trees_at, IsIn, AreIn}
use Rattle.term_pool.specs.Pools.{Extends}
use Rattle.process_terms.specs.PlainProcesses.{PlainAction}
use Rattle.process_terms.specs.Processes.{Bound}
use Rattle.process_terms.specs.Meanings.{bound_at, term_at}
use Rattle.process_terms.specs.SignatureEntries.{entries_of, BothGrow}
use Rattle.bisim_laws.specs.LinearProcesses as theory
use Rattle.bisim_laws.specs.LinearProcesses.{variables, sorts, state_of, IsLinear}
use Rattle.bisim_laws.specs.Links.{Phased, IsGoodWithTerminate}
use Rattle.bisim_laws.proofs.Firing.{contains_first}
use Rattle.bisim_laws.specs.BaseStates.{phase_running}
use Rattle.lps_core.specs.Fitting.{AreTermsOf, IsActionOf, IsVariable, sort_of_variable, HasTakenName, SummandFits, Fits}
use Rattle.lps_core.specs.GoingOn.{IsGoodOverWithTerminate}
use Rattle.lps_core.specs.declared.linears.Summand.{Summand}
use Rattle.lps_core.specs.PlainLinears.{PlainSummand, PlainLinear, plain_summand, can_end, summand_of, linear_of, initial_of, linear_state}
use Rattle.lps_core.specs.NumberTrees.{number_tree}
use Rattle.lps_core.specs.TreeSummands.{TreeAction, TreeSummand, trees_of_action, trees_of_label, trees_of_summand, meant_summand, IsSummandIn, IsActionIn}
use Rattle.lps_core.specs.Sealing.{NeverEnds, phase, sealed_summand, last_summand, sealed, IsApart}
use Rattle.lps_core.specs.SealedTrees.{sealed_next_trees, sealed_tree, last_tree, HasPhase, IsSealed, it_is_sealed, SealingIsGood, SealingDone, AreSealed}
use Rattle.lps_core.proofs.CanEnd.{what_cannot_end_never_ends}
use Rattle.lps_core.proofs.GrowingData.{linear_grown, terms_grown}
use Rattle.lps_core.proofs.KeptSummands.{summand_in_kept, summand_kept, summands_kept}
use Rattle.lps_core.proofs.MeantTrees.{numbers_meant, summand_read, summands_read}
use Rattle.lps_core.proofs.Members.{contains_map}
use Rattle.lps_core.proofs.NamedLinears.{fitting_is_in}
use Rattle.lps_core.proofs.PoolTrees.{extends_on}
use Rattle.lps_core.proofs.SealedInCode.{PhaseStands, phase_stands, number_means, sealed_tree_means, last_tree_means}
use Rattle.lps_core.proofs.SealedLinears.{one_two_three, never_ends, sealed_linear, sealed_good, never_ending_good}
use Rattle.lps_core.proofs.SortedTerms.{columns_sorted}
use Rattle.lps_core.proofs.SortedTrees.{number_sorted, phase_sorted, sealed_condition_sorted, variables_sorted, tree_sorts_append}
use Rattle.lps_core.proofs.Staying.{term_is, variables_declared, what_fits_is_sorted, what_fits_stays}
use Rattle.lps_core.proofs.StayingFits.{what_fits_fits_still}

-- ---- lists
all_map : {A B : Type 0} (f : A → B) (P : B → Type 0) (xs : List A) → All (λ x. P (f x)) xs → All P (map f xs)
all_map f P [] h = All-nil P
all_map f P (x ∷ xs) h = All-cons P (f x) (map f xs) (All-head (λ x. P (f x)) x xs h) (all_map f P xs (All-tail (λ x. P (f x)) x xs h))

-- ---- one summand, at one signature and one pool
module _ (h : Sig) (us : List Tree) (table : IsTable h) (complete : IsComplete h) (params : List VarId) (v : VarId) (vs : All (IsVariable h) params) (vv : IsVariable h v) (sv : sort_of_variable h v ≡ pos_sort) (of : IsVariableOf h v pos_sort) where
  abbrev all_params : List VarId
  all_params = params ++ v ∷ []

  params_sorts : map (sort_of_variable h) all_params ≡ map (sort_of_variable h) params ++ pos_sort ∷ []
  params_sorts = map-append (sort_of_variable h) params (v ∷ []) ∙ ap (λ s. map (sort_of_variable h) params ++ s ∷ []) sv

  pub terms_with : (ids : List TermId) (ts : List Tree) (t : Tree) → AreIn us ids → trees_at us ids ≡ ts ++ t ∷ [] → HaveTreeSorts h (trees_of ts) (map (sort_of_variable h) params) → HasTreeSort h t pos_sort → AreTermsOf h us (map (sort_of_variable h) all_params) ids
  terms_with ids ts t w e k l = record {
    within = w;
    sorted = subst (λ z. HaveTreeSorts h (trees_of z) (map (sort_of_variable h) all_params)) (sym e)
        (subst (λ ss. HaveTreeSorts h (trees_of (ts ++ t ∷ [])) ss) (sym params_sorts) (tree_sorts_append h ts (t ∷ []) (map (sort_of_variable h) params) (pos_sort ∷ []) k (l, tt)));
  }

  next_fits : (next : Option (List TermId)) (made : List TermId) → IfSome next (AreTermsOf h us (map (sort_of_variable h) params)) → AreIn us made → trees_at us made ≡ sealed_next_trees params v (option_map (trees_at us) next)
      → AreTermsOf h us (map (sort_of_variable h) all_params) made
  next_fits None made k w e = terms_with made (map variable params) (number_tree 2) w e (variables_sorted h params vs) (number_sorted h complete 2 (omega arith) (lit< tt))
  next_fits (Some ids) made k w e = terms_with made (trees_at us ids) (variable v) w e k.sorted of

  -- a label with the same trees
  label_fits : (m n : List PlainAction) → trees_of_label us n ≡ trees_of_label us m → All (IsActionOf h us) m → All (IsActionIn us) n → All (IsActionOf h us) n
  label_fits [] [] e k w = All-nil (IsActionOf h us)
  label_fits [] (b ∷ n) e k w = cc
  label_fits (a ∷ m) [] e k w = cc
  label_fits (a ∷ m) (b ∷ n) e k w =
      let heads : trees_of_action us b ≡ trees_of_action us a = cc in
      let tails : trees_of_label us n ≡ trees_of_label us m = cc in
      let own = All-head (IsActionOf h us) a m k in
      All-cons (IsActionOf h us) b n
      (record {
        key = own.key;
        stands = subst (λ (z : TreeAction). slice_get h.actions z.act.0 ≡ Some own.key) (sym heads) own.stands;
        args = record { within = All-head (IsActionIn us) b n w; sorted = subst (λ (z : TreeAction). HaveTreeSorts h (trees_of z.args) own.key.sorts) (sym heads) own.args.sorted };
      })
      (label_fits m n tails (All-tail (IsActionOf h us) a m k) (All-tail (IsActionIn us) b n w))

  some_next : (next : Option (List TermId)) (ts : List Tree) → IfSome next (AreIn us) → option_map (trees_at us) next ≡ Some ts → (made : List TermId) × ((next ≡ Some made) × (AreIn us made × (trees_at us made ≡ ts)))
  some_next None ts w e = cc
  some_next (Some made) ts w e = (made, (refl, (w, some_same e)))
    where
      some_same : {ts us : List Tree} → Some ts ≡ Some us → ts ≡ us
      some_same e = cc

  pub summand_fits : (s t : PlainSummand) → trees_of_summand us t ≡ sealed_tree params v (trees_of_summand us s) → IsSummandIn us t → SummandFits h us params s → SummandFits h us all_params t
  summand_fits s t e w k =
      let n = some_next t.next (sealed_next_trees params v (option_map (trees_at us) s.next)) w.next (ap (λ (z : TreeSummand). z.next) e) in
      record {
        sums = subst (λ xs. All (IsVariable h) xs) (sym (ap (λ (z : TreeSummand). z.sums) e)) k.sums;
        condition = record { within = w.condition; sorted = subst (λ z. HasTreeSort h z bool_sort) (sym (ap (λ (z : TreeSummand). z.condition) e)) (sealed_condition_sorted h complete v (tree_at us s.condition) of k.condition.sorted) };
        label = label_fits s.label t.label (ap (λ (z : TreeSummand). z.label) e) k.label w.label;
        next = subst (λ o. IfSome o (AreTermsOf h us (map (sort_of_variable h) all_params))) (sym n.1.0) (next_fits s.next n.0 k.next n.1.1.0 n.1.1.1);
      }

  no_args : (ids : List TermId) → trees_at us ids ≡ [] → ids ≡ []
  no_args [] e = refl
  no_args (id ∷ ids) e = cc

  last_label_fits : (act : ActId) (entry : Key) (n : List PlainAction) → slice_get h.actions act.0 ≡ Some entry → entry.sorts ≡ [] → trees_of_label us n ≡ record { act = act; args = [] } ∷ [] → All (IsActionOf h us) n
  last_label_fits act entry [] at none e = cc
  last_label_fits act entry (a ∷ b ∷ n) at none e = cc
  last_label_fits act entry (a ∷ []) at none e =
      let heads : trees_of_action us a ≡ record { act = act; args = [] } = cc in
      let empty : a.args ≡ [] = no_args a.args (ap (λ (z : TreeAction). z.args) heads) in
      All-cons (IsActionOf h us) a []
      (record {
        key = entry;
        stands = subst (λ (z : TreeAction). slice_get h.actions z.act.0 ≡ Some entry) (sym heads) at;
        args = subst (λ ids. AreTermsOf h us entry.sorts ids) (sym empty) (subst (λ ss. AreTermsOf h us ss []) (sym none) (record { within = All-nil (IsIn us); sorted = tt }));
      })
      (All-nil (IsActionOf h us))

  pub last_fits : (act : ActId) (entry : Key) (t : PlainSummand) → slice_get h.actions act.0 ≡ Some entry → entry.sorts ≡ [] → trees_of_summand us t ≡ last_tree params v act → IsSummandIn us t → SummandFits h us all_params t
  last_fits act entry t at none e w =
      let n = some_next t.next (map variable params ++ number_tree 3 ∷ []) w.next (ap (λ (z : TreeSummand). z.next) e) in
      record {
        sums = subst (λ xs. All (IsVariable h) xs) (sym (ap (λ (z : TreeSummand). z.sums) e)) (All-nil (IsVariable h));
        condition = record { within = w.condition; sorted = subst (λ z. HasTreeSort h z bool_sort) (sym (ap (λ (z : TreeSummand). z.condition) e)) (phase_sorted h complete v 2 (omega arith) (lit< tt) of) };
        label = last_label_fits act entry t.label at none (ap (λ (z : TreeSummand). z.label) e);
        next = subst (λ o. IfSome o (AreTermsOf h us (map (sort_of_variable h) all_params))) (sym n.1.0)
            (terms_with n.0 (map variable params) (number_tree 3) n.1.1.0 n.1.1.1 (variables_sorted h params vs) (number_sorted h complete 3 (omega arith) (lit< tt)));
      }

  -- ---- all summands
  pub all_fit : (ss made : List PlainSummand) → map (trees_of_summand us) made ≡ map (sealed_tree params v) (map (trees_of_summand us) ss) → All (IsSummandIn us) made → All (SummandFits h us params) ss → All (SummandFits h us all_params) made
  all_fit [] [] e w k = All-nil (SummandFits h us all_params)
  all_fit [] (t ∷ made) e w k = cc
  all_fit (s ∷ ss) [] e w k = cc
  all_fit (s ∷ ss) (t ∷ made) e w k =
      let heads : trees_of_summand us t ≡ sealed_tree params v (trees_of_summand us s) = cc in
      let tails : map (trees_of_summand us) made ≡ map (sealed_tree params v) (map (trees_of_summand us) ss) = cc in
      All-cons (SummandFits h us all_params) t made (summand_fits s t heads (All-head (IsSummandIn us) t made w) (All-head (SummandFits h us params) s ss k)) (all_fit ss made tails (All-tail (IsSummandIn us) t made w) (All-tail (SummandFits h us params) s ss k))

  pub all_mean : (ss : List PlainSummand) → All (SummandFits h us params) ss → map (meant_summand h) (map (sealed_tree params v) (map (trees_of_summand us) ss)) ≡ map (sealed_summand (map (bound_at (entries_of h us)) params) v.0) (map (summand_of (entries_of h us)) ss)
  all_mean [] k = refl
  all_mean (s ∷ ss) k =
      let f = All-head (SummandFits h us params) s ss k in
      ap₂ (λ x xs. x ∷ xs)
      (sealed_tree_means h table complete us params v (trees_of_summand us s) (sorted_trees_are_within h table (tree_at us s.condition) bool_sort f.condition.sorted)
      ∙ ap (sealed_summand (map (bound_at (entries_of h us)) params) v.0) (sym (summand_read h us s (fitting_is_in h us params s f))))
      (all_mean ss (All-tail (SummandFits h us params) s ss k))

  -- the sums are those of before
  pub sums_stay : (P : List VarId → Type 0) (ss made : List PlainSummand) → map (trees_of_summand us) made ≡ map (sealed_tree params v) (map (trees_of_summand us) ss) → All (λ (s : PlainSummand). P s.sums) ss → All (λ (s : PlainSummand). P s.sums) made
  sums_stay P [] [] e k = All-nil (λ (s : PlainSummand). P s.sums)
  sums_stay P [] (t ∷ made) e k = cc
  sums_stay P (s ∷ ss) [] e k = cc
  sums_stay P (s ∷ ss) (t ∷ made) e k =
      let heads : trees_of_summand us t ≡ sealed_tree params v (trees_of_summand us s) = cc in
      let tails : map (trees_of_summand us) made ≡ map (sealed_tree params v) (map (trees_of_summand us) ss) = cc in
      All-cons (λ (s : PlainSummand). P s.sums) t made (subst P (sym (ap (λ (z : TreeSummand). z.sums) heads)) (All-head (λ (s : PlainSummand). P s.sums) s ss k)) (sums_stay P ss made tails (All-tail (λ (s : PlainSummand). P s.sums) s ss k))

-- ---- the whole process
-- new variables are none of the old ones
not_among : (g : Sig) (us : List Tree) (h : Sig) (v : VarId) → length g.variables ≤ v.0 → (xs : List VarId) → All (IsVariable g) xs → Contains (variables (map (bound_at (entries_of h us)) xs)) v.0 → ⊥
not_among g us h v new xs own i =
    let r = contains_map (λ (x : VarId). x.0) xs v.0 (subst (λ z. Contains z v.0) (numbers_meant h us xs) i) in
    let low = All-contains (IsVariable g) xs r.0 own r.1.0 in
    let same = r.1.1 in
    omega (arith, low, new, same)

module _ (g h : Sig) (ts us : List Tree) (l k : PlainLinear) (act : ActId) (v : VarId) (ending : can_end l ≡ true) (old : IsSignature g) (new : IsSignature h) (grown : IsGrown g h) (extends : Extends ts us) (fits : Fits g ts l) (added : HasPhase g h act v) (params : k.params ≡ l.params ++ v ∷ []) (first : TermId) (init : k.init ≡ l.init ++ first ∷ []) (first_in : IsIn us first) (first_is : tree_at us first ≡ number_tree 1) (ss : List PlainSummand) (last : PlainSummand) (summands : k.summands ≡ ss ++ last ∷ []) (ss_in : All (IsSummandIn us) ss) (last_in : IsSummandIn us last) (are_sealed : map (trees_of_summand us) ss ≡ map (sealed_tree l.params v) (map (trees_of_summand ts) l.summands)) (last_is : trees_of_summand us last ≡ last_tree l.params v act) where
  grow : BothGrow g h ts us
  grow = record { signature = grown; pool = extends }

  fits_on : Fits h us l
  fits_on = what_fits_fits_still g h ts us l old.table old.complete new.table grow fits

  stays : (linear_of (entries_of h us) l ≡ linear_of (entries_of g ts) l) × (initial_of (entries_of h us) l ≡ initial_of (entries_of g ts) l)
  stays = what_fits_stays g h ts us l old.table old.complete grow fits

  phase_is_there : PhaseStands g h act v
  phase_is_there = phase_stands g h act v new added

  sealed_trees : map (trees_of_summand us) ss ≡ map (sealed_tree l.params v) (map (trees_of_summand us) l.summands)
  sealed_trees = are_sealed ∙ ap (map (sealed_tree l.params v)) (sym (summands_kept ts us extends l.summands (All-weaker (SummandFits g ts l.params) (IsSummandIn ts) (λ s f. fitting_is_in g ts l.params s f) l.summands fits.summands)))

  abbrev bounds : List Bound
  bounds = map (bound_at (entries_of h us)) l.params

  params_meant : map (bound_at (entries_of h us)) k.params ≡ bounds ++ phase v.0 ∷ []
  params_meant = ap (map (bound_at (entries_of h us))) params ∙ map-append (bound_at (entries_of h us)) l.params (v ∷ []) ∙ ap (λ b. bounds ++ b ∷ []) phase_is_there.bound

  summands_meant : map (summand_of (entries_of h us)) k.summands ≡ map (sealed_summand bounds v.0) (map (summand_of (entries_of h us)) l.summands) ++ last_summand bounds v.0 ∷ []
  summands_meant =
      ap (map (summand_of (entries_of h us))) summands
      ∙ map-append (summand_of (entries_of h us)) ss (last ∷ [])
      ∙ ap₂ (λ xs x. xs ++ x ∷ [])
      (summands_read h us ss ss_in ∙ ap (map (meant_summand h)) sealed_trees ∙ all_mean h us new.table new.complete l.params v fits_on.params phase_is_there.variable phase_is_there.sort phase_is_there.of_sort l.summands fits_on.summands)
      (summand_read h us last last_in ∙ ap (meant_summand h) last_is ∙ last_tree_means h new.table new.complete us l.params v act phase_is_there.action)

  linear_meant : linear_of (entries_of h us) k ≡ sealed v.0 (linear_of (entries_of h us) l)
  linear_meant = ap₂ (λ ps xs. record { params = ps; summands = xs }) params_meant summands_meant

  init_meant : initial_of (entries_of h us) k ≡ initial_of (entries_of h us) l ++ phase_running ∷ []
  init_meant =
      ap (map (term_at (entries_of h us))) init
      ∙ map-append (term_at (entries_of h us)) l.init (first ∷ [])
      ∙ ap (λ t. initial_of (entries_of h us) l ++ t ∷ []) (term_is h us first first_in ∙ ap (term_under h) first_is ∙ number_means h new.table new.complete 1)

  apart : IsApart v.0 (linear_of (entries_of h us) l)
  apart = record {
    params = not_among g us h v phase_is_there.new l.params fits.params;
    sums = λ s i j.
        let r = contains_map (summand_of (entries_of h us)) l.summands s i in
        not_among g us h v phase_is_there.new r.0.sums (All-contains (SummandFits g ts l.params) l.summands r.0 fits.summands r.1.0).sums (subst (λ (z : theory.Summand). Contains (variables z.sums) v.0) r.1.1 j);
  }

  init_terms : AreTermsOf h us (map (sort_of_variable h) (l.params ++ v ∷ [])) (l.init ++ first ∷ [])
  init_terms =
      terms_with h us new.table new.complete l.params v fits_on.params phase_is_there.variable phase_is_there.sort phase_is_there.of_sort (l.init ++ first ∷ []) (trees_at us l.init) (number_tree 1)
      (All-push (IsIn us) l.init first fits_on.init.within first_in) (map-append (tree_at us) l.init (first ∷ []) ∙ ap (λ t. trees_at us l.init ++ t ∷ []) first_is) fits_on.init.sorted (number_sorted h new.complete 1 (omega arith) (lit< tt))

  closed : HaveSorts (data_meant h) [] (terms_of (initial_of (entries_of h us) k)) (sorts (linear_of (entries_of h us) k).params)
  closed =
      subst (λ z. HaveSorts (data_meant h) [] (terms_of z) (sorts (linear_of (entries_of h us) k).params)) (sym init_meant)
      (subst (λ z. HaveSorts (data_meant h) [] (terms_of (initial_of (entries_of h us) l ++ phase_running ∷ [])) (sorts z)) (sym params_meant)
      (columns_sorted (data_meant h) [] bounds (phase v.0 ∷ []) (initial_of (entries_of h us) l) (phase_running ∷ []) fits_on.closed ((refl, one_two_three 0 (omega arith)), tt)))

  each_fits : All (SummandFits h us (l.params ++ v ∷ [])) (ss ++ last ∷ [])
  each_fits =
      All-push (SummandFits h us (l.params ++ v ∷ [])) ss last
      (all_fit h us new.table new.complete l.params v fits_on.params phase_is_there.variable phase_is_there.sort phase_is_there.of_sort l.summands ss sealed_trees ss_in fits_on.summands)
      (last_fits h us new.table new.complete l.params v fits_on.params phase_is_there.variable phase_is_there.sort phase_is_there.of_sort act phase_is_there.entry last phase_is_there.stands phase_is_there.no_arguments last_is last_in)

  pub sealed_fits : Fits h us k
  sealed_fits = record {
    params = subst (λ xs. All (IsVariable h) xs) (sym params) (All-push (IsVariable h) l.params v fits_on.params phase_is_there.variable);
    init = subst (λ xs. AreTermsOf h us (map (sort_of_variable h) xs) k.init) (sym params) (subst (λ ids. AreTermsOf h us (map (sort_of_variable h) (l.params ++ v ∷ [])) ids) (sym init) init_terms);
    closed = closed;
    summands = subst (λ xs. All (SummandFits h us xs) k.summands) (sym params) (subst (λ zs. All (SummandFits h us (l.params ++ v ∷ [])) zs) (sym summands) each_fits);
    linear = subst IsLinear (sym linear_meant) (sealed_linear v.0 (linear_of (entries_of h us) l) fits_on.linear apart);
    taken = subst (λ xs. All (HasTakenName h) xs) (sym params) (All-push (HasTakenName h) l.params v fits_on.taken phase_is_there.taken);
    sums_taken = subst (λ zs. All (λ (s : PlainSummand). All (HasTakenName h) s.sums) zs) (sym summands)
        (All-push (λ (s : PlainSummand). All (HasTakenName h) s.sums) ss last
        (sums_stay h us new.table new.complete l.params v fits_on.params phase_is_there.variable phase_is_there.sort phase_is_there.of_sort (All (HasTakenName h)) l.summands ss sealed_trees fits_on.sums_taken)
        (subst (λ xs. All (HasTakenName h) xs) (sym (ap (λ (z : TreeSummand). z.sums) last_is)) (All-nil (HasTakenName h))));
  }

  pub is_sealed : IsSealed g ts l h us k
  is_sealed = it_is_sealed act v ending added params (linear_meant ∙ ap (sealed v.0) stays.0) (init_meant ∙ ap (λ z. z ++ phase_running ∷ []) stays.1)

  pub sealed_never_ends : NeverEnds (linear_of (entries_of h us) k)
  sealed_never_ends = subst NeverEnds (sym linear_meant) (never_ends v.0 (linear_of (entries_of h us) l))

  -- over each consistent theory that goes on from the signature
  pub sealed_is_good : IsGoodOverWithTerminate h (Phased true (linear_of (entries_of g ts) l) (linear_of (entries_of h us) k)) (linear_state (entries_of g ts) l) (linear_state (entries_of h us) k)
  sealed_is_good th on con =
      let L = linear_of (entries_of h us) l in
      let well = linear_grown (data_meant h) th.declared on.grows (variable_sorts h) L (what_fits_is_sorted h us l new.table new.complete fits_on) in
      let declared : Declares (variable_sorts h) v.0 positive =
      subst (λ (b : Bound). Declares (variable_sorts h) b.var b.sort) phase_is_there.bound (variables_declared h us (v ∷ []) (All-cons (IsVariable h) v [] phase_is_there.variable (All-nil (IsVariable h))) (bound_at (entries_of h us) v) (contains_first (bound_at (entries_of h us) v) [])) in
      let starts = terms_grown (data_meant h) th.declared on.grows [] (terms_of (initial_of (entries_of h us) l)) (sorts L.params) fits_on.closed in
      let good = sealed_good th (variable_sorts h) v.0 L (initial_of (entries_of h us) l) con fits_on.linear well apart declared starts in
      subst (λ (z : theory.Linear). IsGoodWithTerminate th (Phased true z (linear_of (entries_of h us) k)) (state_of z (initial_of (entries_of g ts) l)) (linear_state (entries_of h us) k)) stays.0
      (subst (λ ins. IsGoodWithTerminate th (Phased true L (linear_of (entries_of h us) k)) (state_of L ins) (linear_state (entries_of h us) k)) stays.1
      (subst (λ (z : theory.Linear). IsGoodWithTerminate th (Phased true L z) (state_of L (initial_of (entries_of h us) l)) (state_of z (initial_of (entries_of h us) k))) (sym linear_meant)
      (subst (λ ins. IsGoodWithTerminate th (Phased true L (sealed v.0 L)) (state_of L (initial_of (entries_of h us) l)) (state_of (sealed v.0 L) ins)) (sym init_meant) good)))

  pub sealing_done : SealingDone g h ts us l k
  sealing_done = record { sealed = is_sealed; fits = sealed_fits; never_ends = sealed_never_ends; bisimilar = λ th on con. subst (λ b. IsGoodWithTerminate th (Phased b (linear_of (entries_of g ts) l) (linear_of (entries_of h us) k)) (linear_state (entries_of g ts) l) (linear_state (entries_of h us) k)) (sym ending) (sealed_is_good th on con) }

-- ---- as the code makes it
pub are_all_sealed : (ts t1 us : List Tree) (l : PlainLinear) (v : VarId) (act : ActId) (made : List Summand) (last : Summand) (all : List Summand) (params : List VarId) (olds : List PlainSummand) → all ≡ made ++ last ∷ [] → Extends t1 us → All (IsSummandIn t1) (map plain_summand made)
    → IsSummandIn us (plain_summand last) → params ≡ l.params → olds ≡ l.summands → map (trees_of_summand t1) (map plain_summand made) ≡ map (sealed_tree params v) (map (trees_of_summand ts) olds) → trees_of_summand us (plain_summand last) ≡ last_tree params v act
    → AreSealed ts us l v act (map plain_summand all)
are_all_sealed ts t1 us l v act made last all params olds e x w z p q h k = record {
  sealed = map plain_summand made;
  last = plain_summand last;
  are = ap (map plain_summand) e ∙ map-append plain_summand made (last ∷ []);
  within = All-weaker (IsSummandIn t1) (IsSummandIn us) (λ s j. summand_in_kept t1 us x s j) (map plain_summand made) w;
  last_within = z;
  are_sealed = summands_kept t1 us x (map plain_summand made) w ∙ h ∙ ap₂ (λ ps ss. map (sealed_tree ps v) (map (trees_of_summand ts) ss)) p q;
  last_is = k ∙ ap (λ ps. last_tree ps v act) p;
}

pub ending_done : (g h : Sig) (ts t1 us : List Tree) (l k : PlainLinear) (act : ActId) (v : VarId) → can_end l ≡ true → IsSignature g → IsSignature h → IsGrown g h → Extends ts t1 → Extends t1 us → Fits g ts l → HasPhase g h act v → k.params ≡ l.params ++ v ∷ [] → (first : TermId)
    → k.init ≡ l.init ++ first ∷ [] → IsIn us first → tree_at us first ≡ number_tree 1 → AreSealed ts t1 l v act k.summands → SealingDone g h ts us l k
ending_done g h ts t1 us l k act v ending old new grown e x fits added params first init first_in first_is a =
    sealing_done g h ts us l k act v ending old new grown (extends_on ts t1 us e x) fits added params first init first_in first_is a.sealed a.last a.are
    (All-weaker (IsSummandIn t1) (IsSummandIn us) (λ s j. summand_in_kept t1 us x s j) a.sealed a.within) (summand_in_kept t1 us x a.last a.last_within)
    (summands_kept t1 us x a.sealed a.within ∙ a.are_sealed) (summand_kept t1 us x a.last a.last_within ∙ a.last_is)

-- ---- what can't end
pub staying_good : (g : Sig) (ts : List Tree) (l : PlainLinear) → IsSignature g → Fits g ts l → can_end l ≡ false → SealingIsGood g ts l g ts l
staying_good g ts l s fits stays th on con =
    let L = linear_of (entries_of g ts) l in
    subst (λ b. IsGoodWithTerminate th (Phased b L L) (linear_state (entries_of g ts) l) (linear_state (entries_of g ts) l)) (sym stays)
    (never_ending_good th (variable_sorts g) L (initial_of (entries_of g ts) l) fits.linear
    (linear_grown (data_meant g) th.declared on.grows (variable_sorts g) L (what_fits_is_sorted g ts l s.table s.complete fits)) (what_cannot_end_never_ends (entries_of g ts) l stays)
    (terms_grown (data_meant g) th.declared on.grows [] (terms_of (initial_of (entries_of g ts) l)) (sorts L.params) fits.closed))
