-- What summands in code with the parameter of the first step mean, and that they fit.
use Rattle.std.proofs.Common.{◌≡◌, Bool, true, false, List, [], ◌∷◌, ◌++◌, map, refl, sym, ap, ap₂, ◌∙◌, subst, if◌then◌else◌, Option, Some, None}
use Rattle.std.specs.Prelude.{option_map, IfSome}
use Rattle.std.specs.List.{All, AllZip}
use Rattle.std.proofs.lemmas.List.{map-append}
use Rattle.std.proofs.lemmas.List.Elements.{All-nil, All-cons, All-head, All-tail}
use Rattle.data_theory.specs.declared.ids.TermId.{TermId}
use Rattle.data_theory.specs.declared.ids.VarId.{VarId}
use Rattle.data_theory.specs.Table.{bool_sort}
use Rattle.data_theory.specs.Terms.{Term, variable as var, application, none as no_terms, more as and_more}
use Rattle.data_theory.specs.Signature.{Sig}
use Rattle.data_theory.specs.SignatureLaws.{HasTruthFunctions}
use Rattle.data_theory.specs.WholeSignatures.{IsSignature}
use Rattle.data_theory.specs.IdTrees.{Tree, variable}
use Rattle.data_theory.specs.IdTreeSorts.{IsVariableOf, HasTreeSort}
use Rattle.data_theory.specs.IdTerms.{term_under, IsTreeWithin}
use Rattle.data_theory.proofs.IdTermLemmas.{sorted_trees_are_within}
use Rattle.data_theory.proofs.StandingLemmas.{signatures_have_truth_functions}
use Rattle.term_pool.specs.HeadTrees.{tree_at, IsIn}
use Rattle.process_terms.specs.Labels.{Label}
use Rattle.process_terms.specs.Communication.{conjunction_of}
use Rattle.process_terms.specs.Meanings.{Entries, bound_at, term_at, label_of}
use Rattle.process_terms.specs.SignatureEntries.{entries_of}
use Rattle.bisim_laws.specs.LinearProcesses as theory
use Rattle.lps_core.specs.Fitting.{SummandFits, AreTermsOf, IsActionOf, IsVariable, sort_of_variable, HasTakenName}
use Rattle.lps_core.specs.PlainLinears.{PlainSummand, summand_of}
use Rattle.lps_core.specs.TreeConditions.{tree_parts, trees_without_true}
use Rattle.lps_core.proofs.MeantParts.{parts_mean_parts, chains_mean_chains}
use Rattle.lps_core.proofs.Staying.{term_is}
use Rattle.summand_expander.specs.declared.starts.FirstFlag.{FirstFlag}
use Rattle.summand_expander.specs.FirstSteps.{first_condition, first_after, one_column_more, started, started_summands}
use Rattle.summand_expander.specs.Frames.{not_tree}
use Rattle.summand_expander.specs.SideFits.{IsFlagOf}
use Rattle.summand_expander.specs.StartedTrees.{HasFlagTerms, started_condition, started_next, IsStartedSummand}
use Rattle.summand_expander.proofs.FittingDrafts.{terms_append, false_sorted, not_sorted, chain_sorted, parts_sorted, without_true_sorted}
use Rattle.summand_expander.proofs.NewVariables.{variable_sorted}

-- At one signature and one pool, for summands over some parameters.
module _ (h : Sig) (whole : IsSignature h) (us : List Tree) (x : FirstFlag) (terms : HasFlagTerms us x) (is : IsFlagOf h x.var) (params : List VarId) where
  abbrev e : Entries
  e = entries_of h us

  abbrev after_id : Bool → TermId
  after_id may = if may then x.unset else x.column

  truths : HasTruthFunctions h
  truths = signatures_have_truth_functions h whole

  -- ---- meaning
  condition_means : (may : Bool) (t : Tree) → IsTreeWithin h t → term_under h (started_condition x.var may t) ≡ first_condition x.var.0 may (term_under h t)
  condition_means true t w = refl
  condition_means false t w =
      chains_mean_chains h whole.table whole.complete (not_tree (variable x.var) ∷ trees_without_true (tree_parts t))
      ∙ ap₂ (λ c cs. conjunction_of (c ∷ cs)) (ap (λ y. application y (and_more (var x.var.0) no_terms)) truths.not_means) (parts_mean_parts h whole.table whole.complete t w)

  after_means : (may : Bool) → term_at e (after_id may) ≡ first_after x.var.0 may
  after_means true = term_is h us x.unset terms.unset_in ∙ ap (term_under h) terms.unset ∙ ap (λ y. application y no_terms) truths.false_means
  after_means false = term_is h us x.column terms.column_in ∙ ap (term_under h) terms.column

  next_means : (may : Bool) (n : Option (List TermId)) → option_map (map (term_at e)) (started_next (after_id may) n) ≡ one_column_more (first_after x.var.0 may) (option_map (map (term_at e)) n)
  next_means may None = refl
  next_means may (Some ids) = ap Some (map-append (term_at e) ids (after_id may ∷ []) ∙ ap (λ t. map (term_at e) ids ++ t ∷ []) (after_means may))

  abbrev meant : List VarId → Term → Label → Option (List Term) → theory.Summand
  meant xs c m n = record { sums = map (bound_at e) xs; condition = c; label = m; next = n }

  summand_means : (may : Bool) (s t : PlainSummand) → IsStartedSummand us us x may s t → SummandFits h us params s → summand_of e t ≡ started x.var.0 may (summand_of e s)
  summand_means may s t i k =
      let within = sorted_trees_are_within h whole.table (tree_at us s.condition) bool_sort k.condition.sorted in
      let c : term_at e t.condition ≡ first_condition x.var.0 may (term_at e s.condition) =
      term_is h us t.condition i.condition_in ∙ ap (term_under h) i.condition ∙ condition_means may (tree_at us s.condition) within ∙ ap (first_condition x.var.0 may) (sym (term_is h us s.condition k.condition.within)) in
      ap (λ xs. meant xs (term_at e t.condition) (label_of e t.label) (option_map (map (term_at e)) t.next)) i.sums
      ∙ ap₂ (λ y l. meant s.sums y (label_of e l) (option_map (map (term_at e)) t.next)) c i.label
      ∙ ap (meant s.sums (first_condition x.var.0 may (term_at e s.condition)) (label_of e s.label)) (ap (option_map (map (term_at e))) i.next ∙ next_means may s.next)

  pub group_means : (may : Bool) (ss made : List PlainSummand) → AllZip (IsStartedSummand us us x may) ss made → All (SummandFits h us params) ss → map (summand_of e) made ≡ started_summands x.var.0 may (map (summand_of e) ss)
  group_means may [] [] z k = refl
  group_means may [] (t ∷ made) z k = absurd z
  group_means may (s ∷ ss) [] z k = absurd z
  group_means may (s ∷ ss) (t ∷ made) z k = ap₂ (λ y ys. y ∷ ys) (summand_means may s t z.0 (All-head (SummandFits h us params) s ss k)) (group_means may ss made z.1 (All-tail (SummandFits h us params) s ss k))

  -- ---- fitting
  abbrev IsBool : Tree → Type 0
  IsBool t = HasTreeSort h t bool_sort

  pub flag_sorted : IsBool (variable x.var)
  flag_sorted = subst (λ s. IsVariableOf h x.var s) is.sort (variable_sorted h x.var is.variable)

  condition_sorted : (may : Bool) (t : Tree) → IsBool t → IsBool (started_condition x.var may t)
  condition_sorted true t k = k
  condition_sorted false t k =
      let rest = trees_without_true (tree_parts t) in
      chain_sorted h truths (not_tree (variable x.var) ∷ rest) (All-cons IsBool (not_tree (variable x.var)) rest (not_sorted h truths x.var flag_sorted) (without_true_sorted h (tree_parts t) (parts_sorted h truths t k)))

  one_term : (id : TermId) → IsIn us id → IsBool (tree_at us id) → AreTermsOf h us (bool_sort ∷ []) (id ∷ [])
  one_term id i k = record { within = All-cons (IsIn us) id [] i (All-nil (IsIn us)); sorted = (k, tt) }

  after_fits : (may : Bool) → AreTermsOf h us (bool_sort ∷ []) (after_id may ∷ [])
  after_fits true = one_term x.unset terms.unset_in (subst IsBool (sym terms.unset) (false_sorted h truths))
  after_fits false = one_term x.column terms.column_in (subst IsBool (sym terms.column) flag_sorted)

  pub params_sorts : map (sort_of_variable h) (params ++ x.var ∷ []) ≡ map (sort_of_variable h) params ++ bool_sort ∷ []
  params_sorts = map-append (sort_of_variable h) params (x.var ∷ []) ∙ ap (λ s. map (sort_of_variable h) params ++ s ∷ []) is.sort

  pub one_more_fits : (ids : List TermId) (id : TermId) → AreTermsOf h us (map (sort_of_variable h) params) ids → AreTermsOf h us (bool_sort ∷ []) (id ∷ []) → AreTermsOf h us (map (sort_of_variable h) (params ++ x.var ∷ [])) (ids ++ id ∷ [])
  one_more_fits ids id k l = subst (λ ss. AreTermsOf h us ss (ids ++ id ∷ [])) (sym params_sorts) (terms_append h us (map (sort_of_variable h) params) (bool_sort ∷ []) ids (id ∷ []) k l)

  next_fits : (may : Bool) (n : Option (List TermId)) → IfSome n (AreTermsOf h us (map (sort_of_variable h) params)) → IfSome (started_next (after_id may) n) (AreTermsOf h us (map (sort_of_variable h) (params ++ x.var ∷ [])))
  next_fits may None k = tt
  next_fits may (Some ids) k = one_more_fits ids (after_id may) k (after_fits may)

  summand_fits : (may : Bool) (s t : PlainSummand) → IsStartedSummand us us x may s t → SummandFits h us params s → SummandFits h us (params ++ x.var ∷ []) t
  summand_fits may s t i k = record {
    sums = subst (λ xs. All (IsVariable h) xs) (sym i.sums) k.sums;
    condition = record { within = i.condition_in; sorted = subst IsBool (sym i.condition) (condition_sorted may (tree_at us s.condition) k.condition.sorted) };
    label = subst (λ l. All (IsActionOf h us) l) (sym i.label) k.label;
    next = subst (λ n. IfSome n (AreTermsOf h us (map (sort_of_variable h) (params ++ x.var ∷ [])))) (sym i.next) (next_fits may s.next k.next);
  }

  pub group_fits : (may : Bool) (ss made : List PlainSummand) → AllZip (IsStartedSummand us us x may) ss made → All (SummandFits h us params) ss → All (SummandFits h us (params ++ x.var ∷ [])) made
  group_fits may [] [] z k = All-nil (SummandFits h us (params ++ x.var ∷ []))
  group_fits may [] (t ∷ made) z k = absurd z
  group_fits may (s ∷ ss) [] z k = absurd z
  group_fits may (s ∷ ss) (t ∷ made) z k =
      All-cons (SummandFits h us (params ++ x.var ∷ [])) t made (summand_fits may s t z.0 (All-head (SummandFits h us params) s ss k)) (group_fits may ss made z.1 (All-tail (SummandFits h us params) s ss k))

-- the sums stay
pub group_taken : (g : Sig) (ts us : List Tree) (x : FirstFlag) (may : Bool) (ss made : List PlainSummand) → AllZip (IsStartedSummand ts us x may) ss made → All (λ (s : PlainSummand). All (HasTakenName g) s.sums) ss
    → All (λ (s : PlainSummand). All (HasTakenName g) s.sums) made
group_taken g ts us x may [] [] z k = All-nil (λ (s : PlainSummand). All (HasTakenName g) s.sums)
group_taken g ts us x may [] (t ∷ made) z k = absurd z
group_taken g ts us x may (s ∷ ss) [] z k = absurd z
group_taken g ts us x may (s ∷ ss) (t ∷ made) z k =
    let P : PlainSummand → Type 0 = λ s. All (HasTakenName g) s.sums in
    All-cons P t made (subst (λ xs. All (HasTakenName g) xs) (sym z.0.sums) (All-head P s ss k)) (group_taken g ts us x may ss made z.1 (All-tail P s ss k))
