-- What is printed for a linear process that fits a signature can be read.
use Rattle.std.proofs.Common.{◌≡◌, ◌<◌, inl, inr, ⊎_elim, ℕ, zero, Bool, true, false, List, [], ◌∷◌, ◌++◌, ◌+◌, suc, length, map, get_or, codes, Option, Some, None, refl, sym, ap, ap₂, ◌∙◌, subst, arith, append-nil, length-append}
use Rattle.std.specs.Prelude.{slice_get, option_map}
use Rattle.std.specs.List.{All, AllByRecursion, Contains, flat_map}
use Rattle.std.proofs.lemmas.Bool.{cases_lt}
use Rattle.std.proofs.lemmas.List.{length-map, get_or_past}
use Rattle.std.proofs.lemmas.List.Elements.{All-nil, All-cons, All-head, All-tail, All-contains, Contains-get_or, Contains-append_left, Contains-append_right, Contains-append_cases}
use Rattle.data_theory.specs.declared.ids.FunId.{FunId}
use Rattle.data_theory.specs.declared.ids.NameId.{NameId}
use Rattle.data_theory.specs.declared.ids.SortId.{SortId}
use Rattle.data_theory.specs.declared.ids.TermId.{TermId}
use Rattle.data_theory.specs.declared.ids.VarId.{VarId}
use Rattle.data_theory.specs.Terms.{Sort, list, Term}
use Rattle.data_theory.specs.Declarations.{Construction, Declares, HaveSorts}
use Rattle.data_theory.specs.Environments.{terms_of, Apart}
use Rattle.data_theory.specs.Equations.{trueᵗ}
use Rattle.data_theory.specs.Keys.{Key}
use Rattle.data_theory.specs.Functions.{Function, declared_function}
use Rattle.data_theory.specs.Sorts.{SortInfo}
use Rattle.data_theory.specs.Complete.{IsFunctionWithin, IsActionWithin}
use Rattle.data_theory.specs.Signature.{Sig}
use Rattle.data_theory.specs.IdSorts.{construction_of, constructions}
use Rattle.data_theory.specs.IdData.{data_meant}
use Rattle.data_theory.specs.IdTerms.{sort_under, term_under, terms_under, variable_sorts}
use Rattle.data_theory.specs.IdTrees as trees
use Rattle.data_theory.specs.IdTrees.{Tree, Trees}
use Rattle.data_theory.specs.WholeSignatures.{IsSignature}
use Rattle.data_theory.proofs.PlaceLemmas.{contains_read}
use Rattle.data_theory.proofs.IdSymbolLemmas.{holds_at}
use Rattle.term_pool.proofs.Lists.{contains_none, contains_cons, contains_head, contains_tail, contains_map, contained_from_map}
use Rattle.process_terms.specs.Labels.{Action}
use Rattle.process_terms.specs.Processes.{Bound}
use Rattle.process_terms.specs.PlainProcesses.{PlainAction}
use Rattle.process_terms.specs.Meanings.{Entries, bound_at, term_at, action_of, label_of}
use Rattle.process_terms.specs.SignatureEntries.{entries_of, BothGrow}
use Rattle.bisim_laws.specs.LinearProcesses.{Summand, variables, sorts, LabelIsSorted, action_sorted, NextIsSorted, next_sorted, SummandIsSorted, IsWellSorted, IsSummand}
use Rattle.lps_core.specs.Fitting.{Fits, SummandFits, IsActionOf, IsVariable, HasTakenName}
use Rattle.lps_core.specs.Naming.{name_of, names_of, IsUsed, list_names, table_names, function_names, HasOwnNames}
use Rattle.lps_core.specs.PlainLinears.{PlainSummand, PlainLinear, summand_of, linear_of, initial_of}
use Rattle.lps_core.proofs.FunctionNames.{list_names_stay}
use Rattle.lps_core.proofs.NamedSums.{variable_kept, name_kept, taken_name}
use Rattle.lps_core.proofs.Members.{map_contains}
use Rattle.lps_core.proofs.Staying.{variables_declared, action_is, summand_stays, what_fits_is_sorted, what_fits_stays}
use Rattle.lps_core.proofs.StayingFits.{what_fits_fits_still}
use Rattle.sort_table.specs.Expressions.{Name}
use Rattle.sort_table.specs.NamedLists.{all_named}
use Rattle.sort_table.specs.SignatureVocabularies.{text_under, function_name_of, vocabulary_of}
use Rattle.data_typing.specs.Meanings.{Scope, meaning}
use Rattle.sort_checker.specs.FullVocabularies.{FullVocabulary, process_named}
use Rattle.sort_checker.specs.Scopes.{numbers_of}
use Rattle.lps_printer.specs.DataLayout.{IsIdentifier}
use Rattle.lps_printer.specs.ReadableNames.{AreWritable, ReadsNames}
use Rattle.lps_printer.specs.EmptyLists.{HasNils, AllNilsAmong, HasNoUnknown, HaveNoUnknown}
use Rattle.lps_printer.specs.WrittenProcesses.{TextNames, bound_named, scope_behind}
use Rattle.lps_printer.specs.LinearBack.{ActionReads, SummandReads, parameters_of}
use Rattle.lps_printer.specs.SummandTexts.{HaveIdentifiers, HasIdentifiers}
use Rattle.lps_printer.specs.FilledLinears.{Constants, filled_terms, filled_action, filled_label, filled_summand, filled_linear}
use Rattle.lps_printer.specs.SignatureNames.{declared_name_of, text_or_none, sort_names, text_names_under}
use Rattle.lps_printer.specs.AddedConstants.{AddsConstants, AreConstants}
use Rattle.lps_printer.specs.NeededConstants.{nils, all_nils, nils_of, action_nils, label_nils, next_nils, summand_nils, linear_nils, Finds}
use Rattle.lps_printer.specs.GrowingByConstants.{GrowsByConstants}
use Rattle.lps_printer.specs.FittingLinears.{HasIdentifier, NamesAreIdentifiers, VariablesHaveOwnNames, CanBeRead, FittingLinearsRead}
use Rattle.lps_printer.proofs.NilsAmong.{nils_among, all_among, met_is_found}
use Rattle.lps_printer.proofs.ConstantNils.{added_constants_are_nils}
use Rattle.lps_printer.proofs.SortsBack.{sort_named}
use Rattle.lps_printer.proofs.VariableNames.{same_variable, variable_named, same_name, no_function}
use Rattle.lps_printer.proofs.VariableScopes.{AreOwn, behind, scope_is, behind_cases, numbers_behind, own_read, closed_read, can_bind, names_apart}
use Rattle.lps_printer.proofs.WritableLinears.{NextKnown, NextNils, CanFill, IsWrittenSummand, linear_still, summand_still, terms_filled, summand_filled, linear_filled}
use Rattle.lps_printer.proofs.SameNeeds.{constant_is_new, once_still, action_once_still, same_nils, same_list_nils}
use Rattle.lps_printer.proofs.DeclaredActions.{action_declared, action_alone}

-- ---- lists
each_of : {A : Type 0} (P : A → Type 0) (xs : List A) → ((x : A) → Contains xs x → P x) → AllByRecursion P xs
each_of P [] h = tt
each_of P (x ∷ xs) h = (h x (contains_head x xs), each_of P xs (λ y c. h y (contains_tail x y xs c)))

pub each_mapped : {A B : Type 0} (P : B → Type 0) (f : A → B) (xs : List A) → ((x : A) → Contains xs x → P (f x)) → AllByRecursion P (map f xs)
each_mapped P f [] h = tt
each_mapped P f (x ∷ xs) h = (h x (contains_head x xs), each_mapped P f xs (λ y c. h y (contains_tail x y xs c)))

contains_each : {A B : Type 0} (f : A → List B) (xs : List A) (x : A) (y : B) → Contains xs x → Contains (f x) y → Contains (flat_map f xs) y
contains_each f [] x y c k = absurd (contains_none x c)
contains_each f (z ∷ xs) x y c k =
    ⊎_elim (λ e. Contains-append_left (f z) (flat_map f xs) y (subst (λ w. Contains (f w) y) (sym e) k)) (λ j. Contains-append_right (f z) (flat_map f xs) y (contains_each f xs x y j k)) (contains_cons z x xs c)

-- ---- the terms of a pool have no unknown elements
mutual
  no_unknown : (g : Sig) (t : Tree) → HasNoUnknown (term_under g t)
  no_unknown g (trees.variable v) = tt
  no_unknown g (trees.numeral a z) = tt
  no_unknown g (trees.function f ts) = no_unknowns g ts

  no_unknowns : (g : Sig) (ts : Trees) → HaveNoUnknown (terms_under g ts)
  no_unknowns g trees.none = tt
  no_unknowns g (trees.more t ts) = (no_unknown g t, no_unknowns g ts)

entry_known : (g : Sig) (ts : List Tree) (k : ℕ) → HasNoUnknown (get_or (map (term_under g) ts) k trueᵗ)
entry_known g [] k = tt
entry_known g (t ∷ ts) zero = no_unknown g t
entry_known g (t ∷ ts) (suc k) = entry_known g ts k

terms_known : (g : Sig) (ts : List Tree) (ids : List TermId) → HaveNoUnknown (terms_of (map (term_at (entries_of g ts)) ids))
terms_known g ts [] = tt
terms_known g ts (id ∷ ids) = (entry_known g ts id.0, terms_known g ts ids)

label_known : (g : Sig) (ts : List Tree) (m : List PlainAction) → AllByRecursion (λ (a : Action). HaveNoUnknown (terms_of a.args)) (label_of (entries_of g ts) m)
label_known g ts [] = tt
label_known g ts (a ∷ m) = (terms_known g ts a.args, label_known g ts m)

next_known : (g : Sig) (ts : List Tree) (o : Option (List TermId)) → NextKnown (option_map (map (term_at (entries_of g ts))) o)
next_known g ts None = tt
next_known g ts (Some ids) = terms_known g ts ids

-- ---- empty lists in need
listed_nils : (o : ℕ → Bool) (b : Bool) (ts : List Term) → all_nils o b (terms_of ts) ≡ flat_map (nils o b) ts
listed_nils o b [] = refl
listed_nils o b (t ∷ ts) = ap (λ ss. nils o b t ++ ss) (listed_nils o b ts)

module _ (P : Sort → Type 0) (o : ℕ → Bool) where
  terms_among : (b : Bool) (ts : List Term) → ((s : Sort) → Contains (flat_map (nils o b) ts) s → P s) → AllNilsAmong P o b (terms_of ts)
  terms_among b ts h = all_among P o b (terms_of ts) (λ s c. h s (subst (λ ss. Contains ss s) (listed_nils o b ts) c))

-- ---- names that were unused are unused still
module _ (g h : Sig) (sg : IsSignature g) (sh : IsSignature h) (w : GrowsByConstants g h) where
  pub unused_still : (n : NameId) → Contains g.taken n → (Contains (function_names g) n → ⊥) → Contains (function_names h) n → ⊥
  unused_still n t own c =
      ⊎_elim (λ k. own (Contains-append_left (list_names g.texts) (table_names g) n (subst (λ ns. Contains ns n) (list_names_stay g h sg w.grown) k))) in_table (Contains-append_cases (list_names h.texts) (table_names h) n c)
    where
      in_table : Contains (table_names h) n → ⊥
      in_table k =
          let news : List Function = map (λ (e : NameId × SortId). declared_function e.0 [] e.1) w.constants in
          let f = contained_from_map (λ (e : Function). e.name) h.functions n k in
          let within : n.0 < length h.texts = subst (λ (m : NameId). m.0 < length h.texts) f.2 (All-contains (IsFunctionWithin (length h.texts) (length h.sorts) (length h.functions)) h.functions f.0 sh.complete.within.functions_within f.1).named in
          ⊎_elim (λ i. own (Contains-append_right (list_names g.texts) (table_names g) n (subst (Contains (table_names g)) f.2 (contains_map (λ (e : Function). e.name) g.functions f.0 i))))
          (λ i.
          let r = contained_from_map (λ (e : NameId × SortId). declared_function e.0 [] e.1) w.constants f.0 i in
          let name : r.0.0 ≡ n = ap (λ (e : Function). e.name) r.2 ∙ f.2 in
          constant_is_new g h sg w r.0 r.1 (subst (λ (m : NameId). m.0 < length h.texts) (sym name) within) (subst (Contains g.taken) (sym name) t))
          (Contains-append_cases g.functions news f.0 (subst (λ fs. Contains fs f.0) w.functions f.1))

-- ---- variables of a pool that are told apart by their names
record AreOwnVariables (h : Sig) (xs : List VarId) : Type 0 where
  there : (x : VarId) → Contains xs x → IsVariable h x
  unused : (x : VarId) → Contains xs x → Contains (function_names h) (name_of h x) → ⊥
  identifiers : (x : VarId) → Contains xs x → HasIdentifier h x
  differ : (x y : VarId) → Contains xs x → Contains xs y → (name_of h x).0 ≡ (name_of h y).0 → x ≡ y

module _ (h : Sig) (sh : IsSignature h) (ts : List Tree) (x : Name) where
  abbrev e : Entries
  e = entries_of h ts

  own_bounds : (xs : List VarId) → AreOwnVariables h xs → (ys : List Bound) → ((a : Bound) → Contains ys a → (v : VarId) × Contains xs v × (bound_at e v ≡ a)) → AreOwn h (text_names_under h x) ys
  own_bounds xs own ys from = record {
    declared = λ a c. let r = from a c in subst (λ (b : Bound). Declares (variable_sorts h) b.var b.sort) r.2 (variables_declared h ts (r.0 ∷ []) (one_variable r.0 (own.there r.0 r.1)) (bound_at e r.0) (contains_head (bound_at e r.0) []));
    apart = λ a b c k q.
        let r = from a c in
        let s = from b k in
        let names = name_told r.0 (own.there r.0 r.1) a r.2 ∙ q ∙ sym (name_told s.0 (own.there s.0 s.1) b s.2) in
        sym r.2 ∙ ap (bound_at e) (own.differ r.0 s.0 r.1 s.1 (same_name h sh r.0 s.0 (own.there r.0 r.1) (own.there s.0 s.1) names)) ∙ s.2;
    unbound = λ a c f is q.
        let r = from a c in
        no_function h sh r.0 (own.there r.0 r.1) (own.unused r.0 r.1) (own.identifiers r.0 r.1) f is (name_told r.0 (own.there r.0 r.1) a r.2 ∙ q);
  }
    where
      name_told : (v : VarId) → IsVariable h v → (a : Bound) → bound_at e v ≡ a → text_under h (name_of h v) ≡ (text_names_under h x).terms.variable a.var
      name_told v l a q = sym (variable_named h sh v l) ∙ ap (λ (b : Bound). (text_names_under h x).terms.variable b.var) q

      one_variable : (v : VarId) → IsVariable h v → All (IsVariable h) (v ∷ [])
      one_variable v l = All-cons (IsVariable h) v [] l (All-nil (IsVariable h))

  identifier_names : (xs : List VarId) → ((v : VarId) → Contains xs v → IsVariable h v × HasIdentifier h v) → HaveIdentifiers (text_names_under h x) (map (bound_at e) xs)
  identifier_names xs k = each_mapped (λ (b : Bound). IsIdentifier ((text_names_under h x).terms.variable b.var)) (bound_at e) xs (λ v c. subst IsIdentifier (sym (variable_named h sh v (k v c).0)) (k v c).1)

-- ---- names of functions and sorts, where any number will do
many_sort_names : (g : Sig) (ss : List SortInfo) → length (sort_names g ss) ≡ length (constructions ss)
many_sort_names g [] = refl
many_sort_names g (s ∷ ss) =
    length-append (map (λ (c : Construction). text_or_none g s.name) (construction_of s.kind)) (sort_names g ss)
    ∙ ap₂ (λ i j. i + j) (length-map (construction_of s.kind) (λ (c : Construction). text_or_none g s.name)) (many_sort_names g ss)
    ∙ sym (length-append (construction_of s.kind) (constructions ss))

module _ (h : Sig) (sh : IsSignature h) (x : Name) where
  function_identifier : All (λ (f : FunId). IsIdentifier (function_name_of h (slice_get h.functions f.0))) h.declared → (k : ℕ) → IsIdentifier ((text_names_under h x).terms.function k)
  function_identifier all k = by_id (slice_get h.declared k) refl
    where
      by_id : (o : Option FunId) → slice_get h.declared k ≡ o → IsIdentifier (declared_name_of h o)
      by_id None at = (refl, refl)
      by_id (Some f) at = holds_at (λ (i : FunId). IsIdentifier (function_name_of h (slice_get h.functions i.0))) h.declared k f all at

  sort_identifier : All (λ (s : NameId × SortId). IsIdentifier (text_under h s.0)) h.sort_names → (k : ℕ) → IsIdentifier ((text_names_under h x).sort k)
  sort_identifier all k = ⊎_elim
      (λ l. let r = sort_named h sh x k l in subst IsIdentifier (sym r.text) (All-contains (λ (s : NameId × SortId). IsIdentifier (text_under h s.0)) h.sort_names (r.name, r.id) all r.listed))
      (λ l. subst IsIdentifier (sym (get_or_past (sort_names h h.sorts) k (codes "S") (omega (arith, l, many_sort_names h h.sorts)))) (refl, refl))
      (cases_lt k (length (constructions h.sorts)))

-- ---- the whole
module _ (g h : Sig) (ts : List Tree) (l : PlainLinear) (x : Name) (needed : List Sort) (rs : List SortId) (c : Constants) (sg : IsSignature g) (sh : IsSignature h) (w : GrowsByConstants g h) (fits : Fits g ts l) (own : VariablesHaveOwnNames g l) (named : NamesAreIdentifiers h l)
    (finds : Finds [] (linear_nils (text_names_under g []) (linear_of (entries_of g ts) l) (initial_of (entries_of g ts) l)) needed) (over : map (sort_under g) rs ≡ map list needed) (added : AddsConstants g rs h) (are : AreConstants (length g.declared) needed c) where
  abbrev old : Entries
  old = entries_of g ts

  abbrev new : Entries
  new = entries_of h ts

  abbrev n : TextNames
  n = text_names_under h x

  abbrev m : TextNames
  m = text_names_under g []

  abbrev params : List Bound
  params = map (bound_at new) l.params

  abbrev IsNeeded : Sort → Type 0
  IsNeeded s = Contains needed s

  grow : BothGrow g h ts ts
  grow = record { signature = w.grown; pool = ([], sym (append-nil ts)) }

  fits_still : Fits h ts l
  fits_still = what_fits_fits_still g h ts ts l sg.table sg.complete sh.table grow fits

  stays : (linear_of new l ≡ linear_of old l) × (initial_of new l ≡ initial_of old l)
  stays = what_fits_stays g h ts ts l sg.table sg.complete grow fits

  sorted_old : IsWellSorted (data_meant g) (variable_sorts g) (linear_of old l)
  sorted_old = what_fits_is_sorted g ts l sg.table sg.complete fits

  sorted_new : IsWellSorted (data_meant h) (variable_sorts h) (linear_of new l)
  sorted_new = what_fits_is_sorted h ts l sh.table sh.complete fits_still

  has_nils : HasNils (data_meant h) IsNeeded c
  has_nils = added_constants_are_nils g h sg sh needed rs over added c are

  -- ---- variables
  variable_there : (v : VarId) → IsVariable g v → IsVariable h v
  variable_there v k = variable_kept g h v w.grown k

  name_same : (v : VarId) → IsVariable g v → name_of h v ≡ name_of g v
  name_same v k = name_kept g h v w.grown k

  still_unused : (v : VarId) → IsVariable g v → HasTakenName g v → (Contains (function_names g) (name_of g v) → ⊥) → Contains (function_names h) (name_of h v) → ⊥
  still_unused v k t u i = unused_still g h sg sh w (name_of g v) (taken_name g v k t) u (subst (Contains (function_names h)) (name_same v k) i)

  param_there : (v : VarId) → Contains l.params v → IsVariable g v
  param_there v i = All-contains (IsVariable g) l.params v fits.params i

  params_differ : (a b : VarId) → Contains l.params a → Contains l.params b → (name_of h a).0 ≡ (name_of h b).0 → a ≡ b
  params_differ a b i j e =
      same_variable g l.params own.differ a b i j (ap (λ (k : NameId). k.0) (sym (name_same a (param_there a i))) ∙ e ∙ ap (λ (k : NameId). k.0) (name_same b (param_there b j)))

  own_params : AreOwnVariables h l.params
  own_params = record {
    there = λ v i. variable_there v (param_there v i);
    unused = λ v i. still_unused v (param_there v i) (All-contains (HasTakenName g) l.params v fits.taken i) (All-contains (λ (y : VarId). ¬ (Contains (function_names g) (name_of g y))) l.params v own.unused i);
    identifiers = λ v i. All-contains (HasIdentifier h) l.params v named.params i;
    differ = params_differ;
  }

  module _ (s : PlainSummand) (among : Contains l.summands s) where
    its_fit : SummandFits g ts l.params s
    its_fit = All-contains (SummandFits g ts l.params) l.summands s fits.summands among

    new_fit : SummandFits h ts l.params s
    new_fit = All-contains (SummandFits h ts l.params) l.summands s fits_still.summands among

    its_names : HasOwnNames g l.params s
    its_names = All-contains (HasOwnNames g l.params) l.summands s own.sums among

    sum_there : (v : VarId) → Contains s.sums v → IsVariable g v
    sum_there v i = All-contains (IsVariable g) s.sums v its_fit.sums i

    sum_unused : (v : VarId) → Contains s.sums v → IsUsed g l.params (name_of g v) → ⊥
    sum_unused v i = All-contains (λ (y : VarId). ¬ (IsUsed g l.params (name_of g y))) s.sums v its_names.0 i

    sum_taken : (v : VarId) → Contains s.sums v → HasTakenName g v
    sum_taken v i = All-contains (HasTakenName g) s.sums v (All-contains (λ (r : PlainSummand). All (HasTakenName g) r.sums) l.summands s fits.sums_taken among) i

    sums_differ : (a b : VarId) → Contains s.sums a → Contains s.sums b → (name_of h a).0 ≡ (name_of h b).0 → a ≡ b
    sums_differ a b i j e = same_variable g s.sums its_names.1 a b i j (ap (λ (k : NameId). k.0) (sym (name_same a (sum_there a i))) ∙ e ∙ ap (λ (k : NameId). k.0) (name_same b (sum_there b j)))

    sum_no_param : (a b : VarId) → Contains s.sums a → Contains l.params b → (name_of h a).0 ≡ (name_of h b).0 → ⊥
    sum_no_param a b i j e =
        let number : (name_of g b).0 ≡ (name_of g a).0 = ap (λ (k : NameId). k.0) (sym (name_same b (param_there b j))) ∙ sym e ∙ ap (λ (k : NameId). k.0) (name_same a (sum_there a i)) in
        let name : name_of g b ≡ name_of g a = (λ k. record { 0 = number k }) in
        sum_unused a i (inl (subst (Contains (names_of g l.params)) name (contains_map (name_of g) l.params b j)))

    both_own : AreOwnVariables h (s.sums ++ l.params)
    both_own = record {
      there = λ v i. ⊎_elim (λ k. variable_there v (sum_there v k)) (λ k. own_params.there v k) (Contains-append_cases s.sums l.params v i);
      unused = λ v i. ⊎_elim (λ k. still_unused v (sum_there v k) (sum_taken v k) (λ q. sum_unused v k (inr q))) (λ k. own_params.unused v k) (Contains-append_cases s.sums l.params v i);
      identifiers = λ v i. ⊎_elim (λ k. sum_identifier v k) (λ k. own_params.identifiers v k) (Contains-append_cases s.sums l.params v i);
      differ = λ a b i j e. ⊎_elim
          (λ p. ⊎_elim (λ q. sums_differ a b p q e) (λ q. absurd (sum_no_param a b p q e)) (Contains-append_cases s.sums l.params b j))
          (λ p. ⊎_elim (λ q. absurd (sum_no_param b a q p (sym e))) (λ q. params_differ a b p q e) (Contains-append_cases s.sums l.params b j))
          (Contains-append_cases s.sums l.params a i);
    }
      where
        sum_identifier : (v : VarId) → Contains s.sums v → HasIdentifier h v
        sum_identifier v i = All-contains (HasIdentifier h) s.sums v (All-contains (λ (r : PlainSummand). All (HasIdentifier h) r.sums) l.summands s named.sums among) i

    abbrev sums : List Bound
    sums = map (bound_at new) s.sums

    abbrev inner : List Bound
    inner = behind (behind [] params) sums

    from_both : (a : Bound) → Contains inner a → (v : VarId) × Contains (s.sums ++ l.params) v × (bound_at new v ≡ a)
    from_both a i = ⊎_elim
        (λ k. ⊎_elim (λ q. absurd (contains_none a q)) (λ q. let r = contained_from_map (bound_at new) l.params a q in (r.0, Contains-append_right s.sums l.params r.0 r.1, r.2)) (behind_cases [] params a k))
        (λ k. let r = contained_from_map (bound_at new) s.sums a k in (r.0, Contains-append_left s.sums l.params r.0 r.1, r.2))
        (behind_cases (behind [] params) sums a i)

    inner_is : scope_behind n (scope_behind n [] params) sums ≡ map (bound_named n) inner
    inner_is = ap (λ (sc : Scope). scope_behind n sc sums) (scope_is n [] params) ∙ scope_is n (behind [] params) sums

    names_read : ReadsNames (data_meant h) (variable_sorts h) (numbers_of (scope_behind n (scope_behind n [] params) sums)) n.terms (meaning (vocabulary_of h) (scope_behind n (scope_behind n [] params) sums))
    names_read =
        subst (λ (sc : Scope). ReadsNames (data_meant h) (variable_sorts h) (numbers_of sc) n.terms (meaning (vocabulary_of h) sc)) (sym inner_is) (own_read h sh x inner (own_bounds h sh ts x (s.sums ++ l.params) both_own inner from_both))

    -- ---- empty lists
    abbrev before : Summand
    before = summand_of old s

    old_sorted : SummandIsSorted (data_meant g) (variable_sorts g) (map (bound_at old) l.params) before
    old_sorted = sorted_old.summands before (map_contains (summand_of old) l.summands s among)

    met : (r : Sort) → Contains (summand_nils m before) r → Contains needed r
    met r i = met_is_found finds r (Contains-append_left (flat_map (summand_nils m) (map (summand_of old) l.summands)) (nils_of m true (initial_of old l)) r (contains_each (summand_nils m) (map (summand_of old) l.summands) before r (map_contains (summand_of old) l.summands s among) i))

    condition_met : (r : Sort) → Contains (nils n.terms.once false before.condition) r → Contains needed r
    condition_met r i =
        met r (Contains-append_left (nils m.terms.once false before.condition) (label_nils m before.label ++ next_nils m before.next) r
        (subst (λ ss. Contains ss r) (same_nils (data_meant g) (variable_sorts g) n.terms.once m.terms.once (once_still g h sg sh w) false before.condition _ old_sorted.condition) i))

    label_met : (r : Sort) → Contains (label_nils m before.label) r → Contains needed r
    label_met r i = met r (Contains-append_right (nils m.terms.once false before.condition) (label_nils m before.label ++ next_nils m before.next) r (Contains-append_left (label_nils m before.label) (next_nils m before.next) r i))

    next_met : (r : Sort) → Contains (next_nils m before.next) r → Contains needed r
    next_met r i = met r (Contains-append_right (nils m.terms.once false before.condition) (label_nils m before.label ++ next_nils m before.next) r (Contains-append_right (label_nils m before.label) (next_nils m before.next) r i))

    action_text : (a : PlainAction) → IsActionOf g ts a → Contains g.texts (action_of old a).name
    action_text a k =
        let within = (holds_at (IsActionWithin (length g.texts) (length g.sorts)) g.actions a.act.0 k.key sg.complete.within.actions k.stands).named in
        subst (λ y. Contains g.texts y) (sym (ap (λ z. z.name) (action_is g ts a k))) (Contains-get_or g.texts k.key.name.0 [] within)

    label_among : (as_ : List PlainAction) → All (IsActionOf g ts) as_ → LabelIsSorted (data_meant g) (variable_sorts g) (label_of old as_) → ((r : Sort) → Contains (label_nils m (label_of old as_)) r → Contains needed r)
        → AllByRecursion (λ (a : Action). AllNilsAmong IsNeeded n.terms.once (n.once a.name) (terms_of a.args)) (label_of old as_)
    label_among [] fit srt k = tt
    label_among (a ∷ as_) fit (action_sorted q qs) k =
        let b = action_of old a in
        let once : n.once b.name ≡ m.once b.name = action_once_still g h sg sh w x [] b.name (action_text a (All-head (IsActionOf g ts) a as_ fit)) in (
          subst (λ t. AllNilsAmong IsNeeded n.terms.once t (terms_of b.args)) (sym once)
              (terms_among IsNeeded n.terms.once (m.once b.name) b.args (λ r i. k r (Contains-append_left (action_nils m b) (label_nils m (label_of old as_)) r
              (subst (λ ss. Contains ss r) (same_list_nils (data_meant g) (variable_sorts g) n.terms.once m.terms.once (once_still g h sg sh w) (m.once b.name) b.args b.sorts q) i)))),
          label_among as_ (All-tail (IsActionOf g ts) a as_ fit) qs (λ r i. k r (Contains-append_right (action_nils m b) (label_nils m (label_of old as_)) r i)),
        )

    next_among : (o : Option (List Term)) → NextIsSorted (data_meant g) (variable_sorts g) (sorts (map (bound_at old) l.params)) o → ((r : Sort) → Contains (next_nils m o) r → Contains needed r) → NextNils IsNeeded n o
    next_among None srt k = tt
    next_among (Some us) (next_sorted q) k = terms_among IsNeeded n.terms.once true us (λ r i. k r (subst (λ ss. Contains ss r) (same_list_nils (data_meant g) (variable_sorts g) n.terms.once m.terms.once (once_still g h sg sh w) true us _ q) i))

    can_fill_old : CanFill IsNeeded n before
    can_fill_old = record {
      condition_known = entry_known g ts s.condition.0;
      label_known = label_known g ts s.label;
      next_known = next_known g ts s.next;
      condition_nils = nils_among IsNeeded n.terms.once false before.condition condition_met;
      label_nils = label_among s.label its_fit.label old_sorted.label label_met;
      next_nils = next_among before.next old_sorted.next next_met;
    }

    can_fill : CanFill IsNeeded n (summand_of new s)
    can_fill = subst (CanFill IsNeeded n) (sym (summand_stays g h ts ts sg.table sg.complete grow l.params s its_fit)) can_fill_old

    shape : IsSummand params (summand_of new s)
    shape = fits_still.linear.summands (summand_of new s) (map_contains (summand_of new) l.summands s among)

    new_sorted : SummandIsSorted (data_meant h) (variable_sorts h) params (summand_of new s)
    new_sorted = sorted_new.summands (summand_of new s) (map_contains (summand_of new) l.summands s among)

    written : SummandIsSorted (data_meant h) (variable_sorts h) params (filled_summand c n (summand_of new s)) × IsWrittenSummand n (filled_summand c n (summand_of new s))
    written = summand_filled (data_meant h) c n IsNeeded has_nils (variable_sorts h) params (summand_of new s) new_sorted can_fill

  -- ---- actions
  module _ (v : FullVocabulary) (is : v.declared ≡ vocabulary_of h) where
    action_reads : (a : PlainAction) → IsActionOf h ts a → AreWritable n.terms (n.once (action_of new a).name) (terms_of (filled_terms c n (n.once (action_of new a).name) (action_of new a).args)) → ActionReads v n (filled_action c n (action_of new a))
    action_reads a k q =
        let entry = action_is h ts a k in
        let name : (action_of new a).name ≡ text_under h k.key.name = ap (λ z. z.name) entry in
        let srt : (action_of new a).sorts ≡ map (sort_under h) k.key.sorts = ap (λ z. z.sorts) entry in
        let there = contains_read h.actions a.act.0 k.key k.stands in
        let within = (holds_at (IsActionWithin (length h.texts) (length h.sorts)) h.actions a.act.0 k.key sh.complete.within.actions k.stands).named in
        record {
          declared = subst (λ d. Contains (all_named (action_of new a).name d.actions) (action_of new a).sorts) (sym is)
              (subst (λ y. Contains (all_named y (vocabulary_of h).actions) (action_of new a).sorts) (sym name) (subst (Contains (all_named (text_under h k.key.name) (vocabulary_of h).actions)) (sym srt) (action_declared h sh k.key there)));
          once = λ t. ap (λ d. all_named (action_of new a).name d.actions) is ∙ ap (λ y. all_named y (vocabulary_of h).actions) name ∙ action_alone h sh x k.key there within (sym (ap n.once name) ∙ t) ∙ ap (λ ss. ss ∷ []) (sym srt);
          writable = q;
        }

    label_reads : (as_ : List PlainAction) → All (IsActionOf h ts) as_ → AllByRecursion (λ (a : Action). AreWritable n.terms (n.once a.name) (terms_of a.args)) (filled_label c n (label_of new as_)) → AllByRecursion (ActionReads v n) (filled_label c n (label_of new as_))
    label_reads [] fit q = tt
    label_reads (a ∷ as_) fit q = (action_reads a (All-head (IsActionOf h ts) a as_ fit) q.0, label_reads as_ (All-tail (IsActionOf h ts) a as_ fit) q.1)

    params_outside : (s : PlainSummand) → Contains l.summands s → Apart (variables (map (bound_at new) s.sums)) (numbers_of (scope_behind n [] params))
    params_outside s i k p q = ⊎_elim (λ j. (shape s i).apart k p j) (λ j. absurd (contains_none k j)) (numbers_behind n [] params k q)

    summand_reads : (s : PlainSummand) → Contains l.summands s → SummandReads v n (scope_behind n [] params) params (filled_summand c n (summand_of new s))
    summand_reads s i = record {
      sums = can_bind h sh x v is (scope_behind n [] params) (map (bound_at new) s.sums) (new_sorted s i).sum_sorts (shape s i).distinct (params_outside s i);
      variable_sorts = variable_sorts h;
      names = subst (λ d. ReadsNames d.tables (variable_sorts h) (numbers_of (scope_behind n (scope_behind n [] params) (map (bound_at new) s.sums))) n.terms (meaning d (scope_behind n (scope_behind n [] params) (map (bound_at new) s.sums)))) (sym is) (names_read s i);
      params_sorted = each_of (λ (b : Bound). Declares (variable_sorts h) b.var b.sort) params sorted_new.params;
      sorted = subst (λ d. SummandIsSorted d.tables (variable_sorts h) params (filled_summand c n (summand_of new s))) (sym is) (written s i).0;
      shape = summand_still c n params (summand_of new s) (shape s i);
      condition = (written s i).1.condition;
      label = label_reads s.label (new_fit s i).label (written s i).1.label;
      next = (written s i).1.next;
    }

    initial_filled : HaveSorts (data_meant h) [] (terms_of (filled_terms c n true (initial_of new l))) (sorts params) × AreWritable n.terms true (terms_of (filled_terms c n true (initial_of new l)))
    initial_filled = terms_filled (data_meant h) c n IsNeeded has_nils [] true (initial_of new l) (sorts params) fits_still.closed (terms_known h ts l.init)
        (terms_among IsNeeded n.terms.once true (initial_of new l) (λ r i. met_is_found finds r (Contains-append_right (flat_map (summand_nils m) (map (summand_of old) l.summands)) (nils_of m true (initial_of old l)) r
        (subst (λ ss. Contains ss r) (ap (flat_map (nils n.terms.once true)) stays.1 ∙ same_list_nils (data_meant g) [] n.terms.once m.terms.once (once_still g h sg sh w) true (initial_of old l) _ fits.closed) i))))

    can_be_read : IsIdentifier x → process_named v x ≡ Some (zero, parameters_of n params) → CanBeRead v h n (filled_linear c n (linear_of new l)) (filled_terms c n true (initial_of new l))
    can_be_read identifier process = record {
      reads = record {
        process = process;
        distinct = names_apart n params fits_still.linear.distinct (own_bounds h sh ts x l.params own_params params (λ a i. contained_from_map (bound_at new) l.params a i)).apart;
        params = can_bind h sh x v is [] params sorted_new.param_sorts fits_still.linear.distinct (λ k p q. contains_none k q);
        summands = summands_read l.summands (λ s i. i);
        closed_names = subst (λ d. ReadsNames d.tables [] [] n.terms (meaning d [])) (sym is) (closed_read h sh x);
        of_sorts = subst (λ d. HaveSorts d.tables [] (terms_of (filled_terms c n true (initial_of new l))) (sorts params)) (sym is) initial_filled.0;
        writable = initial_filled.1;
      };
      named = record {
        functions = function_identifier h sh x named.functions;
        sorts = sort_identifier h sh x named.sorts;
        process = identifier;
        params = identifier_names h sh ts x l.params (λ a i. (own_params.there a i, own_params.identifiers a i));
        summands = summands_named l.summands (λ s i. i);
      };
      linear = linear_still c n (linear_of new l) fits_still.linear;
      sorted = linear_filled (data_meant h) c n IsNeeded has_nils (variable_sorts h) (linear_of new l) sorted_new
          (λ s i. let r = contained_from_map (summand_of new) l.summands s i in subst (CanFill IsNeeded n) r.2 (can_fill r.0 r.1));
    }
      where
        summands_read : (ss : List PlainSummand) → ((s : PlainSummand) → Contains ss s → Contains l.summands s) → AllByRecursion (SummandReads v n (scope_behind n [] params) params) (map (filled_summand c n) (map (summand_of new) ss))
        summands_read [] k = tt
        summands_read (s ∷ ss) k = (summand_reads s (k s (contains_head s ss)), summands_read ss (λ r i. k r (contains_tail s r ss i)))

        action_named : (a : PlainAction) → IsActionOf h ts a → IsIdentifier (action_of new a).name
        action_named a k = subst IsIdentifier (sym (ap (λ z. z.name) (action_is h ts a k))) (holds_at (λ (e : Key). IsIdentifier (text_under h e.name)) h.actions a.act.0 k.key named.actions k.stands)

        label_named : (as_ : List PlainAction) → All (IsActionOf h ts) as_ → AllByRecursion (λ (a : Action). IsIdentifier a.name) (filled_label c n (label_of new as_))
        label_named [] fit = tt
        label_named (a ∷ as_) fit = (action_named a (All-head (IsActionOf h ts) a as_ fit), label_named as_ (All-tail (IsActionOf h ts) a as_ fit))

        summands_named : (ss : List PlainSummand) → ((s : PlainSummand) → Contains ss s → Contains l.summands s) → AllByRecursion (HasIdentifiers n) (map (filled_summand c n) (map (summand_of new) ss))
        summands_named [] k = tt
        summands_named (s ∷ ss) k =
            let i = k s (contains_head s ss) in (
              record {
                sums = identifier_names h sh ts x s.sums (λ a j. let b = Contains-append_left s.sums l.params a j in ((both_own s i).there a b, (both_own s i).identifiers a b));
                actions = label_named s.label (new_fit s i).label;
              },
              summands_named ss (λ r j. k r (contains_tail s r ss j)),
            )

pub fitting_linears_read : FittingLinearsRead
fitting_linears_read v g h ts l x needed rs c sg sh w fits own named identifier finds over added are is process = can_be_read g h ts l x needed rs c sg sh w fits own named finds over added are v is identifier process
