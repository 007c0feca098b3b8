-- A specification that elaborates fits, and binds no variable that is in scope.
use Rattle.std.proofs.Common.{◌≡◌, ◌+◌, ◌<◌, ◌==◌, ◌||◌, ◌⊎◌, inl, inr, ⊎_elim, ℕ, zero, suc, Bool, true, false, cond, List, [], ◌∷◌, ◌++◌, map, length, get_or, refl, sym, ap, subst, ◌∙◌, Some, arith}
use Rattle.std.specs.Prelude.{slice_get}
use Rattle.std.specs.Option.{option_map, option_and_then}
use Rattle.std.specs.Prelude.{Option, None}
use Rattle.sort_table.specs.Expressions.{Name}
use Rattle.std.specs.List.{All, AllByRecursion, Contains}
use Rattle.std.proofs.lemmas.List.{length-map, map-append}
use Rattle.std.proofs.lemmas.List.Elements.{All-nil, All-cons, All-head, All-tail, All-append, All-contains}
use Rattle.std.proofs.lemmas.Option.{slice_get_within, get_or_from_slice_get}
use Rattle.std.proofs.lemmas.Bool.Decides.{eqb_tells}
use Rattle.data_theory.specs.declared.ids.SortId.{SortId}
use Rattle.data_theory.specs.declared.ids.VarId.{VarId}
use Rattle.data_theory.specs.declared.ids.TermId.{TermId}
use Rattle.data_theory.specs.declared.signature.Variable.{Variable}
use Rattle.data_theory.specs.Keys.{Key}
use Rattle.data_theory.specs.Complete.{IsActionWithin}
use Rattle.data_theory.specs.Terms.{Sort, boolean, positive, Term, Terms, application}
use Rattle.data_theory.specs.Terms as terms
use Rattle.data_theory.specs.Declarations.{Data, Declares, argument_sorts, HasSort, HaveSorts}
use Rattle.data_theory.specs.Environments.{terms_of, IsOver, AreOver, AreDistinct}
use Rattle.data_theory.specs.Table.{bool_sort}
use Rattle.data_theory.specs.Signature.{Sig}
use Rattle.data_theory.specs.WholeSignatures.{IsSignature}
use Rattle.data_theory.specs.IdData.{data_meant}
use Rattle.data_theory.specs.IdTrees.{Tree, trees_of}
use Rattle.data_theory.specs.IdTerms.{sort_under, term_under, terms_under, variable_sorts, IsTreeWithin, AreTreesWithin}
use Rattle.term_pool.specs.HeadTrees.{tree_at, trees_at, IsIn, AreIn}
use Rattle.term_pool.specs.Pools.{PoolContents}
use Rattle.process_terms.specs.Processes.{Bound, Body, written_delta, written_act, written_choice, written_seq, written_cond, written_sum, written_call, written_merge, written_starting, written_around, choice_of, seq_of, merged_with, synced_with, sums_around}
use Rattle.process_terms.specs.Processes as written
use Rattle.process_terms.specs.PlainProcesses.{PlainAction, PlainProcess, PlainProcesses, delta, act, call, choice, seq, cond as either, sum, merge, left_merge, sync, around, no_processes, more_processes, PlainDefinition, PlainModel, term_of}
use Rattle.process_terms.specs.Meanings.{Entries, bound_at, term_at, action_of, action_at, label_of, body_of, bodies_of, definition_of, table_of, HasTerm, HasVariable, HasAction, HasProcess, HasProcesses, HasDefinition, HasModel, ReadsOnly}
use Rattle.process_terms.specs.SignatureEntries.{entries_of, action_entry}
use Rattle.bisim_laws.specs.LinearProcesses.{sorts}
use Rattle.bisim_laws.proofs.Firing.{contains_first, contains_later, contains_cases, contains_none}
use Rattle.sort_table.specs.SignatureVocabularies.{vocabulary_of}
use Rattle.sort_table.specs.Vocabularies.{Vocabulary, EachPair}
use Rattle.sort_table.specs.BareProcesses as bare
use Rattle.sort_table.specs.BareProcesses.{Variables}
use Rattle.data_typing.specs.Meanings.{Scope}
use Rattle.sort_checker.specs.FullVocabularies.{Parameters, FullVocabulary, Written, processes_in, IsEntry, parameters_in}
use Rattle.sort_checker.specs.Scopes.{numbers_of, Binds, binds_none, binds_more}
use Rattle.sort_checker.specs.Elaborations.{Elaborates, ElaboratesDefinition}
use Rattle.sort_checker.specs.FittingBodies.{EachExpression, IsOverSorts, AreSorted, IsTermOver, AreTermsOver, IsActionOver, IsLabelOver, process_sorts, parameter_sorts, BodyFits, bounds_of}
use Rattle.sort_checker.proofs.FittingElaborations.{what_elaborates_fits, definitions_fit}
use Rattle.lps_core.specs.Fitting.{IsVariable, sort_of_variable}
use Rattle.lps_core.proofs.Members.{all_at, all_from}
use Rattle.lps_core.proofs.Staying.{read_mapped, term_is, terms_are, boolean_meant, sort_is_within, sorts_of_variables}
use Rattle.proc_unfold.proofs.WellFormed.{body_at}
use Rattle.proc_unfold.specs.FittingModels.{TermFits, TermsFit, ActionFits, ProcessFits, ProcessesFit, DefinitionFits, ModelFits}
use Rattle.greibach.specs.Scopes.{BindsAnew, HasOwnVariables, HaveOwnVariables}
use Rattle.greibach.proofs.WhateverStands.{bound_once}
use Rattle.lin_driver.specs.ElaboratedModels.{IsDefinitionOf, WhatElaboratesCanBeLinear}
use Rattle.sort_checker.proofs.SignatureSorts.{over_sorts}
use Rattle.sort_checker.proofs.SmallNumerals.{small_definitions, small_starts}
use Rattle.sort_table.specs.BareDeclarations.{bare_sections, declarations_in}
use Rattle.data_typing.specs.TypingLaws.{HasSmallNumerals}
use Rattle.lin_driver.proofs.FittingOperators.{operators_fit}
use Rattle.lin_driver.proofs.OpenedComponents.{binds_fewer}
use Rattle.lin_driver.proofs.SortedTerms.{tree_sorted, trees_sorted}

-- ---- a term that is sorted whatever sorts other variables have is over these
abbrev is_in : ℕ → List ℕ → Bool
is_in k [] = false
is_in k (n ∷ ns) = (n == k) || is_in k ns

in_contains : (k : ℕ) (ns : List ℕ) → is_in k ns ≡ true → Contains ns k
in_contains k [] e = cc
in_contains k (n ∷ ns) e = ⊎_elim
    (λ q. subst (λ z. Contains (n ∷ ns) z) q.1 (contains_first n ns))
    (λ q. contains_later n k ns (in_contains k ns (subst (λ b. (b || is_in k ns) ≡ true) q.0 e)))
    (eqb_tells n k)

in_front : (k n : ℕ) (ns : List ℕ) → (n ≡ k) ⊎ (is_in k ns ≡ true) → ((n == k) || is_in k ns) ≡ true
in_front k n ns h = by_test (n == k) refl
  where
    by_test : (b : Bool) → (n == k) ≡ b → ((n == k) || is_in k ns) ≡ true
    by_test true e = subst (λ b. (b || is_in k ns) ≡ true) (sym e) refl
    by_test false e = subst (λ b. (b || is_in k ns) ≡ true) (sym e) (⊎_elim (λ q. absurd (⊎_elim (λ r. let w : true ≡ false = sym r.0 ∙ e in cc) (λ r. r.1 q) (eqb_tells n k))) (λ j. j) h)

contains_in : (k : ℕ) (ns : List ℕ) → Contains ns k → is_in k ns ≡ true
contains_in k [] i = absurd (contains_none k i)
contains_in k (n ∷ ns) i = in_front k n ns (⊎_elim (λ q. inl q) (λ j. inr (contains_in k ns j)) (contains_cases n k ns i))

abbrev other : Sort → Sort
other boolean = positive
other s = boolean

other_differs : (s : Sort) → other s ≡ s → ⊥
other_differs boolean e = cc
other_differs positive e = cc
other_differs terms.natural e = cc
other_differs terms.integer e = cc
other_differs (terms.list s) e = cc
other_differs (terms.named d) e = cc

-- other sorts for the variables that aren't among these
abbrev flipped : List ℕ → ℕ → List Sort → List Sort
flipped ns k [] = []
flipped ns k (s ∷ ss) = cond (is_in k ns) s (other s) ∷ flipped ns (suc k) ss

flip_says : (ns : List ℕ) (k : ℕ) (ss : List Sort) (v : ℕ) (s : Sort) → Declares ss v s → Declares (flipped ns k ss) v s → Contains ns (k + v)
flip_says ns k [] v s h f = absurd h
flip_says ns k (r ∷ ss) zero s h f = by_test (is_in k ns) refl
  where
    by_test : (b : Bool) → is_in k ns ≡ b → Contains ns (k + 0)
    by_test true e = let w : k ≡ k + 0 = omega arith in subst (λ z. Contains ns z) w (in_contains k ns e)
    by_test false e = absurd (other_differs r (subst (λ b. cond b r (other r) ≡ s) e f ∙ sym h))
flip_says ns k (r ∷ ss) (suc v) s h f = let w : suc k + v ≡ k + suc v = omega arith in subst (λ z. Contains ns z) w (flip_says ns (suc k) ss v s h f)

flip_keeps : (ns : List ℕ) (k : ℕ) (ss : List Sort) (v : ℕ) (s : Sort) → Contains ns (k + v) → Declares ss v s → Declares (flipped ns k ss) v s
flip_keeps ns k [] v s i h = absurd h
flip_keeps ns k (r ∷ ss) zero s i h = let w : k + 0 ≡ k = omega arith in subst (λ b. cond b r (other r) ≡ s) (sym (contains_in k ns (subst (λ z. Contains ns z) w i))) h
flip_keeps ns k (r ∷ ss) (suc v) s i h = let w : k + suc v ≡ suc k + v = omega arith in flip_keeps ns (suc k) ss v s (subst (λ z. Contains ns z) w i) h

module _ (g : Data) (vs : List Sort) (ns : List ℕ) where
  mutual
    over_both : (t : Term) (s : Sort) → HasSort g vs t s → HasSort g (flipped ns 0 vs) t s → IsOver ns t
    over_both (terms.variable v) s h f = let w : 0 + v ≡ v = omega arith in subst (λ z. Contains ns z) w (flip_says ns 0 vs v s h f)
    over_both (terms.numeral a z) s h f = tt
    over_both (terms.unknown d k) s h f = tt
    over_both (application y ts) s h f = all_over_both ts (argument_sorts g y) h.1 f.1

    all_over_both : (ts : Terms) (ss : List Sort) → HaveSorts g vs ts ss → HaveSorts g (flipped ns 0 vs) ts ss → AreOver ns ts
    all_over_both terms.none ss h f = tt
    all_over_both (terms.more t ts) [] h f = absurd h
    all_over_both (terms.more t ts) (s ∷ ss) h f = (over_both t s h.0 f.0, all_over_both ts ss h.1 f.1)

-- ---- scopes
both_sorted : (vs : List Sort) (xs ys : List Bound) → AreSorted vs (xs ++ ys) → AreSorted vs xs × AreSorted vs ys
both_sorted vs [] ys h = (tt, h)
both_sorted vs (x ∷ xs) ys h = let r = both_sorted vs xs ys h.1 in ((h.0, r.0), r.1)

-- these come into scope in their order
abbrev onto : List Bound → List Bound → List Bound
onto [] bs = bs
onto (x ∷ xs) bs = onto xs (x ∷ bs)

onto_sorted : (vs : List Sort) (xs bs : List Bound) → AreSorted vs xs → AreSorted vs bs → AreSorted vs (onto xs bs)
onto_sorted vs [] bs h k = k
onto_sorted vs (x ∷ xs) bs h k = onto_sorted vs xs (x ∷ bs) h.1 (h.0, k)

sums_fit_inside : (v : FullVocabulary) (xs bs : List Bound) (b : Body) → BodyFits v bs (sums_around xs b) → BodyFits v (onto xs bs) b
sums_fit_inside v [] bs b h = h
sums_fit_inside v (x ∷ xs) bs b h = sums_fit_inside v xs (x ∷ bs) b h.2

abbrev vars_of : List Bound → List ℕ
vars_of xs = map (λ (x : Bound). x.var) xs

-- no sum binds what is in scope
fits_binds : (v : FullVocabulary) (xs : List Bound) (b : Body) → BodyFits v xs b → BindsAnew (vars_of xs) b
fits_binds v xs written_delta h = tt
fits_binds v xs (written_act m) h = tt
fits_binds v xs (written_choice p q) h = (fits_binds v xs p h.0, fits_binds v xs q h.1)
fits_binds v xs (written_seq p q) h = (fits_binds v xs p h.0, fits_binds v xs q h.1)
fits_binds v xs (written_cond c p q) h = (fits_binds v xs p h.1, fits_binds v xs q h.2)
fits_binds v xs (written_sum x p) h = (h.1, fits_binds v (x ∷ xs) p h.2)
fits_binds v xs (written_call k ts) h = tt
fits_binds v xs (written_merge p q) h = (fits_binds v xs p h.0, fits_binds v xs q h.1)
fits_binds v xs (written_starting o p q) h = (fits_binds v xs p h.0, fits_binds v xs q h.1)
fits_binds v xs (written_around o p) h = fits_binds v xs p h

-- what comes into scope by binders
binds_sorted : (vs : List Sort) {v : Vocabulary} {scope inner : Scope} {xs : Variables} {bs : List Bound} → Binds v scope xs inner bs → AreSorted vs (bounds_of scope) → AreSorted vs bs → AreSorted vs (bounds_of inner)
binds_sorted vs binds_none h k = h
binds_sorted vs (binds_more e n r) h k = binds_sorted vs r (k.0, h) k.1

binds_scope : {v : Vocabulary} {scope inner : Scope} {xs : Variables} {bs : List Bound} → Binds v scope xs inner bs → (n : ℕ) → Contains (numbers_of scope) n ⊎ Contains (vars_of bs) n → Contains (vars_of (bounds_of inner)) n
binds_scope {scope = scope} binds_none n i = ⊎_elim (λ j. same_numbers scope n j) (λ j. absurd (contains_none n j)) i
  where
    same_numbers : (s : Scope) (n : ℕ) → Contains (numbers_of s) n → Contains (vars_of (bounds_of s)) n
    same_numbers [] n i = i
    same_numbers (x ∷ s) n i = ⊎_elim (λ q. subst (λ z. Contains (x.number ∷ vars_of (bounds_of s)) z) q (contains_first x.number (vars_of (bounds_of s)))) (λ j. contains_later x.number n (vars_of (bounds_of s)) (same_numbers s n j)) (contains_cases x.number n (numbers_of s) i)
binds_scope (binds_more {scope = scope} {n = k} {bs = bs} e w r) n i = binds_scope r n
    (⊎_elim (λ j. inl (contains_later k n (numbers_of scope) j)) (λ j. ⊎_elim (λ q. inl (subst (λ z. Contains (k ∷ numbers_of scope) z) q (contains_first k (numbers_of scope)))) (λ l. inr l) (contains_cases k n (vars_of bs) j)) i)

binds_apart : {v : Vocabulary} {scope inner : Scope} {xs : Variables} {bs : List Bound} → Binds v scope xs inner bs → AreDistinct (vars_of bs) × ((n : ℕ) → Contains (vars_of bs) n → Contains (numbers_of scope) n → ⊥)
binds_apart binds_none = (tt, λ n i j. contains_none n i)
binds_apart (binds_more {scope = scope} {n = k} {bs = bs} e w r) =
    let p = binds_apart r in (
      (λ i. p.1 k i (contains_first k (numbers_of scope)), p.0),
      λ n i j. ⊎_elim (λ q. w (subst (λ z. Contains (numbers_of scope) z) (sym q) j)) (λ l. p.1 n l (contains_later k n (numbers_of scope) j)) (contains_cases k n (vars_of bs) i),
    )

-- ---- terms, labels and process terms
module _ (g : Sig) (sg : IsSignature g) (ts : List Tree) (within : All (IsTreeWithin g) ts) where
  abbrev e : Entries
  e = entries_of g ts

  there : (id : TermId) → HasTerm e id → IsIn ts id
  there id h = subst (λ n. id.0 < n) (length-map ts (term_under g)) h

  all_there : (ids : List TermId) → All (HasTerm e) ids → AreIn ts ids
  all_there ids h = all_from (IsIn ts) ids (λ id i. there id (All-contains (HasTerm e) ids id h i))

  variables_there : (xs : List VarId) → All (HasVariable e) xs → All (IsVariable g) xs
  variables_there xs h = all_from (IsVariable g) xs (λ x i. subst (λ n. x.0 < n) (length-map g.variables (λ (y : Variable). sort_under g y.sort)) (All-contains (HasVariable e) xs x h i))

  tree_is_within : (id : TermId) → IsIn ts id → IsTreeWithin g (tree_at ts id)
  tree_is_within id i = within id.0 _ i

  trees_are_within : (ids : List TermId) → AreIn ts ids → AreTreesWithin g (trees_of (trees_at ts ids))
  trees_are_within [] h = tt
  trees_are_within (id ∷ ids) h = (tree_is_within id (All-head (IsIn ts) id ids h), trees_are_within ids (All-tail (IsIn ts) id ids h))

  -- each variable has its sort
  sorted_there : (xs : List VarId) → All (IsVariable g) xs → AreSorted (variable_sorts g) (map (bound_at e) xs)
  sorted_there [] h = tt
  sorted_there (x ∷ xs) h = (declares_at (variable_sorts g) x.0 (subst (λ n. x.0 < n) (sym (length-map g.variables (λ (y : Variable). sort_under g y.sort))) (All-head (IsVariable g) x xs h)), sorted_there xs (All-tail (IsVariable g) x xs h))
    where
      declares_at : (ss : List Sort) (v : ℕ) → v < length ss → Declares ss v (get_or ss v boolean)
      declares_at [] v l = let never : ⊥ = omega (arith, l) in absurd never
      declares_at (s ∷ ss) zero l = refl
      declares_at (s ∷ ss) (suc v) l = declares_at ss v (omega (arith, l))

  flipped_there : (ns : List ℕ) (xs : List VarId) → ((v : ℕ) → Contains (map (λ (x : VarId). x.0) xs) v → Contains ns v) → AreSorted (variable_sorts g) (map (bound_at e) xs) → AreSorted (flipped ns 0 (variable_sorts g)) (map (bound_at e) xs)
  flipped_there ns [] w h = tt
  flipped_there ns (x ∷ xs) w h = (
    flip_keeps ns 0 (variable_sorts g) x.0 _ (let z : x.0 ≡ 0 + x.0 = omega arith in subst (λ n. Contains ns n) z (w x.0 (contains_first x.0 (map (λ (x : VarId). x.0) xs)))) h.0,
    flipped_there ns xs (λ v i. w v (contains_later x.0 v (map (λ (x : VarId). x.0) xs) i)) h.1,
  )

  -- the variables in scope, and those that the body is over
  abbrev Covers : List VarId → List Bound → Type 0
  Covers xs bs = (vs : List Sort) → AreSorted vs (map (bound_at e) xs) → AreSorted vs bs

  covers_more : (ys xs : List VarId) (bs : List Bound) → Covers xs bs → Covers (ys ++ xs) (onto (map (bound_at e) ys) bs)
  covers_more ys xs bs c vs h =
      let r = both_sorted vs (map (bound_at e) ys) (map (bound_at e) xs) (subst (AreSorted vs) (map-append (bound_at e) ys xs) h) in
      onto_sorted vs (map (bound_at e) ys) bs r.0 (c vs r.1)

  module _ (xs : List VarId) (own : All (IsVariable g) xs) (bs : List Bound) (c : Covers xs bs) where
    term_fits : (s : SortId) (id : TermId) → s.0 < length g.sorts → HasTerm e id → IsTermOver (data_meant g) bs (sort_under g s) (term_at e id) → TermFits g ts xs s id
    term_fits s id l h t =
        let i = there id h in
        let here = t (variable_sorts g) (c (variable_sorts g) (sorted_there xs own)) in
        let flip = t (flipped (map (λ (x : VarId). x.0) xs) 0 (variable_sorts g)) (c _ (flipped_there (map (λ (x : VarId). x.0) xs) xs (λ v j. j) (sorted_there xs own))) in
        record {
          term = record { within = i; sorted = tree_sorted g sg (tree_at ts id) s l (tree_is_within id i) (subst (λ u. HasSort (data_meant g) (variable_sorts g) u (sort_under g s)) (term_is g ts id i) here) };
          over = over_both (data_meant g) (variable_sorts g) (map (λ (x : VarId). x.0) xs) (term_at e id) (sort_under g s) here flip;
        }

    terms_under_are : (us : List Tree) → terms_of (map (term_under g) us) ≡ terms_under g (trees_of us)
    terms_under_are [] = refl
    terms_under_are (u ∷ us) = ap (terms.more (term_under g u)) (terms_under_are us)

    each_over : (ids : List TermId) → AreOver (map (λ (x : VarId). x.0) xs) (terms_of (map (term_at e) ids)) → All (ReadsOnly e xs) ids
    each_over [] h = All-nil (ReadsOnly e xs)
    each_over (id ∷ ids) h = All-cons (ReadsOnly e xs) id ids h.0 (each_over ids h.1)

    terms_fit : (ss : List SortId) (ids : List TermId) → All (λ (s : SortId). s.0 < length g.sorts) ss → All (HasTerm e) ids → AreTermsOver (data_meant g) bs (map (sort_under g) ss) (map (term_at e) ids) → TermsFit g ts xs ss ids
    terms_fit ss ids l h t =
        let i = all_there ids h in
        let here = t (variable_sorts g) (c (variable_sorts g) (sorted_there xs own)) in
        let flip = t (flipped (map (λ (x : VarId). x.0) xs) 0 (variable_sorts g)) (c _ (flipped_there (map (λ (x : VarId). x.0) xs) xs (λ v j. j) (sorted_there xs own))) in
        let trees = subst (λ us. HaveSorts (data_meant g) (variable_sorts g) us (map (sort_under g) ss)) (ap terms_of (terms_are g ts ids i) ∙ terms_under_are (trees_at ts ids)) here in
        record {
          terms = record { within = i; sorted = trees_sorted g sg (trees_of (trees_at ts ids)) ss l (trees_are_within ids i) trees };
          over = each_over ids (all_over_both (data_meant g) (variable_sorts g) (map (λ (x : VarId). x.0) xs) (terms_of (map (term_at e) ids)) (map (sort_under g) ss) here flip);
        }

    action_fits : (v : FullVocabulary) → v.declared ≡ vocabulary_of g → (a : PlainAction) → HasAction e a → IsActionOver v bs (action_of e a) → ActionFits g ts xs a
    action_fits v same a h o =
        let k = key_there g.actions a.act.0 (subst (λ n. a.act.0 < n) (length-map g.actions (action_entry g)) h.0) in
        let l = all_at (IsActionWithin (length g.texts) (length g.sorts)) g.actions a.act.0 k.0 sg.complete.within.actions k.1 in
        let is = action_entry_is a k.0 k.1 in
        let args = terms_fit k.0.sorts a.args l.takes h.1 (subst (λ (d : Data). AreTermsOver d bs (map (sort_under g) k.0.sorts) (map (term_at e) a.args)) (ap (λ (w : Vocabulary). w.tables) same) (subst (λ ss. AreTermsOver v.declared.tables bs ss (map (term_at e) a.args)) is o.1)) in
        record { action = record { key = k.0; stands = k.1; args = args.terms }; over = args.over }
      where
        key_there : (ks : List Key) (n : ℕ) → n < length ks → (k : Key) × (slice_get ks n ≡ Some k)
        key_there [] n l = let never : ⊥ = omega (arith, l) in absurd never
        key_there (k ∷ ks) zero l = (k, refl)
        key_there (k ∷ ks) (suc n) l = key_there ks n (omega (arith, l))

        action_entry_is : (a : PlainAction) (k : Key) → slice_get g.actions a.act.0 ≡ Some k → (action_at e a.act).sorts ≡ map (sort_under g) k.sorts
        action_entry_is a k at = ap (λ z. z.sorts) (read_mapped (action_entry g) g.actions a.act.0 (record { name = []; sorts = [] }) k (slice_get_within g.actions a.act.0 k at) ∙ ap (action_entry g) (get_or_from_slice_get g.actions a.act.0 k k at))

    label_fits : (v : FullVocabulary) → v.declared ≡ vocabulary_of g → (m : List PlainAction) → All (HasAction e) m → IsLabelOver v bs (label_of e m) → All (ActionFits g ts xs) m
    label_fits v same [] h o = All-nil (ActionFits g ts xs)
    label_fits v same (a ∷ m) h o = All-cons (ActionFits g ts xs) a m (action_fits v same a (All-head (HasAction e) a m h) o.0) (label_fits v same m (All-tail (HasAction e) a m h) o.1)

  -- the definitions have the sorts of the processes
  abbrev HaveSortsOf : FullVocabulary → List PlainDefinition → Type 0
  HaveSortsOf v ds = (k : ℕ) (ss : List Sort) → slice_get (process_sorts v) k ≡ Some ss → (d : PlainDefinition) × (slice_get ds k ≡ Some d) × All (IsVariable g) d.params × (ss ≡ map (sort_under g) (map (sort_of_variable g) d.params))

  sorts_within : (xs : List VarId) → All (IsVariable g) xs → All (λ (s : SortId). s.0 < length g.sorts) (map (sort_of_variable g) xs)
  sorts_within [] h = All-nil (λ (s : SortId). s.0 < length g.sorts)
  sorts_within (x ∷ xs) h = All-cons (λ (s : SortId). s.0 < length g.sorts) (sort_of_variable g x) (map (sort_of_variable g) xs) (sort_is_within g x sg.complete (All-head (IsVariable g) x xs h)) (sorts_within xs (All-tail (IsVariable g) x xs h))

  four : bool_sort.0 < length g.sorts
  four = let k = (sg.table.sorts.boolean_first 0).1 refl in slice_get_within g.sorts 0 k.0 k.1

  module _ (v : FullVocabulary) (same : v.declared ≡ vocabulary_of g) (ds : List PlainDefinition) (have : HaveSortsOf v ds) where
    abbrev data_same : v.declared.tables ≡ data_meant g
    data_same = ap (λ (w : Vocabulary). w.tables) same

    mutual
      process_fits : (xs : List VarId) → All (IsVariable g) xs → (bs : List Bound) → Covers xs bs → (p : PlainProcess) → HasProcess e p → BodyFits v bs (body_of e p) → ProcessFits g ts ds xs p
      process_fits xs own bs c delta h f = tt
      process_fits xs own bs c (act m) h f = label_fits xs own bs c v same m h f
      process_fits xs own bs c (call x ids) h f =
          let d = have x.0 f.0 f.1 in
          record {
            definition = d.0;
            stands = d.1;
            args = terms_fit xs own bs c (map (sort_of_variable g) d.0.params) ids (sorts_within d.0.params d.2) h
                (subst (λ (z : Data). AreTermsOver z bs (map (sort_under g) (map (sort_of_variable g) d.0.params)) (map (term_at e) ids)) data_same (subst (λ ss. AreTermsOver v.declared.tables bs ss (map (term_at e) ids)) d.3 f.2));
          }
      process_fits xs own bs c (choice ps) h f = choices_fit xs own bs c ps h f
      process_fits xs own bs c (seq ps) h f = seqs_fit xs own bs c ps h f
      process_fits xs own bs c (either t p q) h f = (
        term_fits xs own bs c bool_sort t four h.0 (subst (λ s. IsTermOver (data_meant g) bs s (term_at e t)) (sym (boolean_meant g sg.table)) (subst (λ (z : Data). IsTermOver z bs boolean (term_at e t)) data_same f.0)),
        process_fits xs own bs c p h.1 f.1,
        process_fits xs own bs c q h.2 f.2,
      )
      process_fits xs own bs c (sum ys p) h f =
          let inner = variables_there ys h.0 in (
            inner,
            process_fits (ys ++ xs) (All-append (IsVariable g) ys xs inner own) (onto (map (bound_at e) ys) bs) (covers_more ys xs bs c) p h.1 (sums_fit_inside v (map (bound_at e) ys) bs (body_of e p) f),
          )
      process_fits xs own bs c (merge no_processes) h f = tt
      process_fits xs own bs c (merge (more_processes p ps)) h f = let r = merged_fit xs own bs c (body_of e p) ps h.1 f in (process_fits xs own bs c p h.0 r.0, r.1)
      process_fits xs own bs c (left_merge p q) h f = (process_fits xs own bs c p h.0 f.0, process_fits xs own bs c q h.1 f.1)
      process_fits xs own bs c (sync no_processes) h f = tt
      process_fits xs own bs c (sync (more_processes p ps)) h f = let r = synced_fit xs own bs c (body_of e p) ps h.1 f in (process_fits xs own bs c p h.0 r.0, r.1)
      process_fits xs own bs c (around o p) h f = (h.0, process_fits xs own bs c p h.1 f)

      choices_fit : (xs : List VarId) → All (IsVariable g) xs → (bs : List Bound) → Covers xs bs → (ps : PlainProcesses) → HasProcesses e ps → BodyFits v bs (choice_of (bodies_of e ps)) → ProcessesFit g ts ds xs ps
      choices_fit xs own bs c no_processes h f = tt
      choices_fit xs own bs c (more_processes p no_processes) h f = (process_fits xs own bs c p h.0 f, tt)
      choices_fit xs own bs c (more_processes p (more_processes q ps)) h f = (process_fits xs own bs c p h.0 f.0, choices_fit xs own bs c (more_processes q ps) h.1 f.1)

      seqs_fit : (xs : List VarId) → All (IsVariable g) xs → (bs : List Bound) → Covers xs bs → (ps : PlainProcesses) → HasProcesses e ps → BodyFits v bs (seq_of (bodies_of e ps)) → ProcessesFit g ts ds xs ps
      seqs_fit xs own bs c no_processes h f = tt
      seqs_fit xs own bs c (more_processes p no_processes) h f = (process_fits xs own bs c p h.0 f, tt)
      seqs_fit xs own bs c (more_processes p (more_processes q ps)) h f = (process_fits xs own bs c p h.0 f.0, seqs_fit xs own bs c (more_processes q ps) h.1 f.1)

      merged_fit : (xs : List VarId) → All (IsVariable g) xs → (bs : List Bound) → Covers xs bs → (b : Body) (ps : PlainProcesses) → HasProcesses e ps → BodyFits v bs (merged_with b (bodies_of e ps)) → BodyFits v bs b × ProcessesFit g ts ds xs ps
      merged_fit xs own bs c b no_processes h f = (f, tt)
      merged_fit xs own bs c b (more_processes q ps) h f = let r = merged_fit xs own bs c (written_merge b (body_of e q)) ps h.1 f in (r.0.0, (process_fits xs own bs c q h.0 r.0.1, r.1))

      synced_fit : (xs : List VarId) → All (IsVariable g) xs → (bs : List Bound) → Covers xs bs → (b : Body) (ps : PlainProcesses) → HasProcesses e ps → BodyFits v bs (synced_with b (bodies_of e ps)) → BodyFits v bs b × ProcessesFit g ts ds xs ps
      synced_fit xs own bs c b no_processes h f = (f, tt)
      synced_fit xs own bs c b (more_processes q ps) h f = let r = synced_fit xs own bs c (written_starting written.sync b (body_of e q)) ps h.1 f in (r.0.0, (process_fits xs own bs c q h.0 r.0.1, r.1))

-- ---- definitions
-- with small numerals
record SmallDefinition (v : FullVocabulary) (g : Sig) (p : PoolContents) (w : Written) (d : PlainDefinition) : Type 0 where
  elaborates : ElaboratesDefinition v w (definition_of (entries_of g p.trees) d)
  bounds : map (bound_at (entries_of g p.trees)) d.params ≡ elaborates.bounds
  small : EachExpression HasSmallNumerals w.body

record SmallModel (v : FullVocabulary) (g : Sig) (p : PoolContents) (ws : List Written) (init : bare.Process) (m : PlainModel) : Type 0 where
  over : v.declared ≡ vocabulary_of g
  sorts : IsOverSorts v
  entries : EachPair (IsEntry v.declared) ws v.processes
  definitions : EachPair (SmallDefinition v g p) ws m.definitions
  start : Elaborates v [] init (body_of (entries_of g p.trees) m.init)
  small : EachExpression HasSmallNumerals init
  there : HasModel (entries_of g p.trees) m
  trees : All (IsTreeWithin g) p.trees

with_small : (v : FullVocabulary) (g : Sig) (p : PoolContents) (ws : List Written) (ds : List PlainDefinition) → EachPair (IsDefinitionOf v g p) ws ds → AllByRecursion (λ (w : Written). EachExpression HasSmallNumerals w.body) ws → EachPair (SmallDefinition v g p) ws ds
with_small v g p [] [] a h = tt
with_small v g p [] (d ∷ ds) a h = absurd a
with_small v g p (w ∷ ws) [] a h = absurd a
with_small v g p (w ∷ ws) (d ∷ ds) a h = (record { elaborates = a.0.elaborates; bounds = a.0.bounds; small = h.0 }, with_small v g p ws ds a.1 h.1)

-- the sorts of what comes into scope are those of the parameters
option_same : {A : Type 0} (a b : A) → Some a ≡ Some b → a ≡ b
option_same a b h = cc

more_sorts : (x : Name) (s : Sort) (ss : List Sort) (o : Option Parameters) (ps : Parameters) → ((qs : Parameters) → o ≡ Some qs → ss ≡ map (λ (y : Name × Sort). y.1) qs) → option_map (λ qs. (x, s) ∷ qs) o ≡ Some ps → s ∷ ss ≡ map (λ (y : Name × Sort). y.1) ps
more_sorts x s ss None ps rest h = absurd cc
more_sorts x s ss (Some qs) ps rest h = subst (λ zs. s ∷ ss ≡ map (λ (y : Name × Sort). y.1) zs) (option_same ((x, s) ∷ qs) ps h) (ap (λ zs. s ∷ zs) (rest qs refl))

binds_sorts : (v : Vocabulary) {scope inner : Scope} {xs : Variables} {bs : List Bound} → Binds v scope xs inner bs → (ps : Parameters) → parameters_in v.sort_names xs ≡ Some ps → sorts bs ≡ map (λ (y : Name × Sort). y.1) ps
binds_sorts v binds_none [] h = refl
binds_sorts v binds_none (p ∷ ps) h = absurd cc
binds_sorts v (binds_more {x = x} {s = s} {xs = xs} {bs = bs} is n r) ps h =
    more_sorts x s (sorts bs) (parameters_in v.sort_names xs) ps (λ qs q. binds_sorts v r qs q) (subst (λ o. option_and_then (λ t. option_map (λ qs. (x, t) ∷ qs) (parameters_in v.sort_names xs)) o ≡ Some ps) is h)

module _ (v : FullVocabulary) (g : Sig) (sg : IsSignature g) (p : PoolContents) (h : v.declared ≡ vocabulary_of g) where
  abbrev f : Entries
  f = entries_of g p.trees

  -- the definition that stands at a place
  definition_there : (ws : List Written) (ds : List PlainDefinition) → EachPair (SmallDefinition v g p) ws ds → (k : ℕ) (d : PlainDefinition) → slice_get ds k ≡ Some d → (w : Written) × SmallDefinition v g p w d
  definition_there [] [] a k d at = absurd cc
  definition_there [] (c ∷ ds) a k d at = absurd a
  definition_there (w ∷ ws) [] a k d at = absurd a
  definition_there (w ∷ ws) (c ∷ ds) a zero d at = let q : c ≡ d = cc in (w, subst (λ z. SmallDefinition v g p w z) q a.0)
  definition_there (w ∷ ws) (c ∷ ds) a (suc k) d at = definition_there ws ds a.1 k d at

  have_sorts : (ws : List Written) (qs : List (Name × Parameters)) (ds : List PlainDefinition) → EachPair (IsEntry v.declared) ws qs → EachPair (SmallDefinition v g p) ws ds → All (λ (d : PlainDefinition). All (IsVariable g) d.params) ds
      → (k : ℕ) (ss : List Sort) → slice_get (map parameter_sorts qs) k ≡ Some ss → (d : PlainDefinition) × (slice_get ds k ≡ Some d) × All (IsVariable g) d.params × (ss ≡ map (sort_under g) (map (sort_of_variable g) d.params))
  have_sorts [] [] [] a b own k ss at = absurd cc
  have_sorts [] (q ∷ qs) ds a b own k ss at = absurd a
  have_sorts [] [] (d ∷ ds) a b own k ss at = absurd b
  have_sorts (w ∷ ws) [] ds a b own k ss at = absurd a
  have_sorts (w ∷ ws) (q ∷ qs) [] a b own k ss at = absurd b
  have_sorts (w ∷ ws) (q ∷ qs) (d ∷ ds) a b own zero ss at =
      let params = All-head (λ (d : PlainDefinition). All (IsVariable g) d.params) d ds own in
      let same : parameter_sorts q ≡ ss = cc in
      (d, refl, params, sym same ∙ sym (binds_sorts v.declared b.0.elaborates.binds q.1 a.0.parameters) ∙ sym (ap sorts b.0.bounds) ∙ sorts_of_variables g p.trees d.params params)
  have_sorts (w ∷ ws) (q ∷ qs) (d ∷ ds) a b own (suc k) ss at = have_sorts ws qs ds a.1 b.1 (All-tail (λ (d : PlainDefinition). All (IsVariable g) d.params) d ds own) k ss at

-- ---- specifications
module _ (v : FullVocabulary) (g : Sig) (p : PoolContents) (ws : List Written) (init : bare.Process) (m : PlainModel) (sg : IsSignature g) (x : SmallModel v g p ws init m) where
  abbrev i : Entries
  i = entries_of g p.trees

  own_params : All (λ (d : PlainDefinition). All (IsVariable g) d.params) m.definitions
  own_params = all_from (λ (d : PlainDefinition). All (IsVariable g) d.params) m.definitions (λ d j. variables_there g sg p.trees x.trees d.params (All-contains (HasDefinition i) m.definitions d x.there.1 j).0)

  have : HaveSortsOf g sg p.trees x.trees v m.definitions
  have = have_sorts v g sg p x.over ws v.processes m.definitions x.entries x.definitions own_params

  body_is_fit : (w : Written) (d : PlainDefinition) (y : SmallDefinition v g p w d) → BodyFits v (bounds_of y.elaborates.scope) (body_of i d.body)
  body_is_fit w d y = definitions_fit v x.sorts w (definition_of i d) y.small y.elaborates

  start_is_fit : BodyFits v [] (body_of i m.init)
  start_is_fit = what_elaborates_fits v x.sorts [] tt init (body_of i m.init) x.small x.start

  all_definitions_fit : (us : List Written) (ds : List PlainDefinition) → EachPair (SmallDefinition v g p) us ds → All (HasDefinition i) ds → All (DefinitionFits g p.trees m.definitions) ds
  all_definitions_fit [] [] a k = All-nil (DefinitionFits g p.trees m.definitions)
  all_definitions_fit [] (d ∷ ds) a k = absurd a
  all_definitions_fit (w ∷ us) [] a k = absurd a
  all_definitions_fit (w ∷ us) (d ∷ ds) a k =
      let here = All-head (HasDefinition i) d ds k in
      let params = variables_there g sg p.trees x.trees d.params here.0 in
      All-cons (DefinitionFits g p.trees m.definitions) d ds
      (record {
        params = params;
        body = process_fits g sg p.trees x.trees v x.over m.definitions have d.params params (bounds_of a.0.elaborates.scope)
            (λ vs s. binds_sorted vs a.0.elaborates.binds tt (subst (AreSorted vs) a.0.bounds s)) d.body here.1 (body_is_fit w d a.0);
      })
      (all_definitions_fit us ds a.1 (All-tail (HasDefinition i) d ds k))

  model_fits : ModelFits g p.trees m
  model_fits = record {
    definitions = all_definitions_fit ws m.definitions x.definitions x.there.1;
    init = process_fits g sg p.trees x.trees v x.over m.definitions have [] (All-nil (IsVariable g)) [] (λ vs s. tt) m.init x.there.2 start_is_fit;
  }

  own_variables : (w : Written) (d : PlainDefinition) → SmallDefinition v g p w d → HasOwnVariables (definition_of i d)
  own_variables w d y =
      let apart = binds_apart y.elaborates.binds in
      record {
        distinct = subst AreDistinct (sym y.elaborates.params) apart.0;
        binds = binds_fewer (definition_of i d).params (vars_of (bounds_of y.elaborates.scope)) (λ n j. binds_scope y.elaborates.binds n (inr (subst (λ ns. Contains ns n) y.elaborates.params j)))
            (body_of i d.body) (fits_binds v (bounds_of y.elaborates.scope) (body_of i d.body) (body_is_fit w d y));
      }

  have_own : HaveOwnVariables (table_of i m.definitions) (body_of i m.init)
  have_own = record {
    definitions = λ k c at.
        let r = body_at i m.definitions k c at in
        let y = definition_there v g sg p x.over ws m.definitions x.definitions k r.0 r.1 in
        subst HasOwnVariables (sym r.2) (own_variables y.0 r.0 y.1);
    start = fits_binds v [] (body_of i m.init) start_is_fit;
  }

pub what_elaborates_can_be_linear : WhatElaboratesCanBeLinear
what_elaborates_can_be_linear v g p spec m words sg inhabited constants names x =
    let ss = bare_sections spec in
    let ws = processes_in (declarations_in ss) in
    let small_start = subst (AllByRecursion (EachExpression HasSmallNumerals)) x.one_init (small_starts spec words) in
    let y : SmallModel v g p ws x.init m = record {
      over = x.over.declared;
      sorts = over_sorts g sg ss v x.over;
      entries = x.over.processes;
      definitions = with_small v g p ws m.definitions x.definitions (small_definitions spec words);
      start = x.start;
      small = small_start.0;
      there = x.there;
      trees = x.trees;
    } in
    record {
      stands = sg;
      fits = model_fits v g p ws x.init m sg y;
      own = bound_once (entries_of g p.trees) m (term_of m.init) (have_own v g p ws x.init m sg y);
      inhabited = inhabited;
      constants = constants;
      names = names;
      operators = operators_fit v g p spec m sg x;
    }
