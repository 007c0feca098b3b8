-- The sorts of the trees of an encoding.
use Rattle.std.proofs.Common.{◌≡◌, ◌<◌, ◌≤◌, ◌+◌, ℕ, zero, suc, false, List, [], ◌∷◌, ◌++◌, map, length, get_or, refl, sym, ap, ap₂, ◌∙◌, subst, arith, cond, ⊎_elim, Some, None}
use Rattle.std.specs.Prelude.{slice_get, Contains}
use Rattle.std.specs.List.{AllZip, AllByRecursion}
use Rattle.std.proofs.lemmas.Bool.Decides.{eqb_tells}
use Rattle.std.proofs.lemmas.List.{length-map}
use Rattle.data_theory.specs.declared.ids.FunId.{FunId}
use Rattle.data_theory.specs.declared.ids.NameId.{NameId}
use Rattle.data_theory.specs.declared.ids.SortId.{SortId}
use Rattle.data_theory.specs.declared.ids.VarId.{VarId}
use Rattle.data_theory.specs.declared.rows.Row.TheVariants as rows
use Rattle.data_theory.specs.declared.words.Word.TheVariants as words
use Rattle.data_theory.specs.Functions.{Function, arguments_of}
use Rattle.data_theory.specs.IdTables.{IsEntry, declared, built_in}
use Rattle.data_theory.specs.IdTreeSorts.{HasTreeSort, HaveTreeSorts}
use Rattle.data_theory.specs.IdTrees.{Tree, variable, function, none, more, trees_of, apply_tree}
use Rattle.data_theory.specs.Rows.{built_in as built_in_function, built_ins, row_word}
use Rattle.data_theory.specs.Signature.{Sig}
use Rattle.data_theory.specs.Sorts.{SortInfo}
use Rattle.data_theory.specs.Table.{bool_sort, pos_sort, first_table, first_rows, truth_rows, sort_rows}
use Rattle.data_theory.specs.IdData.{constructors_of as constructors_in}
use Rattle.data_theory.specs.WholeSignatures.{IsSignature}
use Rattle.data_theory.proofs.IdSymbolLemmas.{holds_at}
use Rattle.bisim_laws.proofs.Firing.{contains_first, contains_later}
use Rattle.lps_core.specs.Fitting.{sort_of_variable}
use Rattle.lps_core.specs.NumberTrees.{number_tree}
use Rattle.lps_core.specs.TreeConditions.{conjunction_tree, tree_parts, trees_without_true}
use Rattle.lps_core.proofs.SortedTrees.{read_at, parts_sorted, without_sorted, chain_sorted, number_sorted, equals_number_sorted}
use Rattle.regular_encoder.specs.FormColumns.{kind_of, AreKindsAt}
use Rattle.regular_encoder.proofs.FirstTerms.{some_is}
use Rattle.stack_encoder.specs.StackEntries.{StackIds, StackStands}
use Rattle.stack_encoder.specs.StackColumns.{sort_of_column}
use Rattle.stack_encoder.specs.TreeStack.{FrameLayout, argument_tree, column_trees, place_at, one_tree, not_function, frame_tree, first_parts, rest_tree, field_tree}
use Rattle.stack_encoder.proofs.ClosedColumns.{column_sort}
use Rattle.stack_encoder.proofs.FrameTrees.{frame_unmerged}

not_at : (texts : List (List ℕ)) (new : List Function) → slice_get (built_ins texts first_table ++ new) 8 ≡ Some (built_in_function texts (rows.One words.Not bool_sort bool_sort))
unfolding first_table first_rows truth_rows sort_rows
not_at texts new = refl

plain : (texts : List (List ℕ)) (ss : List SortInfo) (f : Function) → IsEntry texts ss f → f.word ≡ None → f.is_list_constant ≡ false
plain texts ss f (declared w p) e = p
plain texts ss f (built_in r row is text) e = let q : None ≡ Some (row_word r) = sym e ∙ ap (λ (z : Function). z.word) is in cc

-- ---- the functions of the sort
module _ (h : Sig) (stands : IsSignature h) (y : StackIds) (columns : List SortId) (st : StackStands h y columns) where
  arguments_are : (p : FunId) (f : Function) → slice_get h.functions p.0 ≡ Some f → f.word ≡ None → arguments_of f ≡ f.sorts
  arguments_are p f at w = ap (λ b. cond b [] f.sorts) (plain h.texts h.sorts f (holds_at (IsEntry h.texts h.sorts) h.functions p.0 f stands.table.entries at) w)

  push_declared : (st.push.word ≡ None) × (st.push.result ≡ y.sort)
  push_declared =
      let d = stands.roles.constructors y.sort st.info y.push st.sort_at (subst (λ z. Contains (constructors_in z) y.push) (sym st.kind) (contains_first y.push (y.empty ∷ []))) in
      let same : d.0 ≡ st.push = some_is (sym d.1 ∙ st.push_at) in
      (ap (λ (z : Function). z.word) (sym same) ∙ d.2, ap (λ (z : Function). z.result) (sym same) ∙ d.3)

  empty_declared : (st.empty.word ≡ None) × (st.empty.result ≡ y.sort)
  empty_declared =
      let d = stands.roles.constructors y.sort st.info y.empty st.sort_at (subst (λ z. Contains (constructors_in z) y.empty) (sym st.kind) (contains_later y.push y.empty (y.empty ∷ []) (contains_first y.empty []))) in
      let same : d.0 ≡ st.empty = some_is (sym d.1 ∙ st.empty_at) in
      (ap (λ (z : Function). z.word) (sym same) ∙ d.2, ap (λ (z : Function). z.result) (sym same) ∙ d.3)

  -- a function of a stack
  over_stack : (p : FunId) (f : Function) (s : SortId) (t : Tree) → slice_get h.functions p.0 ≡ Some f → f.word ≡ None → f.result ≡ s → f.sorts ≡ st.push.result ∷ [] → apply_tree p (more t none) ≡ function p (more t none) → HasTreeSort h t y.sort
      → HasTreeSort h (one_tree p t) s
  over_stack p f s t at w r ss unmerged k =
      (f, at, r, subst (λ l. HaveTreeSorts h (more t none) l) (sym (arguments_are p f at w ∙ ss ∙ ap (λ l. l ∷ []) push_declared.1)) (k, tt), unmerged)

  projected : (p : FunId) (j : ℕ) (s : SortId) (t : Tree) → slice_get st.push.projections j ≡ Some (Some p) → slice_get st.push.sorts j ≡ Some s → apply_tree p (more t none) ≡ function p (more t none) → HasTreeSort h t y.sort → HasTreeSort h (one_tree p t) s
  projected p j s t at sort_at unmerged k =
      let r = (stands.roles.projections y.push p st.push j st.push_at at).1 in
      let same : r.0 ≡ s = some_is (sym r.1 ∙ sort_at) in
      over_stack p r.2.0 s t r.2.1 r.2.2 (r.2.3 ∙ same) r.2.4 unmerged k

  pub recognised : (t : Tree) → apply_tree y.is_push (more t none) ≡ function y.is_push (more t none) → HasTreeSort h t y.sort → HasTreeSort h (one_tree y.is_push t) bool_sort
  recognised t unmerged k =
      let r = stands.roles.recognisers y.push y.is_push st.push st.push_at st.push_test in
      over_stack y.is_push r.1.0 bool_sort t r.1.1 r.1.2 r.1.3 r.1.4 unmerged k

  at_end : {A : Type 0} (xs : List A) (z : A) → slice_get (xs ++ z ∷ []) (length xs) ≡ Some z
  at_end [] z = refl
  at_end (x ∷ xs) z = at_end xs z

  module _ (q : VarId) (own : HasTreeSort h (variable q) y.sort) where
    pub rest_sorted : HasTreeSort h (rest_tree y q) y.sort
    rest_sorted =
        projected y.rest (suc (length columns)) y.sort (variable q)
        (ap₂ (λ l m. slice_get l (suc m)) st.push_projections (sym (length-map y.fields Some ∙ st.long)) ∙ at_end (map Some y.fields) (Some y.rest))
        (ap (λ l. slice_get l (suc (length columns))) st.push_sorts ∙ at_end columns y.sort) refl own

    read_field : (ps : List FunId) (ss : List SortId) (n : ℕ) (s : SortId) (d : FunId) → length ps ≡ length ss → slice_get ss n ≡ Some s → slice_get (map Some ps ++ Some y.rest ∷ []) n ≡ Some (Some (get_or ps n d))
    read_field [] [] n s d l e = cc
    read_field [] (z ∷ ss) n s d l e = absurd (omega (arith, l))
    read_field (p ∷ ps) [] n s d l e = absurd (omega (arith, l))
    read_field (p ∷ ps) (z ∷ ss) zero s d l e = refl
    read_field (p ∷ ps) (z ∷ ss) (suc n) s d l e = read_field ps ss n s d (omega (arith, l)) e

    read_column : (ss : List SortId) (n : ℕ) (s : SortId) → slice_get ss n ≡ Some s → slice_get (ss ++ y.sort ∷ []) n ≡ Some s
    read_column [] n s e = cc
    read_column (z ∷ ss) zero s e = e
    read_column (z ∷ ss) (suc n) s e = read_column ss n s e

    pub field_sorted : (n : ℕ) (s : SortId) → slice_get columns n ≡ Some s → HasTreeSort h (field_tree y q n) s
    field_sorted n s at =
        projected (get_or y.fields n (record { 0 = 0 })) (suc n) s (variable q)
        (ap (λ l. slice_get l (suc n)) st.push_projections ∙ read_field y.fields columns n s (record { 0 = 0 }) st.long at)
        (ap (λ l. slice_get l (suc n)) st.push_sorts ∙ read_column columns n s at) refl own

    -- ---- the parts of conditions
    pub first_sorted : (i : ℕ) → 1 ≤ i → i < 340282366920938463463374607431768211456 → AllByRecursion (λ t. HasTreeSort h t bool_sort) (first_parts y q i)
    first_sorted i one few =
        let pc = projected y.pc 0 pos_sort (variable q) (ap (λ l. slice_get l 0) st.push_projections) (ap (λ l. slice_get l 0) st.push_sorts) refl own in (
          recognised (variable q) refl own,
          (equals_number_sorted h stands.complete (one_tree y.pc (variable q)) i one few pc, tt),
        )

    pub more_sorted : HasTreeSort h (one_tree y.is_push (rest_tree y q)) bool_sort
    more_sorted = recognised (rest_tree y q) refl rest_sorted

    pub last_sorted : HasTreeSort h (one_tree not_function (one_tree y.is_push (rest_tree y q))) bool_sort
    last_sorted = (built_in_function h.texts (rows.One words.Not bool_sort bool_sort), read_at h stands.complete 8 _ (not_at h.texts), refl, (more_sorted, tt), refl)

    joined : {A : Type 0} (P : A → Type 0) (xs ys : List A) → AllByRecursion P xs → AllByRecursion P ys → AllByRecursion P (xs ++ ys)
    joined P [] ys a b = b
    joined P (x ∷ xs) ys a b = (a.0, joined P xs ys a.1 b)

    pub condition_sorted : (i : ℕ) → 1 ≤ i → i < 340282366920938463463374607431768211456 → (t : Tree) → HasTreeSort h t bool_sort → (further : List Tree) → AllByRecursion (λ t. HasTreeSort h t bool_sort) further
        → HasTreeSort h (conjunction_tree (first_parts y q i ++ (trees_without_true (tree_parts t) ++ further))) bool_sort
    condition_sorted i one few t k further f =
        chain_sorted h stands.complete (first_parts y q i ++ (trees_without_true (tree_parts t) ++ further))
        (joined (λ t. HasTreeSort h t bool_sort) (first_parts y q i) (trees_without_true (tree_parts t) ++ further) (first_sorted i one few)
        (joined (λ t. HasTreeSort h t bool_sort) (trees_without_true (tree_parts t)) further (without_sorted h stands.complete (tree_parts t) (parts_sorted h stands.complete t k)) f))

  -- ---- frames
  pub empty_sorted : HasTreeSort h (function y.empty none) y.sort
  empty_sorted = (st.empty, st.empty_at, empty_declared.1, subst (λ l. HaveTreeSorts h none l) (sym (arguments_are y.empty st.empty st.empty_at empty_declared.0 ∙ st.empty_sorts)) tt, refl)

  listed_sorted : (ts : List Tree) (ss : List SortId) (u : Tree) (s : SortId) → HaveTreeSorts h (trees_of ts) ss → HasTreeSort h u s → HaveTreeSorts h (trees_of (ts ++ u ∷ [])) (ss ++ s ∷ [])
  listed_sorted [] [] u s a b = (b, tt)
  listed_sorted [] (z ∷ ss) u s a b = absurd a
  listed_sorted (t ∷ ts) [] u s a b = absurd a
  listed_sorted (t ∷ ts) (z ∷ ss) u s a b = (a.0, listed_sorted ts ss u s a.1 b)

  pub frame_sorted : (l : FrameLayout) (i : ℕ) (us : List Tree) (below : Tree) → 1 ≤ i → i < 340282366920938463463374607431768211456 → HaveTreeSorts h (trees_of (column_trees (place_at l i) us 0 l.defaults)) columns → HasTreeSort h below y.sort
      → HasTreeSort h (frame_tree y l i us below) y.sort
  frame_sorted l i us below one few k b = (
    st.push,
    st.push_at,
    push_declared.1,
    subst (λ ss. HaveTreeSorts h (trees_of (number_tree i ∷ (column_trees (place_at l i) us 0 l.defaults ++ below ∷ []))) ss) (sym (arguments_are y.push st.push st.push_at push_declared.0 ∙ st.push_sorts))
        (number_sorted h stands.complete i one few, listed_sorted (column_trees (place_at l i) us 0 l.defaults) columns below y.sort k b),
    frame_unmerged y.push (number_tree i) (column_trees (place_at l i) us 0 l.defaults) below,
  )

-- ---- columns
argument_sorted : (h : Sig) (kinds : List (NameId × SortId)) (place : List ℕ) (us : List Tree) (x : ℕ) (d : Tree) → AllZip (λ n u. HasTreeSort h u (sort_of_column kinds n)) place us → HasTreeSort h d (sort_of_column kinds x)
    → HasTreeSort h (argument_tree place us x d) (sort_of_column kinds x)
argument_sorted h kinds [] us x d z k = k
argument_sorted h kinds (p ∷ place) [] x d z k = k
argument_sorted h kinds (p ∷ place) (u ∷ us) x d z k = ⊎_elim
    (λ q. subst (λ b. HasTreeSort h (cond b u (argument_tree place us x d)) (sort_of_column kinds x)) (sym q.0) (subst (λ n. HasTreeSort h u (sort_of_column kinds n)) q.1 z.0))
    (λ q. subst (λ b. HasTreeSort h (cond b u (argument_tree place us x d)) (sort_of_column kinds x)) (sym q.0) (argument_sorted h kinds place us x d z.1 k))
    (eqb_tells p x)

pub columns_sorted : (h : Sig) (kinds : List (NameId × SortId)) (place : List ℕ) (us : List Tree) → AllZip (λ n u. HasTreeSort h u (sort_of_column kinds n)) place us → (x : ℕ) (ds : List Tree) (ss : List SortId) → HaveTreeSorts h (trees_of ds) ss
    → ((j : ℕ) (s : SortId) → slice_get ss j ≡ Some s → sort_of_column kinds (x + j) ≡ s) → HaveTreeSorts h (trees_of (column_trees place us x ds)) ss
columns_sorted h kinds place us z x [] [] k f = tt
columns_sorted h kinds place us z x [] (s ∷ ss) k f = absurd k
columns_sorted h kinds place us z x (d ∷ ds) [] k f = absurd k
columns_sorted h kinds place us z x (d ∷ ds) (s ∷ ss) k f =
    let same : sort_of_column kinds x ≡ s = ap (sort_of_column kinds) (let n : x ≡ x + 0 = omega arith in n) ∙ f 0 s refl in (
      subst (λ r. HasTreeSort h (argument_tree place us x d) r) same (argument_sorted h kinds place us x d z (subst (λ r. HasTreeSort h d r) (sym same) k.0)),
      columns_sorted h kinds place us z (suc x) ds ss k.1 (λ j r e. ap (sort_of_column kinds) (let n : suc x + j ≡ x + suc j = omega arith in n) ∙ f (suc j) r e),
    )

pub sorts_of_kinds : (kinds : List (NameId × SortId)) (j : ℕ) (s : SortId) → slice_get (map (λ (k : NameId × SortId). k.1) kinds) j ≡ Some s → sort_of_column kinds (0 + j) ≡ s
sorts_of_kinds kinds j s e = ap (sort_of_column kinds) (let n : 0 + j ≡ j = omega arith in n) ∙ at_place kinds j s e
  where
    at_place : (kinds : List (NameId × SortId)) (j : ℕ) (s : SortId) → slice_get (map (λ (k : NameId × SortId). k.1) kinds) j ≡ Some s → sort_of_column kinds j ≡ s
    at_place [] j s e = cc
    at_place (k ∷ kinds) zero s e = some_is e
    at_place (k ∷ kinds) (suc j) s e = at_place kinds j s e

-- what is beside the places of parameters
pub beside_places : (g h : Sig) (kinds : List (NameId × SortId)) (params : List VarId) (place : List ℕ) (us : List Tree) → AreKindsAt g kinds params place → map (sort_of_variable h) params ≡ map (sort_of_variable g) params → HaveTreeSorts h (trees_of us) (map (sort_of_variable h) params)
    → AllZip (λ n u. HasTreeSort h u (sort_of_column kinds n)) place us
beside_places g h kinds params place us z e k = from_sorts params place us z (subst (λ ss. HaveTreeSorts h (trees_of us) ss) e k)
  where
    from_sorts : (params : List VarId) (place : List ℕ) (us : List Tree) → AreKindsAt g kinds params place → HaveTreeSorts h (trees_of us) (map (sort_of_variable g) params) → AllZip (λ n u. HasTreeSort h u (sort_of_column kinds n)) place us
    from_sorts [] [] [] z k = tt
    from_sorts [] [] (u ∷ us) z k = absurd k
    from_sorts [] (n ∷ place) us z k = absurd z
    from_sorts (p ∷ params) [] us z k = absurd z
    from_sorts (p ∷ params) (n ∷ place) [] z k = absurd k
    from_sorts (p ∷ params) (n ∷ place) (u ∷ us) z k = (subst (λ s. HasTreeSort h u s) (sym (column_sort kinds n (kind_of g p) z.0)) k.0, from_sorts params place us z.1 k.1)

-- the fields of parameters have their sorts
pub fields_sorted : (g h : Sig) (stands : IsSignature h) (kinds : List (NameId × SortId)) (y : StackIds) (st : StackStands h y (map (λ (k : NameId × SortId). k.1) kinds)) (q : VarId) → HasTreeSort h (variable q) y.sort
    → (params : List VarId) (place : List ℕ) → AreKindsAt g kinds params place → HaveTreeSorts h (trees_of (map (field_tree y q) place)) (map (sort_of_variable g) params)
fields_sorted g h stands kinds y st q own [] [] z = tt
fields_sorted g h stands kinds y st q own [] (n ∷ place) z = absurd z
fields_sorted g h stands kinds y st q own (p ∷ params) [] z = absurd z
fields_sorted g h stands kinds y st q own (p ∷ params) (n ∷ place) z =
    (field_sorted h stands y (map (λ (k : NameId × SortId). k.1) kinds) st q own n (sort_of_variable g p) (read_kind kinds n (kind_of g p) z.0), fields_sorted g h stands kinds y st q own params place z.1)
  where
    read_kind : (kinds : List (NameId × SortId)) (n : ℕ) (k : NameId × SortId) → slice_get kinds n ≡ Some k → slice_get (map (λ (k : NameId × SortId). k.1) kinds) n ≡ Some k.1
    read_kind [] n k e = cc
    read_kind (x ∷ kinds) zero k e = ap (λ z. Some z.1) (some_is e)
    read_kind (x ∷ kinds) (suc n) k e = read_kind kinds n k e
