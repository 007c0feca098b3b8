-- Data terms over a signature to which nothing is added.
use Rattle.std.proofs.Common.{◌≡◌, ◌<◌, ◌+◌, ℕ, List, [], ◌∷◌, ◌++◌, length, map, take, get_or, refl, sym, subst, ap, ap₂, ◌∙◌}
use Rattle.std.specs.Prelude.{reverse, slice_get, Option, Some, None, IfSome, Contains}
use Rattle.std.specs.List.{All, AllByRecursion}
use Rattle.std.proofs.lemmas.List.{map_more, reverse-append}
use Rattle.std.proofs.lemmas.List.Elements.{All-head, All-tail, All-weaker, Contains-get_or}
use Rattle.std.proofs.lemmas.Option.{slice_get-get_or}
use Rattle.data_theory.specs.declared.ids.NameId.{NameId}
use Rattle.data_theory.specs.declared.ids.SortId.{SortId}
use Rattle.data_theory.specs.declared.ids.TermId.{TermId}
use Rattle.data_theory.specs.declared.ids.VarId.{VarId}
use Rattle.data_theory.specs.declared.signature.Variable.{Variable}
use Rattle.data_theory.specs.Terms.{Sort, Term}
use Rattle.data_theory.specs.Declarations.{IsSort, Declares, HasSort}
use Rattle.data_theory.specs.Environments.{IsOver}
use Rattle.data_theory.specs.Signature.{Sig}
use Rattle.data_theory.specs.WholeSignatures.{IsSignature}
use Rattle.data_theory.specs.IdData.{data_meant}
use Rattle.data_theory.specs.IdTerms.{sort_under, variable_sorts, IsTreeWithin}
use Rattle.data_theory.specs.IdTrees as trees
use Rattle.data_theory.proofs.IdTermLemmas.{sorted_trees_mean_sorted_terms}
use Rattle.mcrl2_syntax.specs.DataTrees.{PlainData}
use Rattle.mcrl2_syntax.specs.TreeWords.{IsDataOfWords}
use Rattle.term_pool.specs.HeadTrees.{no_tree, tree_at, IsIn}
use Rattle.term_pool.specs.Pools.{PoolContents}
use Rattle.term_pool.proofs.Lists.{contains_map}
use Rattle.sort_table.specs.BareData.{bare_data}
use Rattle.sort_table.specs.SignatureVocabularies.{vocabulary_of}
use Rattle.data_typing.specs.declared.flat_sorts.FlatSort.{FlatSort}
use Rattle.data_typing.specs.declared.scope.Bound as code
use Rattle.data_typing.specs.CodeParts.{term_at}
use Rattle.data_typing.specs.CodeWords.{bound_of, scope_of}
use Rattle.data_typing.specs.Contexts.{IsBoundOver, IsFlatOver}
use Rattle.data_typing.specs.FlatSorts.{flat_sort}
use Rattle.data_typing.specs.Meanings.{Bound, Scope, meaning, typing_in, ChecksAs}
use Rattle.data_typing.specs.StandingSorts.{IsFoundIn}
use Rattle.data_typing.specs.TypingLaws.{IsScope}
use Rattle.data_typing.proofs.MeaningSorts.{checked_terms_have_the_sort}
use Rattle.data_typing.proofs.Readings.{typing_reads_the_expression}
use Rattle.sort_checker.specs.TypedData.{no_variable, variable_under, bound_under, scope_under, IsDataTermIn}
use Rattle.sort_checker.proofs.Binding.{scope_with}
use Rattle.sort_checker.proofs.EquationsHere.{over_its_own, variables_in_scope}
use Rattle.sort_checker.proofs.LabelsOver.{all_and_one}
use Rattle.sort_checker.proofs.OverSignatures.{data_over}
use Rattle.sort_checker.proofs.SignatureSorts.{is_sort}
use Rattle.sort_checker.proofs.SmallNumerals.{small_data}
use Rattle.sort_checker.proofs.SortedTrees.{sorted_terms_have_sorted_trees}

-- ---- variables in scope
-- one more variable
pub scope_more : (g : Sig) (xs : List VarId) (i : ℕ) (x : VarId) → i < length xs → (bs cs : List code.Bound) (b : code.Bound) → cs ≡ bs ++ b ∷ [] → bound_of g.texts b ≡ bound_under g (get_or xs i x)
    → scope_of g.texts bs ≡ scope_under g (take i xs) → scope_of g.texts cs ≡ scope_under g (take (i + 1) xs)
scope_more g xs i x l bs cs b entered is so_far =
    let front : List Bound = map (bound_under g) (take i xs) in
    let last : Bound = bound_under g (get_or xs i x) in
    ap (scope_of g.texts) entered ∙ (scope_with g.texts [] bs b ∙ (ap₂ (λ (c : Bound) (s : Scope). c ∷ s) is so_far ∙ sym (ap reverse (map_more (bound_under g) xs i x l) ∙ reverse-append front (last ∷ []))))

module _ (g : Sig) (signature : IsSignature g) where
  -- the entry of a variable, with its name and its sort
  module _ (x : VarId) (there : x.0 < length g.variables) (n : NameId) (name : IfSome (slice_get g.variables x.0) (λ (v : Variable). v.name ≡ n)) (s : SortId) (sort : IfSome (slice_get g.variables x.0) (λ (v : Variable). v.sort ≡ s)) where
    stands : slice_get g.variables x.0 ≡ Some (variable_under g x)
    stands = slice_get-get_or g.variables x.0 no_variable there

    its_name : (variable_under g x).name ≡ n
    its_name = subst (λ (o : Option Variable). IfSome o (λ (v : Variable). v.name ≡ n)) stands name

    its_sort : (variable_under g x).sort ≡ s
    its_sort = subst (λ (o : Option Variable). IfSome o (λ (v : Variable). v.sort ≡ s)) stands sort

    pub sort_there : s.0 < length g.sorts
    sort_there = subst (λ (r : SortId). r.0 < length g.sorts) its_sort (signature.complete.within.variables x.0 no_variable there).1

    pub bound_there : (f : FlatSort) → IsFlatOver g f → IsBoundOver g (record { name = n; var = x; sort = f })
    bound_there f over = (subst (λ (m : NameId). m.0 < length g.texts) its_name (signature.complete.within.variables x.0 no_variable there).0, over)

    pub bound_is : (f : FlatSort) → flat_sort f ≡ sort_under g s → bound_of g.texts (record { name = n; var = x; sort = f }) ≡ bound_under g x
    bound_is f flat = ap₂ (λ (m : NameId) (r : Sort). record { name = get_or g.texts m.0 []; number = x.0; sort = r }) (sym its_name) (flat ∙ ap (sort_under g) (sym its_sort))

  -- what holds of each variable holds of the scope
  each_in_scope : (P : Bound → Type 0) (xs : List VarId) → All (λ (x : VarId). P (bound_under g x)) xs → AllByRecursion P (scope_under g xs)
  each_in_scope P [] all = tt
  each_in_scope P (x ∷ xs) all =
      all_and_one P (scope_under g xs) (scope_under g (x ∷ xs)) (bound_under g x) (reverse-append (bound_under g x ∷ []) (map (bound_under g) xs))
      (each_in_scope P xs (All-tail (λ (y : VarId). P (bound_under g y)) x xs all)) (All-head (λ (y : VarId). P (bound_under g y)) x xs all)

  -- each has its sort, which is one of the data
  variable_sorted : (x : VarId) → x.0 < length g.variables → Declares (variable_sorts g) x.0 (sort_under g (variable_under g x).sort) × IsSort (data_meant g) (sort_under g (variable_under g x).sort)
  variable_sorted x there = (
    sorted_trees_mean_sorted_terms g signature.table (trees.variable x) (variable_under g x).sort (variable_under g x, slice_get-get_or g.variables x.0 no_variable there, refl),
    is_sort g signature (variable_under g x).sort (signature.complete.within.variables x.0 no_variable there).1,
  )

  module _ (xs : List VarId) (there : All (λ (x : VarId). x.0 < length g.variables) xs) where
    in_scope : IsScope (data_meant g) (variable_sorts g) (scope_under g xs)
    in_scope =
        each_in_scope (λ (b : Bound). Declares (variable_sorts g) b.number b.sort × IsSort (data_meant g) b.sort) xs
        (All-weaker (λ (x : VarId). x.0 < length g.variables) (λ (x : VarId). Declares (variable_sorts g) x.0 (sort_under g (variable_under g x).sort) × IsSort (data_meant g) (sort_under g (variable_under g x).sort)) variable_sorted xs there)

    numbers_in_scope : AllByRecursion (λ (b : Bound). Contains (map (λ (x : VarId). x.0) xs) b.number) (scope_under g xs)
    numbers_in_scope = each_in_scope (λ (b : Bound). Contains (map (λ (x : VarId). x.0) xs) b.number) xs (λ k x l. contains_map (λ (y : VarId). y.0) xs (get_or xs k x) (Contains-get_or xs k x l))

    -- ---- terms
    module _ (s : SortId) (inside : s.0 < length g.sorts) (d : PlainData) (words : IsDataOfWords d) where
      abbrev Checks : Term → Type 0
      Checks t = ChecksAs (vocabulary_of g) (scope_under g xs) (bare_data d) (sort_under g s) t

      -- what a tree checks as has the sort
      checked_sorted : (t : Term) → Checks t → HasSort (data_meant g) (variable_sorts g) t (sort_under g s)
      checked_sorted t checks =
          checked_terms_have_the_sort (vocabulary_of g) (variable_sorts g) (scope_under g xs) (data_over g signature) in_scope (bare_data d) (small_data d words) (sort_under g s) t (is_sort g signature s inside) checks

      -- and no variables but those in scope
      checked_over : (t : Term) → Checks t → IsOver (map (λ (x : VarId). x.0) xs) t
      checked_over t checks = over_its_own (map (λ (x : VarId). x.0) xs) t (λ n among. variables_in_scope (vocabulary_of g) (scope_under g xs) (bare_data d) t ((typing_reads_the_expression (meaning (vocabulary_of g) (scope_under g xs)) (bare_data d)).checks (sort_under g s) t checks) (Contains (map (λ (x : VarId). x.0) xs)) numbers_in_scope n among)

      -- what was found of a tree over the signature is its typed term
      pub data_found : (p : PoolContents) → All (IsTreeWithin g) p.trees → (o : Option TermId) → IfSome o (IsIn p.trees) → IsFoundIn g p.trees ((typing_in (vocabulary_of g) (scope_under g xs) (bare_data d)).checks (sort_under g s)) o → IsDataTermIn g p xs s d o
      data_found p within None there found = λ t typed. found t (sort_under g s) typed.checks (checked_sorted t typed.checks) typed.sorts
      data_found p within (Some id) there found = record {
        typed = record { checks = found.0; sorts = found.1 };
        within = there;
        sorted = sorted_terms_have_sorted_trees g signature (tree_at p.trees id) s (within id.0 no_tree there) inside (checked_sorted (term_at g p.trees id) found.0);
        over = checked_over (term_at g p.trees id) found.0;
      }
