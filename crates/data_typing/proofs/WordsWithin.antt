-- What words are taken as is over their signature.
use Rattle.std.proofs.Common.{◌≡◌, ◌<◌, ◌+◌, ◌==◌, ℕ, zero, suc, Bool, true, false, cond, List, [], ◌∷◌, ◌++◌, length, map, take, get_or, sym, subst, ap, ◌∙◌, arith}
use Rattle.std.specs.Prelude.{Option, Some, IfSome, slice_get}
use Rattle.std.specs.List.{All, AllByRecursion, Contains}
use Rattle.std.proofs.lemmas.List.{append_assoc, map-append, map_more}
use Rattle.std.proofs.lemmas.List.Elements.{All-head, All-tail, All-contains_itself, All-filter}
use Rattle.data_theory.specs.declared.ids.NameId.{NameId}
use Rattle.data_theory.specs.declared.ids.SortId.{SortId}
use Rattle.data_theory.specs.declared.ids.FunId.{FunId}
use Rattle.data_theory.specs.declared.rows.Row.{Row}
use Rattle.data_theory.specs.Terms.{Symbol, boolean}
use Rattle.data_theory.specs.Functions.{Function, arguments_of}
use Rattle.data_theory.specs.Table.{language_table}
use Rattle.data_theory.specs.RowsOfWords.{has_name, rows_of}
use Rattle.data_theory.specs.Signature.{Sig}
use Rattle.data_theory.specs.IdSorts.{meant_by}
use Rattle.data_theory.specs.IdTerms.{sort_under, symbol_under}
use Rattle.data_theory.proofs.IdSortLemmas.{read_within}
use Rattle.sort_table.specs.Duplicates.{any_sort, lists_of_any}
use Rattle.sort_table.specs.NamedSorts.{sort_count}
use Rattle.data_typing.specs.declared.flat_sorts.FlatSort.{FlatSort}
use Rattle.data_typing.specs.declared.nodes.Callee.TheVariants as callees
use Rattle.data_typing.specs.declared.nodes.Overload.{Overload}
use Rattle.data_typing.specs.declared.nodes.AnyOverload.{AnyOverload}
use Rattle.data_typing.specs.declared.scope.Bound as code_bound
use Rattle.data_typing.specs.Typings.{Signature}
use Rattle.data_typing.specs.FlatSorts.{flat_sort}
use Rattle.data_typing.specs.NodeTypings.{callee_symbol, signature_of}
use Rattle.data_typing.specs.CodeWords.{found_behind, fun_signature, sorts_of_function, result_of_function, AreFlat}
use Rattle.data_typing.specs.Within.{IsFlatWithin, IsCallee, IsOverloadWithin, IsSomeAnyWithin}
use Rattle.data_typing.proofs.WithinLemmas.{IsSortWithin, flat_there, flat_back, overload_more, any_more, all_more}
use Rattle.data_typing.proofs.TableLemmas.{flats_are_within}

-- ---- rows of a word
pub rows_contained : (t : List ℕ) (rows : List Row) → rows ≡ rows_of t any_sort lists_of_any → All (Contains (language_table any_sort lists_of_any)) rows
rows_contained t rows e = subst (All (Contains (language_table any_sort lists_of_any))) (sym e) (All-filter (has_name t) (Contains (language_table any_sort lists_of_any)) (language_table any_sort lists_of_any) (All-contains_itself (language_table any_sort lists_of_any)))

pub overloads_more : (n c : ℕ) (fs : List Overload) → AllByRecursion (IsOverloadWithin 0 0) fs → AllByRecursion (IsOverloadWithin n c) fs
overloads_more n c fs all = all_more (IsOverloadWithin 0 0) (IsOverloadWithin n c) (overload_more 0 n 0 c (omega arith) (omega arith)) fs all

pub some_more : (n : ℕ) (a : Option AnyOverload) → IsSomeAnyWithin 0 a → IsSomeAnyWithin n a
some_more n a h = any_more 0 n (omega arith) a h

-- ---- declared functions
all_meant : (n : ℕ) (fs : List FlatSort) → All (IsFlatWithin n) fs → (k : ℕ) → IsSortWithin n (get_or (map flat_sort fs) k boolean)
all_meant n [] all k = tt
all_meant n (f ∷ fs) all zero = flat_there n f (All-head (IsFlatWithin n) f fs all)
all_meant n (f ∷ fs) all (suc k) = all_meant n fs (All-tail (IsFlatWithin n) f fs all) k

arguments_there : (n : ℕ) (fs : List FlatSort) → All (IsFlatWithin n) fs → (them : List FlatSort) (ids : List SortId) → map flat_sort them ≡ map (meant_by (map flat_sort fs)) ids → AllByRecursion (IsFlatWithin n) them
arguments_there n fs all [] ids e = tt
arguments_there n fs all (f ∷ them) [] e = cc
arguments_there n fs all (f ∷ them) (i ∷ ids) e =
    let first : flat_sort f ≡ meant_by (map flat_sort fs) i = cc in
    let rest : map flat_sort them ≡ map (meant_by (map flat_sort fs)) ids = cc in
    (flat_back n f (subst (IsSortWithin n) (sym first) (all_meant n fs all i.0)), arguments_there n fs all them ids rest)

module _ (g : Sig) (fs : List FlatSort) (flat : AreFlat g fs) (fun : FunId) (within : fun.0 < length g.functions) (f : Overload) (same : f.callee ≡ callees.Declared fun) (ids : List SortId) (to : SortId)
    (are : map flat_sort f.arguments.items ≡ map (meant_by (map flat_sort fs)) ids) (is : flat_sort f.result ≡ meant_by (map flat_sort fs) to) where
  pub declared_within : IsOverloadWithin (sort_count g) (length g.functions) f
  declared_within = record {
    callee = subst (λ k. IsCallee (length g.functions) k (map flat_sort f.arguments.items) (flat_sort f.result)) (sym same) within;
    arguments = arguments_there (sort_count g) fs (flats_are_within g fs flat) f.arguments.items ids are;
    result = flat_back (sort_count g) f.result (subst (IsSortWithin (sort_count g)) (sym is) (all_meant (sort_count g) fs (flats_are_within g fs flat) to.0));
  }

  pub declared_means : IfSome (slice_get g.functions fun.0) (λ (h : Function). arguments_of h ≡ ids) → IfSome (slice_get g.functions fun.0) (λ (h : Function). h.result ≡ to) → signature_of (symbol_under g) f ≡ fun_signature g fun
  declared_means has gives =
      let (h, at) = read_within g.functions fun.0 within in
      let ids_are : arguments_of h ≡ ids = subst (λ (o : Option Function). IfSome o (λ (k : Function). arguments_of k ≡ ids)) at has in
      let to_is : h.result ≡ to = subst (λ (o : Option Function). IfSome o (λ (k : Function). k.result ≡ to)) at gives in
      let args : map flat_sort f.arguments.items ≡ sorts_of_function g (slice_get g.functions fun.0) =
      are ∙ ap (λ ms. map (meant_by ms) ids) flat ∙ ap (map (sort_under g)) (sym ids_are) ∙ ap (sorts_of_function g) (sym at) in
      let result : flat_sort f.result ≡ result_of_function g (slice_get g.functions fun.0) = is ∙ ap (λ ms. meant_by ms to) flat ∙ ap (sort_under g) (sym to_is) ∙ ap (result_of_function g) (sym at) in
      let symbol = ap (λ k. callee_symbol (symbol_under g) k (map flat_sort f.arguments.items) (flat_sort f.result)) same in
      λ i. record { symbol = symbol i; arguments = args i; result = result i }

pub declared_more : (y : FunId → Symbol) (g : Sig) (funs : List FunId) (i : ℕ) (d : FunId) (front : List Signature) (all new : List Overload) (f : Overload) → i < length funs → map (signature_of y) all ≡ front ++ map (fun_signature g) (take i funs)
    → signature_of y f ≡ fun_signature g (get_or funs i d) → new ≡ all ++ f ∷ [] → map (signature_of y) new ≡ front ++ map (fun_signature g) (take (i + 1) funs)
declared_more y g funs i d front all new f l h k e =
    ap (map (signature_of y)) e ∙ map-append (signature_of y) all (f ∷ []) ∙ ap (λ ss. ss ++ signature_of y f ∷ []) h ∙ append_assoc front (map (fun_signature g) (take i funs)) (signature_of y f ∷ [])
    ∙ ap (λ ss. front ++ ss) (ap (λ s. map (fun_signature g) (take i funs) ++ s ∷ []) k ∙ sym (map_more (fun_signature g) funs i d l))

-- ---- variables
pub found_within : (P : code_bound.Bound → Type 0) (n : NameId) (bs : List code_bound.Bound) → All P bs → (o : Option code_bound.Bound) → IfSome o P → IfSome (found_behind n o bs) P
found_within P n [] all o h = h
found_within P n (x ∷ bs) all o h = found_within P n bs (All-tail P x bs all) (cond (x.name.0 == n.0) (Some x) o) (by (x.name.0 == n.0))
  where
    by : (t : Bool) → IfSome (cond t (Some x) o) P
    by true = All-head P x bs all
    by false = h
