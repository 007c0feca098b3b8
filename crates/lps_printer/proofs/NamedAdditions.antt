-- What is added to a text has names that are identifiers.
use Rattle.std.proofs.Common.{◌≡◌, ◌<◌, ℕ, zero, suc, Bool, true, false, cond, nat_eq, List, [], ◌∷◌, length, refl, sym, ap, ◌∙◌, subst, arith, Option, Some, None}
use Rattle.std.specs.Prelude.{slice_get}
use Rattle.std.specs.List.{All, AllByRecursion, Contains}
use Rattle.std.proofs.lemmas.List.Elements.{All-nil, All-contains, Contains-append_right}
use Rattle.std.proofs.lemmas.Option.{get_or_from_slice_get, none-some}
use Rattle.data_theory.specs.declared.ids.FunId.{FunId}
use Rattle.data_theory.specs.declared.ids.NameId.{NameId}
use Rattle.data_theory.specs.declared.ids.SortId.{SortId}
use Rattle.data_theory.specs.Functions.{Function, arguments_of}
use Rattle.data_theory.specs.Keys.{Key}
use Rattle.data_theory.specs.Signature.{Sig}
use Rattle.data_theory.specs.Sorts as kinds
use Rattle.data_theory.specs.Sorts.{SortInfo}
use Rattle.data_theory.specs.IdData.{constructors_of}
use Rattle.data_theory.specs.IdRoles.{IsDeclaredAs}
use Rattle.data_theory.specs.IdTerms.{sort_under}
use Rattle.data_theory.specs.WholeSignatures.{IsSignature, HasDeclaredConstructors}
use Rattle.data_theory.proofs.IdSortLemmas.{read_within}
use Rattle.data_theory.proofs.PlaceLemmas.{contains_read}
use Rattle.sort_table.specs.SignatureVocabularies.{text_under, function_name_of}
use Rattle.lps_printer.specs.AddedDeclarations.{no_function, function_at, name_at, kind_at, constructors_in, begun_by, struct_begun, is_constant, constants_among, constant_with, some_name, fields_with, constructor_with, added_functions, behind_all, behind_acts_of}
use Rattle.lps_printer.specs.DataLayout.{IsIdentifier}
use Rattle.lps_printer.specs.GrownIdentifiers.{FunctionNamed, WhatIsAddedIsNamed}
use Rattle.lps_printer.specs.NamedStructs.{IsNamedOption, IsNamedField, IsNamedConstructor, IsNamedStruct, BeginsNamedStruct}
use Rattle.lps_printer.specs.NamedSummands.{IsNamedVariable}
use Rattle.lps_printer.specs.WrittenProcesses.{TextNames}
use Rattle.lps_printer.specs.TextWordings.{sort_place}
use Rattle.data_theory.specs.Table.{bool_sort}
use Rattle.lps_printer.proofs.DeclaredAdditions.{get_all}
use Rattle.lps_printer.proofs.DeclaredCounts.{acts_behind, added_are_declared}
use Rattle.lps_printer.proofs.GrownIdentifiers.{sort_named}
use Rattle.lps_printer.proofs.SignatureNames.{declared_there}
use Rattle.lps_printer.proofs.TwoOfLists.{all_from, all_mapped}

-- ---- lists
in_constants : (h : Sig) (fs : List FunId) (f : FunId) → Contains (constants_among h fs) f → Contains fs f
in_constants h [] f c = c
in_constants h (g ∷ fs) f c = by_test (is_constant h g) (in_constants h fs f) c
  where
    by_test : (b : Bool) → (Contains (constants_among h fs) f → Contains fs f) → Contains (cond b (g ∷ constants_among h fs) (constants_among h fs)) f → Contains (g ∷ fs) f
    by_test true rest (zero, l, e) = (zero, omega arith, e)
    by_test true rest (suc i, l, e) = Contains-append_right (g ∷ []) fs f (rest (i, omega (arith, l), e))
    by_test false rest d = Contains-append_right (g ∷ []) fs f (rest d)

in_begun : (f : FunId) (cs : List FunId) (c : FunId) → Contains (begun_by f cs) c → Contains cs c
in_begun f [] c k = k
in_begun f (d ∷ cs) c k = by_test (nat_eq d.0 f.0) k
  where
    by_test : (b : Bool) → Contains (cond b (d ∷ cs) []) c → Contains (d ∷ cs) c
    by_test true i = i
    by_test false i = absurd (let l = i.1 in omega (arith, l))

in_struct : (k : kinds.Kind) (c : FunId) → Contains (constructors_in k) c → Contains (constructors_of k) c
in_struct (kinds.structured cs) c i = i
in_struct kinds.booleans c i = absurd (let l = i.1 in omega (arith, l))
in_struct kinds.positives c i = absurd (let l = i.1 in omega (arith, l))
in_struct kinds.naturals c i = absurd (let l = i.1 in omega (arith, l))
in_struct kinds.integers c i = absurd (let l = i.1 in omega (arith, l))
in_struct (kinds.lists_over e) c i = absurd (let l = i.1 in omega (arith, l))
in_struct kinds.without_constructors c i = absurd (let l = i.1 in omega (arith, l))
in_struct (kinds.by_declarations cs) c i = absurd (let l = i.1 in omega (arith, l))

module _ (h : Sig) (n : TextNames) (stands : IsSignature h) (functions : All (FunctionNamed h) h.declared) (sorts : (d : ℕ) → IsIdentifier (n.sort d)) where
  abbrev IsDeclared : FunId → Type 0
  IsDeclared f = Contains h.declared f

  entry_of : (f : FunId) → IsDeclared f → slice_get h.functions f.0 ≡ Some (function_at h f)
  entry_of f c =
      let r = read_within h.functions f.0 (All-contains (λ (g : FunId). g.0 < length h.functions) h.declared f stands.complete.within.declared c) in
      r.1 ∙ ap Some (sym (get_or_from_slice_get h.functions f.0 r.0 no_function r.1))

  name_of : (f : FunId) → IsDeclared f → IsIdentifier (name_at h f)
  name_of f c = subst (λ (o : Option Function). IsIdentifier (function_name_of h o)) (entry_of f c) (All-contains (FunctionNamed h) h.declared f functions c)

  -- a function that a constructor names is declared
  named_declared : (f : FunId) (args : List SortId) (to : SortId) → IsDeclaredAs h.functions f args to → IsDeclared f
  named_declared f args to (e, at, none, gives, takes) = contains_read h.declared _ f (declared_there h stands f e at none)

  -- ---- constructors
  fields_named : (ps : List (Option FunId)) → ((k : ℕ) (p : FunId) → slice_get ps k ≡ Some (Some p) → IsDeclared p) → (ss : List SortId) → AllByRecursion IsNamedField (fields_with h n ps ss)
  fields_named ps each [] = tt
  fields_named [] each (s ∷ ss) = (record { name = tt; sort = sort_named n sorts (sort_under h s) }, fields_named [] (λ k p e. absurd (none-some (Some p) e)) ss)
  fields_named (None ∷ ps) each (s ∷ ss) = (record { name = tt; sort = sort_named n sorts (sort_under h s) }, fields_named ps (λ k p e. each (suc k) p e) ss)
  fields_named (Some p ∷ ps) each (s ∷ ss) = (record { name = name_of p (each 0 p refl); sort = sort_named n sorts (sort_under h s) }, fields_named ps (λ k q e. each (suc k) q e) ss)

  test_named : (o : Option FunId) → ((p : FunId) → o ≡ Some p → IsDeclared p) → IsNamedOption (some_name h o)
  test_named None each = tt
  test_named (Some p) each = name_of p (each p refl)

  constructor_named : (c : FunId) → IsDeclared c → IsNamedConstructor (constructor_with h n c)
  constructor_named c d = record {
    name = name_of c d;
    fields = fields_named (function_at h c).projections (λ k p e. (let r = (stands.roles.projections c p (function_at h c) k (entry_of c d) e).1 in named_declared p ((function_at h c).result ∷ []) r.0 r.2)) (arguments_of (function_at h c));
    recogniser = test_named (function_at h c).test (λ p e. named_declared p ((function_at h c).result ∷ []) bool_sort (stands.roles.recognisers c p (function_at h c) (entry_of c d) e).1);
  }

  begun_declared : (f c : FunId) → Contains (struct_begun h f) c → IsDeclared c
  begun_declared f c k =
      let s = (function_at h f).result in
      let i = in_struct (kind_at h s) c (in_begun f (constructors_in (kind_at h s)) c k) in
      All-contains IsDeclared (constructors_of (kind_at h s)) c (of_sort s) i
    where
      of_sort : (s : SortId) → All IsDeclared (constructors_of (kind_at h s))
      of_sort s = get_all (HasDeclaredConstructors h.declared) h.sorts s.0 (record { kind = kinds.booleans; name = None }) (All-nil IsDeclared) stands.constructors_declared

  begins_named : (f : FunId) → BeginsNamedStruct h n f
  begins_named f = of_list (struct_begun h f) (begun_declared f)
    where
      of_list : (cs : List FunId) → ((c : FunId) → Contains cs c → IsDeclared c) → IsNamedStruct h n (function_at h f).result cs
      of_list [] each = tt
      of_list (c ∷ cs) each = (sorts (sort_place h (function_at h f).result), all_mapped IsNamedConstructor (constructor_with h n) (c ∷ cs) (all_from (λ d. IsNamedConstructor (constructor_with h n d)) (c ∷ cs) (λ d k. constructor_named d (each d k))))

  constant_named : (f : FunId) → IsDeclared f → IsNamedVariable (constant_with h n f)
  constant_named f c = (name_of f c, sort_named n sorts (sort_under h (function_at h f).result))

pub what_is_added_is_named : WhatIsAddedIsNamed
what_is_added_is_named spec h n empty_lists stands functions acts sorts among =
    let added = added_functions spec h in
    let constants = constants_among h added in
    record {
      actions = all_mapped (λ (a : NameId). IsIdentifier (text_under h a)) (λ (k : Key). k.name) (behind_all behind_acts_of spec.sections h.actions)
          (all_from (λ (k : Key). IsIdentifier (text_under h k.name)) (behind_all behind_acts_of spec.sections h.actions)
          (λ k c. All-contains (λ (j : Key). IsIdentifier (text_under h j.name)) (behind_all behind_acts_of spec.sections h.actions) k (acts_behind (λ (j : Key). IsIdentifier (text_under h j.name)) spec.sections h.actions acts) c));
      structs = all_from (BeginsNamedStruct h n) added (λ f c. begins_named h n stands functions sorts f);
      constants = all_from (λ (f : FunId). IsNamedVariable (constant_with h n f)) constants (λ f c. constant_named h n stands functions sorts f (added_are_declared spec h f (in_constants h added f c)));
      lists = all_from (λ (f : FunId). IsIdentifier (name_at h f)) empty_lists (λ f c. name_of h n stands functions sorts f (added_are_declared spec h f (in_constants h added f (All-contains (Contains constants) empty_lists f among c))));
    }
