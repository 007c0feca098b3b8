-- What a struct declares comes behind the functions of a text that a signature has.
use Rattle.std.proofs.Common.{◌≡◌, ◌<◌, ◌+◌, ◌⊎◌, inl, inr, ℕ, zero, suc, List, [], ◌∷◌, ◌++◌, length, map, refl, ap, sym, ◌∙◌, subst, arith, append_assoc}
use Rattle.std.specs.Prelude.{Option, Some, None, slice_get}
use Rattle.std.specs.List.{Contains, flat_map}
use Rattle.std.proofs.lemmas.Option.{none-some, same_Some, slice_get_within}
use Rattle.std.proofs.lemmas.Bool.{cases_eq}
use Rattle.std.proofs.lemmas.List.{length-append, length-map}
use Rattle.std.proofs.lemmas.List.Sums.{sum_by-cons}
use Rattle.data_theory.specs.declared.ids.NameId.{NameId}
use Rattle.data_theory.specs.declared.ids.SortId.{SortId}
use Rattle.data_theory.specs.declared.ids.FunId.{FunId}
use Rattle.data_theory.specs.Taken.{with_names}
use Rattle.data_theory.specs.Terms.{Sort}
use Rattle.data_theory.specs.Sorts.{Kind, SortInfo, structured, without_constructors, with_kind, IsBare}
use Rattle.data_theory.specs.Functions.{Function}
use Rattle.data_theory.specs.Table.{bool_sort}
use Rattle.data_theory.specs.Structs.{Con, named_function, projections_of, recogniser_of, all_projections, all_recognisers, count_of, named_fields, number_of, numbers_of, constructor_of, constructors_of, struct_functions, numbers_from}
use Rattle.data_theory.specs.IdData.{constructors_of as constructors_by}
use Rattle.data_theory.specs.Signature.{Sig, IsTaken, with_struct}
use Rattle.data_theory.specs.IdSorts.{constructions, construction_of, IsDeclaredKind, meant_by, sort_meant}
use Rattle.data_theory.specs.IdTerms.{sort_under}
use Rattle.data_theory.specs.WholeSignatures.{IsSignature}
use Rattle.data_theory.proofs.PlaceLemmas.{read_front, read_behind, contains_read, read_contained}
use Rattle.data_theory.proofs.FunctionLemmas.{read_mapped}
use Rattle.data_theory.proofs.ListSortLemmas.{kind_elsewhere, kind_there}
use Rattle.data_theory.proofs.IdTableLemmas.{as_many_after}
use Rattle.data_theory.proofs.IdSortLemmas.{meanings_set}
use Rattle.data_theory.proofs.IdSymbolLemmas.{boolean_is, positive_within}
use Rattle.data_theory.proofs.IdStructRoleLemmas.{among_numbers, structs_give_no_role_to_others}
use Rattle.sort_table.specs.Expressions.{Name}
use Rattle.sort_table.specs.BareSorts.{SortExpression, truth_values, a_name}
use Rattle.sort_table.specs.BareDeclarations.{Field, Constructor, struct}
use Rattle.sort_table.specs.TextFunctions.{TextRole, struct_constructor, projection, recogniser, Named, declared, where_named, fields_of, projections_from, functions_by}
use Rattle.sort_table.specs.Vocabularies.{EachPair}
use Rattle.sort_table.specs.EnteredFunctions.{HasSortOf, HaveSortsOf, IsOptionalId, IsFieldOf, IsConOf, IsEntryOf, IsConstructorAt, Constructs, HasTextRole, of_struct, of_place, of_test, IsEntered, Keeps}
use Rattle.sort_table.specs.SignatureVocabularies.{text_under, sort_name_under}
use Rattle.sort_table.specs.FunctionStates.{AddsFunctions}
use Rattle.sort_table.proofs.Growing.{pairs_behind, pairs_with}
use Rattle.sort_table.proofs.KeptFunctions.{con_kept, entry_kept, entered_kept}
use Rattle.sort_table.proofs.NewFunctions.{pair_at}
use Rattle.sort_table.proofs.EnteringFunctions.{taken_again, taken_id, read_appended_at}

-- ---- the entries of what a struct declares
module _ (g : Sig) (stands : IsSignature g) (sort : SortId) (n : Name) (is_sort : HasSortOf g (a_name n) sort) where
  is_boolean : HasSortOf g truth_values bool_sort
  is_boolean = record { within = (let more = positive_within g stands.table in omega (arith, more)); meant = ap Some (sym (boolean_is g stands.table)) }

  field_sorts : (fs : List Field) (xs : List (Option NameId × SortId)) → EachPair (IsFieldOf g) fs xs → HaveSortsOf g (map (λ (f : Field). f.sort) fs) (map (λ (x : Option NameId × SortId). x.1) xs)
  field_sorts [] [] all = tt
  field_sorts (f ∷ fs) (x ∷ xs) all = (all.0.1, field_sorts fs xs all.1)
  field_sorts [] (x ∷ xs) all = absurd all
  field_sorts (f ∷ fs) [] all = absurd all

  constructor_entries : (p t : ℕ) (cs : List Constructor) (ds : List Con) → EachPair (IsConOf g) cs ds
      → EachPair (IsEntryOf g) (map (λ (c : Constructor). declared (fields_of c) (a_name n) struct_constructor c.name) cs) (constructors_of sort p t ds)
  constructor_entries p t [] [] all = tt
  constructor_entries p t (c ∷ cs) (d ∷ ds) all =
      (record { declared = refl; name = all.0.name; arguments = field_sorts c.fields d.fields all.0.fields; result = is_sort }, constructor_entries (p + named_fields d.fields) (t + count_of d.test) cs ds all.1)
  constructor_entries p t [] (d ∷ ds) all = absurd all
  constructor_entries p t (c ∷ cs) [] all = absurd all

  one_entry : (o : Option Name) (i : Option NameId) (e : SortExpression) (s : SortId) (r : TextRole) → IsOptionalId g o i → HasSortOf g e s → EachPair (IsEntryOf g) (where_named (a_name n) e r o) (named_function sort i s)
  one_entry None None e s r is has = tt
  one_entry (Some m) (Some i) e s r is has = (record { declared = refl; name = is; arguments = (is_sort, tt); result = has }, tt)
  one_entry None (Some i) e s r is has = absurd is
  one_entry (Some m) None e s r is has = absurd is

  field_entries : (c : Constructor) (k : ℕ) (fs : List Field) (xs : List (Option NameId × SortId)) → EachPair (IsFieldOf g) fs xs → EachPair (IsEntryOf g) (projections_from (a_name n) c k fs) (projections_of sort xs)
  field_entries c k [] [] all = tt
  field_entries c k (f ∷ fs) (x ∷ xs) all =
      pairs_behind (IsEntryOf g) (where_named (a_name n) f.sort (projection c.name (fields_of c) k) f.name) (projections_from (a_name n) c (suc k) fs) (named_function sort x.0 x.1) (projections_of sort xs)
      (one_entry f.name x.0 f.sort x.1 (projection c.name (fields_of c) k) all.0.0 all.0.1) (field_entries c (suc k) fs xs all.1)
  field_entries c k [] (x ∷ xs) all = absurd all
  field_entries c k (f ∷ fs) [] all = absurd all

  abbrev projections_in : List Constructor → List Named
  projections_in cs = flat_map (λ (c : Constructor). projections_from (a_name n) c 0 c.fields) cs

  abbrev recognisers_in : List Constructor → List Named
  recognisers_in cs = flat_map (λ (c : Constructor). where_named (a_name n) truth_values (recogniser c.name (fields_of c)) c.recogniser) cs

  projection_entries : (cs : List Constructor) (ds : List Con) → EachPair (IsConOf g) cs ds → EachPair (IsEntryOf g) (projections_in cs) (all_projections sort ds)
  projection_entries [] [] all = tt
  projection_entries (c ∷ cs) (d ∷ ds) all =
      pairs_behind (IsEntryOf g) (projections_from (a_name n) c 0 c.fields) (projections_in cs) (projections_of sort d.fields) (all_projections sort ds) (field_entries c 0 c.fields d.fields all.0.fields) (projection_entries cs ds all.1)
  projection_entries [] (d ∷ ds) all = absurd all
  projection_entries (c ∷ cs) [] all = absurd all

  recogniser_entries : (cs : List Constructor) (ds : List Con) → EachPair (IsConOf g) cs ds → EachPair (IsEntryOf g) (recognisers_in cs) (all_recognisers sort ds)
  recogniser_entries [] [] all = tt
  recogniser_entries (c ∷ cs) (d ∷ ds) all =
      pairs_behind (IsEntryOf g) (where_named (a_name n) truth_values (recogniser c.name (fields_of c)) c.recogniser) (recognisers_in cs) (recogniser_of sort d) (all_recognisers sort ds)
      (one_entry c.recogniser d.test truth_values bool_sort (recogniser c.name (fields_of c)) all.0.recogniser is_boolean) (recogniser_entries cs ds all.1)
  recogniser_entries [] (d ∷ ds) all = absurd all
  recogniser_entries (c ∷ cs) [] all = absurd all

  pub struct_entries : (cs : List Constructor) (ds : List Con) (k : ℕ) → EachPair (IsConOf g) cs ds → EachPair (IsEntryOf g) (functions_by (struct n cs)) (struct_functions sort k ds)
  struct_entries cs ds k all =
      let p = k + length ds in
      let t = k + length ds + length (all_projections sort ds) in
      let made = constructors_of sort p t ds in
      subst (EachPair (IsEntryOf g) (functions_by (struct n cs))) (sym (append_assoc made (all_projections sort ds) (all_recognisers sort ds)))
      (pairs_behind (IsEntryOf g) (map (λ (c : Constructor). declared (fields_of c) (a_name n) struct_constructor c.name) cs) (projections_in cs ++ recognisers_in cs) made (all_projections sort ds ++ all_recognisers sort ds)
      (constructor_entries p t cs ds all)
      (pairs_behind (IsEntryOf g) (projections_in cs) (recognisers_in cs) (all_projections sort ds) (all_recognisers sort ds) (projection_entries cs ds all) (recogniser_entries cs ds all)))

-- ---- their roles
id_as : (h : Sig) (r : TextRole) (a b : ℕ) → a ≡ b → HasTextRole h (record { 0 = a }) r → HasTextRole h (record { 0 = b }) r
id_as h r a b e has = subst (λ k. HasTextRole h (record { 0 = k }) r) e has

pub as_many : {A B : Type 0} (Q : A → B → Type 0) (xs : List A) (ys : List B) → EachPair Q xs ys → length xs ≡ length ys
as_many Q [] [] all = refl
as_many Q (x ∷ xs) (y ∷ ys) all = ap suc (as_many Q xs ys all.1)
as_many Q [] (y ∷ ys) all = absurd all
as_many Q (x ∷ xs) [] all = absurd all

module _ (h : Sig) (sort : SortId) (n : Name) where
  module _ (c : Constructor) (J : FunId) (H : Function) (is : IsConstructorAt h c.name (fields_of c) J H) where
    field_roles : (fs : List Field) (xs : List (Option NameId × SortId)) (k p : ℕ) → EachPair (IsFieldOf h) fs xs → ((i : ℕ) (o : Option FunId) → slice_get (numbers_of p xs) i ≡ Some o → slice_get H.projections (k + i) ≡ Some o)
        → (j : ℕ) (x : Named) → slice_get (projections_from (a_name n) c k fs) j ≡ Some x → HasTextRole h (record { 0 = p + j }) x.1.role
    field_roles [] [] k p all numbers j x at = absurd (none-some x at)
    field_roles [] (y ∷ xs) k p all numbers j x at = absurd all
    field_roles (f ∷ fs) [] k p all numbers j x at = absurd all
    field_roles (f ∷ fs) (y ∷ xs) k p all numbers j x at = by_name f.name y.0 all.0.0 numbers (field_roles fs xs (suc k) (p + count_of y.0) all.1) j at
      where
        by_name : (o : Option Name) (i : Option NameId) → IsOptionalId h o i → ((l : ℕ) (q : Option FunId) → slice_get (number_of p i ∷ numbers_of (p + count_of i) xs) l ≡ Some q → slice_get H.projections (k + l) ≡ Some q)
            → (((l : ℕ) (q : Option FunId) → slice_get (numbers_of (p + count_of i) xs) l ≡ Some q → slice_get H.projections (suc k + l) ≡ Some q) → (m : ℕ) (z : Named) → slice_get (projections_from (a_name n) c (suc k) fs) m ≡ Some z → HasTextRole h (record { 0 = p + count_of i + m }) z.1.role)
            → (m : ℕ) → slice_get (where_named (a_name n) f.sort (projection c.name (fields_of c) k) o ++ projections_from (a_name n) c (suc k) fs) m ≡ Some x → HasTextRole h (record { 0 = p + m }) x.1.role
        by_name None (Some i) never num later m here = absurd never
        by_name (Some w) None never num later m here = absurd never
        by_name None None ok num later m here =
            id_as h x.1.role (p + 0 + m) (p + m) (omega arith) (later (λ l q e. (let s : k + suc l ≡ suc k + l = omega arith in sym (ap (slice_get H.projections) s) ∙ num (suc l) q e)) m x here)
        by_name (Some w) (Some i) ok num later zero here =
            let same : declared (a_name n ∷ []) f.sort (projection c.name (fields_of c) k) w ≡ x = same_Some (declared (a_name n ∷ []) f.sort (projection c.name (fields_of c) k) w) x here in
            let first : slice_get H.projections k ≡ Some (Some (record { 0 = p })) = (let s : k + 0 ≡ k = omega arith in sym (ap (slice_get H.projections) s) ∙ num 0 (Some (record { 0 = p })) refl) in
            subst (λ (z : Named). HasTextRole h (record { 0 = p + 0 }) z.1.role) same
            (id_as h (projection c.name (fields_of c) k) p (p + 0) (omega arith) (of_place c.name (fields_of c) k J H is first))
        by_name (Some w) (Some i) ok num later (suc m) here =
            id_as h x.1.role (p + 1 + m) (p + suc m) (omega arith) (later (λ l q e. (let s : k + suc l ≡ suc k + l = omega arith in sym (ap (slice_get H.projections) s) ∙ num (suc l) q e)) m x here)

  as_many_fields : (c : Constructor) (k : ℕ) (fs : List Field) (xs : List (Option NameId × SortId)) → EachPair (IsFieldOf h) fs xs → length (projections_from (a_name n) c k fs) ≡ named_fields xs
  as_many_fields c k [] [] all = refl
  as_many_fields c k [] (y ∷ xs) all = absurd all
  as_many_fields c k (f ∷ fs) [] all = absurd all
  as_many_fields c k (f ∷ fs) (y ∷ xs) all = by_name f.name y.0 all.0.0 (as_many_fields c (suc k) fs xs all.1)
    where
      by_name : (o : Option Name) (i : Option NameId) → IsOptionalId h o i → length (projections_from (a_name n) c (suc k) fs) ≡ named_fields xs
          → length (where_named (a_name n) f.sort (projection c.name (fields_of c) k) o ++ projections_from (a_name n) c (suc k) fs) ≡ named_fields ((i, y.1) ∷ xs)
      by_name None None ok rest = let s = sum_by-cons (λ (z : Option NameId × SortId). count_of z.0) (None, y.1) xs in omega (arith, rest, s)
      by_name (Some w) (Some i) ok rest = let s = sum_by-cons (λ (z : Option NameId × SortId). count_of z.0) (Some i, y.1) xs in omega (arith, rest, s)
      by_name None (Some i) never rest = absurd never
      by_name (Some w) None never rest = absurd never

  abbrev Places : ℕ → ℕ → ℕ → List Con → Type 0
  Places m p t ds = (j : ℕ) (y : Function) → slice_get (constructors_of sort p t ds) j ≡ Some y → slice_get h.functions (m + j) ≡ Some y

  places_behind : (m p t : ℕ) (d : Con) (ds : List Con) → Places m p t (d ∷ ds) → Places (suc m) (p + named_fields d.fields) (t + count_of d.test) ds
  places_behind m p t d ds at j y here = let s : m + suc j ≡ suc m + j = omega arith in sym (ap (slice_get h.functions) s) ∙ at (suc j) y here

  at_first : (m p t : ℕ) (c : Constructor) (d : Con) (ds : List Con) → Places m p t (d ∷ ds) → IsConOf h c d → IsConstructorAt h c.name (fields_of c) (record { 0 = m }) (constructor_of sort p t d)
  at_first m p t c d ds at is = record {
    there = (let s : m + 0 ≡ m = omega arith in sym (ap (slice_get h.functions) s) ∙ at 0 (constructor_of sort p t d) refl);
    declared = refl;
    name = is.name;
    arguments = sorts_of c.fields d.fields is.fields;
  }
    where
      sorts_of : (fs : List Field) (xs : List (Option NameId × SortId)) → EachPair (IsFieldOf h) fs xs → HaveSortsOf h (map (λ (f : Field). f.sort) fs) (map (λ (x : Option NameId × SortId). x.1) xs)
      sorts_of [] [] all = tt
      sorts_of (f ∷ fs) (x ∷ xs) all = (all.0.1, sorts_of fs xs all.1)
      sorts_of [] (x ∷ xs) all = absurd all
      sorts_of (f ∷ fs) [] all = absurd all

  projection_roles : (cs : List Constructor) (ds : List Con) (m p t : ℕ) → Places m p t ds → EachPair (IsConOf h) cs ds
      → (j : ℕ) (x : Named) → slice_get (flat_map (λ (c : Constructor). projections_from (a_name n) c 0 c.fields) cs) j ≡ Some x → HasTextRole h (record { 0 = p + j }) x.1.role
  projection_roles [] [] m p t at all j x here = absurd (none-some x here)
  projection_roles [] (d ∷ ds) m p t at all j x here = absurd all
  projection_roles (c ∷ cs) [] m p t at all j x here = absurd all
  projection_roles (c ∷ cs) (d ∷ ds) m p t at all j x here =
      by_part (projection_roles cs ds (suc m) (p + named_fields d.fields) (t + count_of d.test) (places_behind m p t d ds at) all.1)
      (read_appended_at (projections_from (a_name n) c 0 c.fields) (flat_map (λ (b : Constructor). projections_from (a_name n) b 0 b.fields) cs) j x here)
    where
      by_part : ((i : ℕ) (y : Named) → slice_get (flat_map (λ (b : Constructor). projections_from (a_name n) b 0 b.fields) cs) i ≡ Some y → HasTextRole h (record { 0 = p + named_fields d.fields + i }) y.1.role)
          → (slice_get (projections_from (a_name n) c 0 c.fields) j ≡ Some x) ⊎ ((i : ℕ) × (j ≡ length (projections_from (a_name n) c 0 c.fields) + i) × (slice_get (flat_map (λ (b : Constructor). projections_from (a_name n) b 0 b.fields) cs) i ≡ Some x))
          → HasTextRole h (record { 0 = p + j }) x.1.role
      by_part later (inl own) = field_roles c (record { 0 = m }) (constructor_of sort p t d) (at_first m p t c d ds at all.0) c.fields d.fields 0 p all.0.fields (λ i o e. (let s : 0 + i ≡ i = omega arith in ap (slice_get (constructor_of sort p t d).projections) s ∙ e)) j x own
      by_part later (inr (i, e, rest)) =
          let many = as_many_fields c 0 c.fields d.fields all.0.fields in
          id_as h x.1.role (p + named_fields d.fields + i) (p + j) (omega (arith, e, many)) (later i x rest)

  recogniser_roles : (cs : List Constructor) (ds : List Con) (m p t : ℕ) → Places m p t ds → EachPair (IsConOf h) cs ds
      → (j : ℕ) (x : Named) → slice_get (flat_map (λ (c : Constructor). where_named (a_name n) truth_values (recogniser c.name (fields_of c)) c.recogniser) cs) j ≡ Some x → HasTextRole h (record { 0 = t + j }) x.1.role
  recogniser_roles [] [] m p t at all j x here = absurd (none-some x here)
  recogniser_roles [] (d ∷ ds) m p t at all j x here = absurd all
  recogniser_roles (c ∷ cs) [] m p t at all j x here = absurd all
  recogniser_roles (c ∷ cs) (d ∷ ds) m p t at all j x here =
      by_name c.recogniser d.test all.0.recogniser (at_first m p t c d ds at all.0) refl (recogniser_roles cs ds (suc m) (p + named_fields d.fields) (t + count_of d.test) (places_behind m p t d ds at) all.1) j here
    where
      by_name : (o : Option Name) (i : Option NameId) → IsOptionalId h o i → IsConstructorAt h c.name (fields_of c) (record { 0 = m }) (constructor_of sort p t d) → (constructor_of sort p t d).test ≡ number_of t i
          → ((l : ℕ) (z : Named) → slice_get (flat_map (λ (b : Constructor). where_named (a_name n) truth_values (recogniser b.name (fields_of b)) b.recogniser) cs) l ≡ Some z → HasTextRole h (record { 0 = t + count_of i + l }) z.1.role)
          → (l : ℕ) → slice_get (where_named (a_name n) truth_values (recogniser c.name (fields_of c)) o ++ flat_map (λ (b : Constructor). where_named (a_name n) truth_values (recogniser b.name (fields_of b)) b.recogniser) cs) l ≡ Some x → HasTextRole h (record { 0 = t + l }) x.1.role
      by_name None (Some i) never is test later l place = absurd never
      by_name (Some w) None never is test later l place = absurd never
      by_name None None ok is test later l place = id_as h x.1.role (t + 0 + l) (t + l) (omega arith) (later l x place)
      by_name (Some w) (Some i) ok is test later zero place =
          let same : declared (a_name n ∷ []) truth_values (recogniser c.name (fields_of c)) w ≡ x = same_Some (declared (a_name n ∷ []) truth_values (recogniser c.name (fields_of c)) w) x place in
          subst (λ (z : Named). HasTextRole h (record { 0 = t + 0 }) z.1.role) same
          (id_as h (recogniser c.name (fields_of c)) t (t + 0) (omega arith) (of_test c.name (fields_of c) (record { 0 = m }) (constructor_of sort p t d) is test))
      by_name (Some w) (Some i) ok is test later (suc l) place = id_as h x.1.role (t + 1 + l) (t + suc l) (omega arith) (later l x place)

-- ---- entries with their roles
entered_part : (h : Sig) (xs : List Named) (ys : List Function) (k : ℕ) → EachPair (IsEntryOf h) xs ys → ((j : ℕ) (y : Function) → slice_get ys j ≡ Some y → slice_get h.functions (k + j) ≡ Some y)
    → ((j : ℕ) (x : Named) → slice_get xs j ≡ Some x → HasTextRole h (record { 0 = k + j }) x.1.role) → EachPair (IsEntered h) xs (numbers_from k (length ys))
entered_part h [] [] k all there roles = tt
entered_part h [] (y ∷ ys) k all there roles = absurd all
entered_part h (x ∷ xs) [] k all there roles = absurd all
entered_part h (x ∷ xs) (y ∷ ys) k all there roles =
    let here : k + 0 ≡ k = omega arith in (
      record { entry = y; there = sym (ap (slice_get h.functions) here) ∙ there 0 y refl; is = all.0; role = id_as h x.1.role (k + 0) k here (roles 0 x refl) },
      entered_part h xs ys (k + 1) all.1 (λ j z at. (let s : k + suc j ≡ k + 1 + j = omega arith in sym (ap (slice_get h.functions) s) ∙ there (suc j) z at)) (λ j z at. id_as h z.1.role (k + suc j) (k + 1 + j) (omega arith) (roles (suc j) z at)),
    )

-- ---- what stays
all_taken : (ns ms : List NameId) → ((m : NameId) → Contains ms m → Contains ns m) → with_names ns ms ≡ ns
all_taken ns [] each = refl
all_taken ns (m ∷ ms) each =
    ap (λ (l : List NameId). with_names l ms) (taken_again ns m (each m (0, omega arith, refl)))
    ∙ all_taken ns ms (λ l c. (let there : c.0 < length ms = c.1 in each l (suc c.0, omega (arith, there), c.2)))

same_meanings : (g : Sig) (sort : SortId) (k : Kind) → IsBare g.sorts sort → IsDeclaredKind k → (s : SortId) → sort_meant (with_kind g.sorts sort.0 k) s ≡ sort_under g s
same_meanings g sort k (t, at, kind) is s =
    ap (λ (ms : List Sort). meant_by ms s) (meanings_set g.sorts sort.0 t k [] 0 at (ap (λ (c : Kind). length (construction_of c)) kind) is)

same_count : (ss : List SortInfo) (i : ℕ) (t : SortInfo) (k : Kind) → slice_get ss i ≡ Some t → IsDeclaredKind t.kind → IsDeclaredKind k → length (constructions (with_kind ss i k)) ≡ length (constructions ss)
same_count [] i t k at was is = refl
same_count (x ∷ ss) zero t k at was is =
    let old : IsDeclaredKind x.kind = ap (λ (y : SortInfo). length (construction_of y.kind)) (same_Some x t at) ∙ was in
    let a = length-append (construction_of k) (constructions ss) in
    let b = length-append (construction_of x.kind) (constructions ss) in
    omega (arith, a, b, old, is)
same_count (x ∷ ss) (suc i) t k at was is =
    let a = length-append (construction_of x.kind) (constructions (with_kind ss i k)) in
    let b = length-append (construction_of x.kind) (constructions ss) in
    let rest = same_count ss i t k at was is in
    omega (arith, a, b, rest)

map_same : {A B : Type 0} (f h : A → B) → ((x : A) → f x ≡ h x) → (xs : List A) → map f xs ≡ map h xs
map_same f h e [] = refl
map_same f h e (x ∷ xs) = let head = e x in let rest = map_same f h e xs in (λ i. head i ∷ rest i)

module _ (g : Sig) (sort : SortId) (n : Name) (cs : List Constructor) (ds : List Con) (stands : IsSignature g) (bare : IsBare g.sorts sort) (is_sort : HasSortOf g (a_name n) sort) (are : EachPair (IsConOf g) cs ds)
    (taken : (f : Named) → Contains (functions_by (struct n cs)) f → IsTaken g f.0) where
  abbrev first : ℕ
  first = length g.functions

  abbrev fs : List Function
  fs = struct_functions sort first ds

  abbrev kind : Kind
  kind = structured (numbers_from first (length ds))

  abbrev after : Sig
  after = with_struct g sort ds

  names_taken : (m : NameId) → Contains (map (λ (f : Function). f.name) fs) m → Contains g.taken m
  names_taken m c =
      let at = read_contained (map (λ (f : Function). f.name) fs) m c in
      let f = read_mapped (λ (f : Function). f.name) fs at.0 m at.1 in
      let x = pair_at (IsEntryOf g) (functions_by (struct n cs)) fs at.0 f.0 (struct_entries g stands sort n is_sort cs ds first are) f.1 in
      taken_id g stands.table.different x.0.0 m (taken x.0 (contains_read (functions_by (struct n cs)) at.0 x.0 x.1)) (ap (λ (i : NameId). slice_get g.texts i.0) (sym f.2) ∙ x.2.name)

  still_constructs : (i : FunId) → Constructs g i → Constructs after i
  still_constructs i (s, t, at, among) = elim (cases_eq s.0 sort.0) [
    | inl e ↦
        let bare_kind : t.kind ≡ without_constructors = ap (λ (x : SortInfo). x.kind) (same_Some t bare.0 (sym at ∙ (ap (slice_get g.sorts) e ∙ bare.1))) ∙ bare.2 in
        let none = subst (λ (k : Kind). Contains (constructors_by k) i) bare_kind among in
        absurd (omega (arith, none.1))
    | inr other ↦ (s, t, kind_elsewhere g.sorts sort.0 kind s.0 other ∙ at, among)
  ]

  pub keeps_with_struct : Keeps g after
  keeps_with_struct = record {
    texts = refl;
    taken = all_taken g.taken (map (λ (f : Function). f.name) fs) names_taken;
    variables = refl;
    actions = refl;
    names = map_same (sort_name_under after) (sort_name_under g) (λ e. (let m = same_meanings g sort kind bare refl e.1 in (λ i. (text_under g e.0, m i)))) g.sort_names;
    count = same_count g.sorts sort.0 bare.0 kind bare.1 (ap (λ (c : Kind). length (construction_of c)) bare.2) refl;
    sorts = λ s l. (let many = as_many_after g.sorts sort.0 kind in omega (arith, l, many), same_meanings g sort kind bare refl s);
    functions = λ i f at. read_front g.functions fs i f at;
    free = λ i l none. structs_give_no_role_to_others g sort ds stands.roles bare i l none;
    constructs = still_constructs;
  }

  cons_later : EachPair (IsConOf after) cs ds
  cons_later = pairs_with (IsConOf g) (IsConOf after) (con_kept g after keeps_with_struct) cs ds are

  entries_later : EachPair (IsEntryOf after) (functions_by (struct n cs)) fs
  entries_later = pairs_with (IsEntryOf g) (IsEntryOf after) (entry_kept g after keeps_with_struct) (functions_by (struct n cs)) fs (struct_entries g stands sort n is_sort cs ds first are)

  there : (j : ℕ) (y : Function) → slice_get fs j ≡ Some y → slice_get after.functions (first + j) ≡ Some y
  there j y at = read_behind g.functions fs j y at

  abbrev made : List Function
  made = constructors_of sort (first + length ds) (first + length ds + length (all_projections sort ds)) ds

  places : (j : ℕ) (y : Function) → slice_get made j ≡ Some y → slice_get after.functions (first + j) ≡ Some y
  places j y at = there j y (read_front (made ++ all_projections sort ds) (all_recognisers sort ds) j y (read_front made (all_projections sort ds) j y at))

  new_constructs : (j : ℕ) → j < length ds → Constructs after (record { 0 = first + j })
  new_constructs j l = (sort, record bare.0 { kind = kind }, kind_there g.sorts sort.0 kind bare.0 bare.1, among_numbers first (length ds) j (record { 0 = first + j }) l refl)

  abbrev constructors_here : List Named
  constructors_here = map (λ (c : Constructor). declared (fields_of c) (a_name n) struct_constructor c.name) cs

  roles : (j : ℕ) (x : Named) → slice_get (functions_by (struct n cs)) j ≡ Some x → HasTextRole after (record { 0 = first + j }) x.1.role
  roles j x at = elim (read_appended_at constructors_here _ j x at) [
    | inl own ↦
        let c = read_mapped (λ (c : Constructor). declared (fields_of c) (a_name n) struct_constructor c.name) cs j x own in
        let low : j < length cs = slice_get_within cs j c.0 c.1 in
        subst (λ (z : Named). HasTextRole after (record { 0 = first + j }) z.1.role) c.2 (of_struct (new_constructs j (omega (arith, low, many))))
    | inr (i, e, rest) ↦ elim (read_appended_at (flat_map (λ (c : Constructor). projections_from (a_name n) c 0 c.fields) cs) _ i x rest) [
      | inl own ↦ id_as after x.1.role (first + length ds + i) (first + j) (omega (arith, e, many, long)) (projection_roles after sort n cs ds first (first + length ds) (first + length ds + length (all_projections sort ds)) places cons_later i x own)
      | inr (k, f, last) ↦
          id_as after x.1.role (first + length ds + length (all_projections sort ds) + k) (first + j) (omega (arith, e, f, many, long, projected))
          (recogniser_roles after sort n cs ds first (first + length ds) (first + length ds + length (all_projections sort ds)) places cons_later k x last)
    ]
  ]
    where
      many : length cs ≡ length ds
      many = as_many (IsConOf g) cs ds are

      long : length constructors_here ≡ length cs
      long = length-map cs (λ (c : Constructor). declared (fields_of c) (a_name n) struct_constructor c.name)

      projected : length (flat_map (λ (c : Constructor). projections_from (a_name n) c 0 c.fields) cs) ≡ length (all_projections sort ds)
      projected = as_many (IsEntryOf g) (flat_map (λ (c : Constructor). projections_from (a_name n) c 0 c.fields) cs) (all_projections sort ds) (projection_entries g stands sort n is_sort cs ds are)

  pub struct_adds : AddsFunctions (functions_by (struct n cs)) g after
  struct_adds = record {
    keeps = keeps_with_struct;
    entered = λ done entered.
        pairs_behind (IsEntered after) done (functions_by (struct n cs)) g.declared (numbers_from first (length fs)) (pairs_with (IsEntered g) (IsEntered after) (entered_kept g after keeps_with_struct) done g.declared entered)
        (entered_part after (functions_by (struct n cs)) fs first entries_later there roles);
  }
