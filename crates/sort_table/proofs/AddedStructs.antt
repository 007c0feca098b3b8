-- A struct whose turn it is comes into a signature.
use Rattle.std.proofs.Common.{◌≡◌, ◌<◌, inl, inr, ℕ, zero, suc, List, [], ◌∷◌, length, map, refl, ap, sym, ◌∙◌, subst, arith}
use Rattle.std.specs.Prelude.{Option, Some, None, slice_get, IfSome}
use Rattle.std.specs.List.{Contains, All, AllByRecursion, flat_map}
use Rattle.std.proofs.lemmas.Option.{same_Some, slice_get_within}
use Rattle.std.proofs.lemmas.Bool.{cases_eq}
use Rattle.data_theory.specs.declared.ids.NameId.{NameId}
use Rattle.data_theory.specs.declared.ids.SortId.{SortId}
use Rattle.data_theory.specs.declared.ids.FunId.{FunId}
use Rattle.data_theory.specs.Sorts.{SortInfo, lists_over, structured, with_kind, IsListOver, IsBare}
use Rattle.data_theory.specs.Functions.{AreNew}
use Rattle.data_theory.specs.Structs.{Con, IsConWithin, struct_functions, numbers_from}
use Rattle.data_theory.specs.Signature.{Sig, IsTaken, with_struct}
use Rattle.data_theory.specs.IdTerms.{sort_under}
use Rattle.data_theory.specs.WholeSignatures.{IsSignature}
use Rattle.data_theory.proofs.ListSortLemmas.{kind_elsewhere, kind_here, kind_there}
use Rattle.data_theory.proofs.IdSortLemmas.{different_sorts_mean_different_sorts}
use Rattle.sort_table.specs.Expressions.{Name}
use Rattle.sort_table.specs.BareSorts.{SortExpression, truth_values, a_name}
use Rattle.sort_table.specs.BareDeclarations.{Field, Constructor, struct}
use Rattle.sort_table.specs.TextFunctions.{TextRole, struct_constructor, projection, recogniser, Named, declared, where_named, fields_of, projections_from, functions_by}
use Rattle.sort_table.specs.Vocabularies.{EachPair}
use Rattle.sort_table.specs.EnteredFunctions.{Keeps, HasSortOf, IsOptionalId, IsFieldOf, IsConOf, IsKnownOption, IsReadyField, IsReadyConstructor}
use Rattle.sort_table.specs.FunctionStates.{HasBareSort, CanEnter, AddsStruct}
use Rattle.mcrl2_syntax.proofs.Lists.{all_both}
use Rattle.sort_table.proofs.KeptFunctions.{has_sort_kept}
use Rattle.sort_table.proofs.NewFunctions.{each_place, pair_at, are_new}
use Rattle.sort_table.proofs.EnteringStructs.{struct_entries, struct_adds, keeps_with_struct}

-- ---- names
pub all_contained : {A : Type 0} (P : A → Type 0) (xs : List A) (x : A) → AllByRecursion P xs → Contains xs x → P x
all_contained P [] x all (k, l, e) = let never : ⊥ = omega (arith, l) in absurd never
all_contained P (y ∷ xs) x all (zero, l, e) = subst P e all.0
all_contained P (y ∷ xs) x all (suc k, l, e) = all_contained P xs x all.1 (k, omega (arith, l), e)

module _ (g : Sig) (n : Name) where
  abbrev Taken : List Named → Type 0
  Taken fs = AllByRecursion (λ (f : Named). IsTaken g f.0) fs

  abbrev P : Named → Type 0
  P f = IsTaken g f.0

  of_option : (e : SortExpression) (r : TextRole) (o : Option Name) → IsKnownOption g o → Taken (where_named (a_name n) e r o)
  of_option e r None known = tt
  of_option e r (Some m) known = (known.is_taken, tt)

  of_fields : (c : Constructor) (k : ℕ) (fs : List Field) → AllByRecursion (IsReadyField g) fs → Taken (projections_from (a_name n) c k fs)
  of_fields c k [] all = tt
  of_fields c k (f ∷ fs) all = all_both P (where_named (a_name n) f.sort (projection c.name (fields_of c) k) f.name) (projections_from (a_name n) c (suc k) fs) (of_option f.sort (projection c.name (fields_of c) k) f.name all.0.0) (of_fields c (suc k) fs all.1)

  of_names : (cs : List Constructor) → AllByRecursion (IsReadyConstructor g) cs → Taken (map (λ (c : Constructor). declared (fields_of c) (a_name n) struct_constructor c.name) cs)
  of_names [] all = tt
  of_names (c ∷ cs) all = (all.0.name.is_taken, of_names cs all.1)

  of_projections : (cs : List Constructor) → AllByRecursion (IsReadyConstructor g) cs → Taken (flat_map (λ (c : Constructor). projections_from (a_name n) c 0 c.fields) cs)
  of_projections [] all = tt
  of_projections (c ∷ cs) all = all_both P (projections_from (a_name n) c 0 c.fields) _ (of_fields c 0 c.fields all.0.fields) (of_projections cs all.1)

  of_recognisers : (cs : List Constructor) → AllByRecursion (IsReadyConstructor g) cs → Taken (flat_map (λ (c : Constructor). where_named (a_name n) truth_values (recogniser c.name (fields_of c)) c.recogniser) cs)
  of_recognisers [] all = tt
  of_recognisers (c ∷ cs) all = all_both P (where_named (a_name n) truth_values (recogniser c.name (fields_of c)) c.recogniser) _ (of_option truth_values (recogniser c.name (fields_of c)) c.recogniser all.0.recogniser) (of_recognisers cs all.1)

  struct_taken : (cs : List Constructor) → AllByRecursion (IsReadyConstructor g) cs → (f : Named) → Contains (functions_by (struct n cs)) f → IsTaken g f.0
  struct_taken cs all f c =
      all_contained P (functions_by (struct n cs)) f
      (all_both P (map (λ (c : Constructor). declared (fields_of c) (a_name n) struct_constructor c.name) cs) _ (of_names cs all) (all_both P (flat_map (λ (c : Constructor). projections_from (a_name n) c 0 c.fields) cs) _ (of_projections cs all) (of_recognisers cs all))) c

-- ---- ids
option_within : (g : Sig) (o : Option Name) (i : Option NameId) → IsOptionalId g o i → IfSome i (λ (n : NameId). n.0 < length g.texts)
option_within g None None is = tt
option_within g (Some m) (Some i) is = slice_get_within g.texts i.0 m is
option_within g None (Some i) is = absurd is
option_within g (Some m) None is = absurd is

pub cons_within : (g : Sig) (cs : List Constructor) (ds : List Con) → EachPair (IsConOf g) cs ds → All (IsConWithin (length g.texts) (length g.sorts)) ds
cons_within g cs ds are = each_place (IsConWithin (length g.texts) (length g.sorts)) ds of_one
  where
    of_one : (i : ℕ) (d : Con) → slice_get ds i ≡ Some d → IsConWithin (length g.texts) (length g.sorts) d
    of_one i d at =
        let r = pair_at (IsConOf g) cs ds i d are at in
        record {
          named = slice_get_within g.texts d.name.0 r.0.name r.2.name;
          over = each_place (λ (f : Option NameId × SortId). (f.1.0 < length g.sorts) × IfSome f.0 (λ (n : NameId). n.0 < length g.texts)) d.fields
              (λ j f here. (let p = pair_at (IsFieldOf g) r.0.fields d.fields j f r.2.fields here in (p.2.1.within, option_within g p.0.name f.0 p.2.0)));
          recognised = option_within g r.0.recogniser d.test r.2.recogniser;
        }

-- ---- sorts
-- a bare sort becomes a struct: the list sorts are the same
pub lists_with_struct : (ss : List SortInfo) (sort : SortId) (fs : List FunId) (e l : SortId) → IsListOver (with_kind ss sort.0 (structured fs)) e l → IsListOver ss e l
lists_with_struct ss sort fs e l (t, at, kind) = elim (cases_eq l.0 sort.0) [
  | inl same ↦
      let struct_kind : t.kind ≡ structured fs = kind_here ss sort.0 (structured fs) t (subst (λ k. slice_get (with_kind ss sort.0 (structured fs)) k ≡ Some t) same at) in
      let both : structured fs ≡ lists_over e = sym struct_kind ∙ kind in
      cc
  | inr other ↦ (t, sym (kind_elsewhere ss sort.0 (structured fs) l.0 other) ∙ at, kind)
]

-- ---- one name has one sort
pub one_sort : (g : Sig) → IsSignature g → (e : SortExpression) (s t : SortId) → HasSortOf g e s → HasSortOf g e t → s ≡ t
one_sort g stands e s t a b = different_sorts_mean_different_sorts g stands.table s t a.within b.within (same_Some (sort_under g s) (sort_under g t) (sym a.meant ∙ b.meant))

pub this_is_bare : (g : Sig) → IsSignature g → (n : Name) (s : SortId) → HasBareSort g n → HasSortOf g (a_name n) s → IsBare g.sorts s
this_is_bare g stands n s (t, has, bare) its = subst (λ (x : SortId). IsBare g.sorts x) (one_sort g stands (a_name n) t s has its) bare

-- ---- what is asked
pub struct_new : (g : Sig) (stands : IsSignature g) (sort : SortId) (n : Name) (cs : List Constructor) (ds : List Con) → HasSortOf g (a_name n) sort → EachPair (IsConOf g) cs ds → CanEnter g (functions_by (struct n cs)) → AreNew g.functions (struct_functions sort (length g.functions) ds)
struct_new g stands sort n cs ds is_sort are can =
    let next = can.next in
    are_new can.under g stands next.names can.all can.done next.differ next.entered next.front (functions_by (struct n cs)) (struct_functions sort (length g.functions) ds) next.places (struct_entries g stands sort n is_sort cs ds (length g.functions) are)

pub struct_added : (g h : Sig) (sort : SortId) (n : Name) (cs : List Constructor) (ds : List Con) → IsSignature g → IsBare g.sorts sort → HasSortOf g (a_name n) sort → AllByRecursion (IsReadyConstructor g) cs → EachPair (IsConOf g) cs ds
    → h ≡ with_struct g sort ds → AddsStruct n cs g h
struct_added g h sort n cs ds stands bare has ready are is = subst (AddsStruct n cs g) (sym is) added
  where
    taken : (f : Named) → Contains (functions_by (struct n cs)) f → IsTaken g f.0
    taken = struct_taken g n cs ready

    still : Keeps g (with_struct g sort ds)
    still = keeps_with_struct g sort n cs ds stands bare has are taken

    added : AddsStruct n cs g (with_struct g sort ds)
    added = record {
      adds = struct_adds g sort n cs ds stands bare has are taken;
      made = (
        sort,
        has_sort_kept g (with_struct g sort ds) still (a_name n) sort has,
        (record bare.0 { kind = structured (numbers_from (length g.functions) (length ds)) }, numbers_from (length g.functions) (length ds), kind_there g.sorts sort.0 (structured (numbers_from (length g.functions) (length ds))) bare.0 bare.1, refl),
      );
      sorts = λ s t at. elim (cases_eq s.0 sort.0) [
        | inl e ↦ inr (subst (HasSortOf (with_struct g sort ds) (a_name n)) (ap (λ (k : ℕ). record { 0 = k }) (sym e)) (has_sort_kept g (with_struct g sort ds) still (a_name n) sort has))
        | inr other ↦ inl (kind_elsewhere g.sorts sort.0 (structured (numbers_from (length g.functions) (length ds))) s.0 other ∙ at)
      ];
      lists = λ e l over. lists_with_struct g.sorts sort (numbers_from (length g.functions) (length ds)) e l over;
    }
