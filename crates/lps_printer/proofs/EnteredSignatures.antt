-- The declared functions of any signature are entered under what is written for their sorts.
use Rattle.std.proofs.Common.{◌≡◌, ◌<◌, ℕ, suc, List, [], ◌∷◌, length, map, refl, sym, ◌∙◌, subst, arith, Some, None}
use Rattle.std.specs.Prelude.{slice_get}
use Rattle.std.specs.List.{All, Contains}
use Rattle.std.proofs.lemmas.List.Elements.{All-head, All-tail}
use Rattle.std.proofs.lemmas.Option.{same_Some, slice_get_within, slice_get-get_or}
use Rattle.data_theory.specs.declared.ids.FunId.{FunId}
use Rattle.data_theory.specs.declared.ids.SortId.{SortId}
use Rattle.data_theory.specs.Declarations.{Role, mapping}
use Rattle.data_theory.specs.Sorts.{SortInfo}
use Rattle.data_theory.specs.Functions.{Function}
use Rattle.data_theory.specs.Complete.{IsFunctionWithin}
use Rattle.data_theory.specs.Signature.{Sig}
use Rattle.data_theory.specs.IdData.{constructors_of, role_meant}
use Rattle.data_theory.specs.IdRoles.{HasRole, constructs, projects, recognises, IsStructConstructor}
use Rattle.data_theory.specs.IdTerms.{sort_under}
use Rattle.data_theory.specs.WholeSignatures.{IsSignature}
use Rattle.data_theory.proofs.IdDataLemmas.{holds_of_role, constructor_tells, roles_are_found}
use Rattle.data_theory.proofs.IdSymbolLemmas.{holds_at, sort_is}
use Rattle.sort_table.specs.BareSorts.{SortExpression}
use Rattle.sort_table.specs.SignatureVocabularies.{text_under}
use Rattle.sort_table.specs.TextFunctions as text
use Rattle.sort_table.specs.TextFunctions.{TextRole, Named}
use Rattle.sort_table.specs.Vocabularies.{EachPair}
use Rattle.sort_table.specs.EnteredFunctions.{HasSortOf, HaveSortsOf, IsNameId, IsConstructorAt, HasTextRole, of_struct, of_map, of_place, of_test, IsEntered, AreEntered}
use Rattle.lps_printer.specs.SignatureNames.{text_names_under}
use Rattle.lps_printer.specs.WrittenProcesses.{sort_written}
use Rattle.lps_printer.proofs.OwnFunctions.{many_declared, stands_as}
use Rattle.lps_printer.proofs.SortsBack.{sort_back}

mapping_is_none : (ss : List SortInfo) (fs : List Function) (i : FunId) (r : Role) → HasRole ss fs i r → r ≡ mapping → ⊥
mapping_is_none ss fs i _ (constructs s t at c) e = cc
mapping_is_none ss fs i _ (projects c h k at p) e = cc
mapping_is_none ss fs i _ (recognises c h at t) e = cc

module _ (g : Sig) (stands : IsSignature g) where
  abbrev to : SortId → SortExpression
  to s = sort_written (text_names_under g []) (sort_under g s)

  has_sort : (s : SortId) → s.0 < length g.sorts → HasSortOf g (to s) s
  has_sort s l = record { within = l; meant = sort_back g stands [] (sort_under g s) (sort_is g stands.table s l) }

  have_sorts : (ss : List SortId) → All (λ (s : SortId). s.0 < length g.sorts) ss → HaveSortsOf g (map to ss) ss
  have_sorts [] all = tt
  have_sorts (s ∷ ss) all = (has_sort s (All-head (λ (t : SortId). t.0 < length g.sorts) s ss all), have_sorts ss (All-tail (λ (t : SortId). t.0 < length g.sorts) s ss all))

  within : (i : FunId) (f : Function) → slice_get g.functions i.0 ≡ Some f → IsFunctionWithin (length g.texts) (length g.sorts) (length g.functions) f
  within i f at = holds_at (IsFunctionWithin (length g.texts) (length g.sorts) (length g.functions)) g.functions i.0 f stands.complete.within.functions_within at

  its_name : (i : FunId) (f : Function) → slice_get g.functions i.0 ≡ Some f → IsNameId g (text_under g f.name) f.name
  its_name i f at = slice_get-get_or g.texts f.name.0 [] (within i f at).named

  -- a struct's constructor is declared
  constructor_at : (c : FunId) (h : Function) → slice_get g.functions c.0 ≡ Some h → IsStructConstructor g.sorts c h.result → IsConstructorAt g (text_under g h.name) (map to h.sorts) c h
  constructor_at c h at (t, cs, there, kind, among) =
      let d = stands.roles.constructors h.result t c there (subst (λ k. Contains (constructors_of k) c) (sym kind) among) in
      let same : d.0 ≡ h = same_Some d.0 h (sym d.1 ∙ at) in
      record { there = at; declared = subst (λ (f : Function). f.word ≡ None) same d.2; name = its_name c h at; arguments = have_sorts h.sorts (within c h at).found }

  module _ (i : FunId) (f : Function) (at : slice_get g.functions i.0 ≡ Some f) (none : f.word ≡ None) where
    abbrev SomeEntered : Type 0
    SomeEntered = (x : Named) × IsEntered g x i

    with_role : (r : TextRole) → HasTextRole g i r → SomeEntered
    with_role r has = (
      (text_under g f.name, record { arguments = map to f.sorts; result = to f.result; role = r }),
      record {
        entry = f;
        there = at;
        is = record { declared = none; name = its_name i f at; arguments = have_sorts f.sorts (within i f at).found; result = has_sort f.result (within i f at).gives };
        role = has;
      },
    )

    one_entered : SomeEntered
    one_entered =
        holds_of_role g i (λ (r : Role). role_meant g i ≡ r → SomeEntered)
        (λ e. with_role text.mapping (of_map (λ r has. mapping_is_none g.sorts g.functions i r has (sym (roles_are_found g stands.roles i r has) ∙ e))))
        (λ c h k there p e. with_role (text.projection (text_under g h.name) (map to h.sorts) k) (of_place (text_under g h.name) (map to h.sorts) k c h (constructor_at c h there (stands.roles.projections c i h k there p).0) p))
        (λ c h there t e. with_role (text.recogniser (text_under g h.name) (map to h.sorts)) (of_test (text_under g h.name) (map to h.sorts) c h (constructor_at c h there (stands.roles.recognisers c i h there t).0) t))
        (λ told e. (let r = constructor_tells g.sorts i told in with_role text.struct_constructor (of_struct (record { 0 = r.0 }, r.1, r.2, r.3)))) refl

  all_entered : (is : List FunId) → ((k : ℕ) (i : FunId) → slice_get is k ≡ Some i → (f : Function) × (slice_get g.functions i.0 ≡ Some f) × (f.word ≡ None)) → (xs : List Named) × EachPair (IsEntered g) xs is
  all_entered [] each = ([], tt)
  all_entered (i ∷ is) each =
      let here = each 0 i refl in
      let first = one_entered i here.0 here.1 here.2 in
      let rest = all_entered is (λ k j at. each (suc k) j at) in
      (first.0 ∷ rest.0, (first.1, rest.1))

  pub signatures_are_entered : (xs : List Named) × AreEntered xs g
  signatures_are_entered = all_entered g.declared (λ k i at. (
      let low = slice_get_within g.declared k i at in
      let many = many_declared g stands in
      let a = stands_as g stands k (omega (arith, low, many)) in
      let same : a.id ≡ i = same_Some a.id i (sym a.listed ∙ at) in
      (a.entry, subst (λ (j : FunId). slice_get g.functions j.0 ≡ Some a.entry) same a.stands, a.plain)
      ))
