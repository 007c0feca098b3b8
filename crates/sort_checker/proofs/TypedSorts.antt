-- Whether a declared sort has a `struct`, by its kind in a signature.
use Rattle.std.proofs.Common.{◌≡◌, ◌≢◌, ◌<◌, ℕ, Bool, true, false, List, [], ◌∷◌, length, map, take, refl, sym, subst, ap, ◌∙◌}
use Rattle.std.specs.Prelude.{Option, Some, None, IfSome, Vec, slice_get}
use Rattle.std.specs.Global.{Global}
use Rattle.data_theory.specs.declared.ids.FunId.{FunId}
use Rattle.data_theory.specs.declared.ids.SortId.{SortId}
use Rattle.data_theory.specs.declared.sort_table.SortKind.{SortKind}
use Rattle.data_theory.specs.declared.sort_table.SortKind.TheVariants.{Bool as BoolKind, Pos as PosKind, Nat as NatKind, Int as IntKind, List as ListKind, Abstract as AbstractKind, Cons as ConsKind, Struct as StructKind}
use Rattle.data_theory.specs.Declarations as theory
use Rattle.data_theory.specs.Declarations.{Construction, sort_at}
use Rattle.data_theory.specs.IdData.{data_meant}
use Rattle.data_theory.specs.IdSorts.{constructions, construction_of, meaning_of}
use Rattle.data_theory.specs.IdTerms.{sort_under}
use Rattle.data_theory.specs.Signature.{Sig}
use Rattle.data_theory.specs.Sorts as sorts
use Rattle.data_theory.specs.Sorts.{Kind, SortInfo, kind_of}
use Rattle.data_theory.specs.Terms as terms
use Rattle.data_theory.specs.Terms.{Sort, named}
use Rattle.data_theory.specs.WholeSignatures.{IsSignature}
use Rattle.data_theory.proofs.IdSortLemmas.{read_within, declared_sorts_stand_in_the_data}
use Rattle.data_theory.proofs.IdSymbolLemmas.{read_sort}
use Rattle.sort_checker.specs.Faults.{is_no_struct}

module _ (g : Sig) (stands : IsSignature g) (s : SortId) (inside : s.0 < length g.sorts) (n : ℕ) (means : sort_under g s ≡ named n) where
  abbrev HasKind : SortKind → Type 0
  HasKind k = IfSome (slice_get g.sorts s.0) (λ (i : SortInfo). i.kind ≡ kind_of k)

  abbrev place : ℕ
  place = length (constructions (take s.0 g.sorts))

  found : (k : SortKind) → HasKind k → (i : SortInfo) × (slice_get g.sorts s.0 ≡ Some i) × (i.kind ≡ kind_of k)
  found k h = let r = read_within g.sorts s.0 inside in (r.0, r.1, subst (λ (o : Option SortInfo). IfSome o (λ (i : SortInfo). i.kind ≡ kind_of k)) r.1 h)

  meant : (k : SortKind) → HasKind k → named n ≡ meaning_of (sort_under g) place (kind_of k)
  meant k h = let i = found k h in sym means ∙ (read_sort g stands.table s i.0 i.1 ∙ ap (meaning_of (sort_under g) place) i.2)

  built : (k : SortKind) (c : Construction) → HasKind k → construction_of (kind_of k) ≡ c ∷ [] → named n ≡ named place → sort_at (data_meant g) n ≡ c
  built k c h made number =
      let i = found k h in
      let same : n ≡ place = cc in
      ap (sort_at (data_meant g)) same ∙ declared_sorts_stand_in_the_data g s i.0 c i.1 (ap construction_of i.2 ∙ made)

  pub struct_told : (k : SortKind) (v : Vec FunId Global) → k ≡ StructKind v → HasKind k → false ≡ is_no_struct (sort_at (data_meant g) n)
  struct_told k v is h =
      let here : HasKind (StructKind v) = subst HasKind is h in
      sym (ap is_no_struct (built (StructKind v) theory.structured here refl (meant (StructKind v) here)))

  pub no_struct_told : (k : SortKind) → ((v : Vec FunId Global) → k ≢ StructKind v) → HasKind k → true ≡ is_no_struct (sort_at (data_meant g) n)
  no_struct_told BoolKind other h = let never : named n ≡ terms.boolean = meant BoolKind h in absurd cc
  no_struct_told PosKind other h = let never : named n ≡ terms.positive = meant PosKind h in absurd cc
  no_struct_told NatKind other h = let never : named n ≡ terms.natural = meant NatKind h in absurd cc
  no_struct_told IntKind other h = let never : named n ≡ terms.integer = meant IntKind h in absurd cc
  no_struct_told (ListKind e) other h = let never : named n ≡ terms.list (sort_under g e) = meant (ListKind e) h in absurd cc
  no_struct_told AbstractKind other h = sym (ap is_no_struct (built AbstractKind theory.without_constructors h refl (meant AbstractKind h)))
  no_struct_told (ConsKind v) other h = sym (ap is_no_struct (built (ConsKind v) theory.by_declarations h refl (meant (ConsKind v) h)))
  no_struct_told (StructKind v) other h = absurd (other v refl)
