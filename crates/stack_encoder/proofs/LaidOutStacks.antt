-- What the calls of laying out ask of each other.
use Rattle.std.proofs.Common.{◌≡◌, ◌≤◌, ℕ, List, [], length, sym, subst, arith}
use Rattle.std.specs.Prelude.{Vec}
use Rattle.std.specs.Global.{Global}
use Rattle.std.specs.List.{All}
use Rattle.std.proofs.lemmas.List.{length-map}
use Rattle.std.proofs.lemmas.List.Elements.{All-weaker}
use Rattle.std.proofs.lemmas.Option.{slice_get_within}
use Rattle.data_theory.specs.declared.ids.NameId.{NameId}
use Rattle.data_theory.specs.declared.ids.SortId.{SortId}
use Rattle.data_theory.specs.declared.ids.TermId.{TermId}
use Rattle.data_theory.specs.declared.ids.VarId.{VarId}
use Rattle.data_theory.specs.Declarations.{NoSortIsEmpty}
use Rattle.data_theory.specs.IdData.{data_meant}
use Rattle.data_theory.specs.IdTerms.{IsGrown}
use Rattle.data_theory.specs.Signature.{Sig}
use Rattle.data_theory.specs.WholeSignatures.{IsSignature}
use Rattle.data_theory.proofs.IdGrowthLemmas.{growth_after_growth_is_growth}
use Rattle.term_pool.specs.ConstructorValues.{HasValue}
use Rattle.term_pool.specs.Pools.{PoolContents}
use Rattle.term_pool.proofs.DeclaredConstants.{grown_itself}
use Rattle.term_pool.proofs.GrownSignatures.{inhabited_sorts_stay_inhabited}
use Rattle.term_pool.proofs.InhabitedSorts.{sorts_have_values_where_none_is_empty}
use Rattle.greibach.specs.FittingForms.{FormFits}
use Rattle.greibach.specs.PlainForms.{PlainEquation, PlainForm}
use Rattle.regular_encoder.specs.FormColumns.{column_kinds, places_in, IsKindIn}
use Rattle.stack_encoder.specs.AddedSort.{DeclaresStack}
use Rattle.stack_encoder.specs.StackColumns.{AreNumberedPlaces, numbered_place, EquationLeadsToPlaces, HaveDefaults}
use Rattle.stack_encoder.specs.StackEntries.{StackIds}
use Rattle.stack_encoder.specs.StackedForms.{HasItsStack}
use Rattle.stack_encoder.proofs.InhabitedStacks.{closed_sorts, stack_inhabited}
use Rattle.stack_encoder.proofs.ServingStacks.{column_sorts, declared_grown, has_stack}
use Rattle.stack_encoder.proofs.WholeStacks.{all_lead, as_many_places, first_place_long}

module _ (g : Sig) (p : PoolContents) (f : PlainForm) (s : IsSignature g) (fits : FormFits g p.trees f) where
  pub numbered_still : (keys : List (NameId × SortId)) (qs : List PlainEquation) (places slice : List (Vec ℕ Global)) → qs ≡ f.equations → slice ≡ places → AreNumberedPlaces g keys qs (places_in places) → AreNumberedPlaces g keys f.equations (places_in slice)
  numbered_still keys qs places slice e q n = subst (λ z. AreNumberedPlaces g keys z (places_in slice)) e (subst (λ z. AreNumberedPlaces g keys qs (places_in z)) (sym q) n)

  pub place_there : (keys : List (NameId × SortId)) (slice : List (Vec ℕ Global)) → AreNumberedPlaces g keys f.equations (places_in slice) → 1 ≤ length slice
  place_there keys slice n =
      let a = as_many_places g keys f.equations (places_in slice) n in
      let b = length-map slice (λ v. v.items) in
      let l = slice_get_within f.equations 0 fits.first fits.starts in
      omega (arith, a, b, l)

  pub calls_lead : (keys : List (NameId × SortId)) (places : List (List ℕ)) → AreNumberedPlaces g keys f.equations places → All (EquationLeadsToPlaces places) f.equations
  calls_lead keys places n = all_lead g p.trees f places (as_many_places g keys f.equations places n) f.equations fits.equations

  pub first_place_is_long : (keys : List (NameId × SortId)) (places : List (List ℕ)) → AreNumberedPlaces g keys f.equations places → length (numbered_place places 1) ≡ length f.init
  first_place_is_long keys places n = first_place_long g g p.trees p.trees s (grown_itself g) f keys places fits n fits []

  pub values_there : NoSortIsEmpty (data_meant g) → (keys : List (NameId × SortId)) → All (IsKindIn g) keys → (h : Sig) → IsGrown g h → All (λ (k : NameId × SortId). HasValue h k.1) keys
  values_there n keys k h w =
      All-weaker (IsKindIn g) (λ (k : NameId × SortId). HasValue h k.1) (λ k i. inhabited_sorts_stay_inhabited g h w k.1 ((sorts_have_values_where_none_is_empty g s).0 n k.1 i.1)) keys k

  pub stack_laid : (keys : List (NameId × SortId)) (d h : Sig) (q : PoolContents) (y : StackIds) (v : VarId) (qs : List PlainEquation) (places slice : List (Vec ℕ Global)) (defaults : List TermId) → keys ≡ column_kinds g f → DeclaresStack g keys d y v
      → qs ≡ f.equations → slice ≡ places → AreNumberedPlaces g keys qs (places_in places) → HaveDefaults keys (places_in slice) f d p h q defaults → HasItsStack g p f h q y v (places_in places) defaults
  stack_laid keys d h q y v qs places slice defaults e x o same n have = record {
    declared = d;
    sort = subst (λ z. DeclaresStack g z d y v) e x;
    numbered = subst (λ z. AreNumberedPlaces g z f.equations (places_in places)) e (subst (λ z. AreNumberedPlaces g keys z (places_in places)) o n);
    values = subst (λ z. HaveDefaults z (places_in places) f d p h q defaults) e (subst (λ z. HaveDefaults keys (places_in z) f d p h q defaults) same have);
  }

  pub still_inhabited : NoSortIsEmpty (data_meant g) → (keys : List (NameId × SortId)) (d h : Sig) (q : PoolContents) (y : StackIds) (v : VarId) (places : List (List ℕ)) (defaults : List TermId) → IsSignature h → DeclaresStack g keys d y v → HaveDefaults keys places f d p h q defaults → IsGrown d h
      → NoSortIsEmpty (data_meant h)
  still_inhabited n keys d h q y v places defaults stands x have w =
      stack_inhabited g d h keys y v (column_sorts keys) s stands (growth_after_growth_is_growth g d h (declared_grown g keys d y v s x) w) x (has_stack g keys d y v s x h stands w).stands (closed_sorts d p _ h q have.closed have.closed_terms) n
