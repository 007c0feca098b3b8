-- Sort expressions stand for the same sorts where a vocabulary gives them the same ones.
use Rattle.std.proofs.Common.{◌≡◌, ◌<◌, ◌≤◌, ◌⊎◌, inl, inr, ℕ, List, [], ◌∷◌, length, refl, ap, sym, ◌∙◌, subst, arith}
use Rattle.std.specs.Prelude.{Option, Some, option_map, option_and_then}
use Rattle.std.proofs.lemmas.Option.{same_Some}
use Rattle.data_theory.specs.Terms.{Sort, boolean, positive, natural, integer, list, named}
use Rattle.sort_table.specs.Expressions.{Name}
use Rattle.sort_table.specs.BareSorts.{SortExpression, truth_values, positives, naturals, integers, lists_of, a_name}
use Rattle.sort_table.specs.SortMeanings.{UnderNames, StandsFor, for_truth_values, for_positives, for_naturals, for_integers, for_lists, for_plain, for_struct, for_alias, StandForEach, no_sorts, and_sort}
use Rattle.sort_table.specs.Vocabularies.{Vocabulary, sort_in, sorts_in, IsOwn, declared_alone, declared_as_struct, IsSortNamed, HasSorts}
use Rattle.sort_table.specs.Duplicates.{SameSorts}
use Rattle.sort_table.specs.SameSorts.{SameSortsAreThoseOfAVocabulary}
use Rattle.sort_table.proofs.OneSort.{what_stands_for_a_sort_has_it}
use Rattle.sort_table.proofs.Growing.{has_stood, near_or_far}
use Rattle.sort_table.proofs.SameEmptiness.{sorts_then}

-- an expression without aliases
abbrev IsFinal : UnderNames → SortExpression → Type 0
IsFinal u truth_values = Unit {0}
IsFinal u positives = Unit {0}
IsFinal u naturals = Unit {0}
IsFinal u integers = Unit {0}
IsFinal u (lists_of e) = IsFinal u e
IsFinal u (a_name n) = IsOwn u n

is_final : (u : UnderNames) (e r : SortExpression) → StandsFor u e r → IsFinal u r
is_final u _ _ for_truth_values = tt
is_final u _ _ for_positives = tt
is_final u _ _ for_naturals = tt
is_final u _ _ for_integers = tt
is_final u _ _ (for_lists e s h) = is_final u e s h
is_final u _ _ (for_plain n h) = declared_alone h
is_final u _ _ (for_struct n h) = declared_as_struct h
is_final u _ _ (for_alias n e s h r) = is_final u e s r

module _ (u : UnderNames) (v : Vocabulary) (is : HasSorts u v) where
  -- it has a sort
  final_has : (r : SortExpression) → IsFinal u r → (s : Sort) × (sort_in v.sort_names r ≡ Some s)
  final_has truth_values f = (boolean, refl)
  final_has positives f = (positive, refl)
  final_has naturals f = (natural, refl)
  final_has integers f = (integer, refl)
  final_has (lists_of e) f = let s = final_has e f in (list s.0, ap (option_map list) s.1)
  final_has (a_name n) f = let d = is.others n f in (named d.0, d.1.0)

  -- the expression without aliases that has a sort
  pub name_of : ℕ → Name
  name_of d = by_place (near_or_far d (length v.tables.sorts))
    where
      by_place : (d < length v.tables.sorts) ⊎ (length v.tables.sorts ≤ d) → Name
      by_place (inl l) = (is.no_more d l).0
      by_place (inr l) = []

  unfoldable pub expression_of : Sort → SortExpression
  expression_of boolean = truth_values
  expression_of positive = positives
  expression_of natural = naturals
  expression_of integer = integers
  expression_of (list s) = lists_of (expression_of s)
  expression_of (named d) = a_name (name_of d)

  own_name : (n : Name) (d : ℕ) → IsOwn u n → IsSortNamed u v n d → n ≡ name_of d
  unfolding name_of
  own_name n d own has = by_place (near_or_far d (length v.tables.sorts)) refl
    where
      by_place : (p : (d < length v.tables.sorts) ⊎ (length v.tables.sorts ≤ d)) → near_or_far d (length v.tables.sorts) ≡ p → n ≡ name_of d
      by_place (inl l) e =
          let other = is.no_more d l in
          let same : n ≡ other.0 = is.different n other.0 d own other.1 has other.2 in
          rw e same
      by_place (inr l) e = absurd (omega (arith, has.1, l))

  final_is : (r : SortExpression) (s : Sort) → IsFinal u r → sort_in v.sort_names r ≡ Some s → r ≡ expression_of s
  unfolding expression_of
  final_is truth_values s f h = ap expression_of (same_Some boolean s h)
  final_is positives s f h = ap expression_of (same_Some positive s h)
  final_is naturals s f h = ap expression_of (same_Some natural s h)
  final_is integers s f h = ap expression_of (same_Some integer s h)
  final_is (lists_of e) s f h =
      let t = final_has e f in
      let same : list t.0 ≡ s = same_Some (list t.0) s (sym (ap (option_map list) t.1) ∙ h) in
      ap lists_of (final_is e t.0 f t.1) ∙ ap expression_of same
  final_is (a_name n) s f h =
      let d = is.others n f in
      let same : named d.0 ≡ s = same_Some (named d.0) s (sym d.1.0 ∙ h) in
      ap a_name (own_name n d.0 f d.1) ∙ ap expression_of same

  -- ---- lists
  sorts_of_each : (es rs : List SortExpression) → StandForEach u es rs → (ss : List Sort) × (sorts_in v.sort_names rs ≡ Some ss) × (sorts_in v.sort_names es ≡ Some ss)
  sorts_of_each _ _ no_sorts = ([], refl, refl)
  sorts_of_each _ _ (and_sort e r es rs h hs) =
      let s = final_has r (is_final u e r h) in
      let ss = sorts_of_each es rs hs in
      let here : sort_in v.sort_names e ≡ Some s.0 = what_stands_for_a_sort_has_it u v is e r h ∙ s.1 in
      (s.0 ∷ ss.0, both (sort_in v.sort_names r) s.0 (sorts_in v.sort_names rs) ss.0 s.1 ss.1, both (sort_in v.sort_names e) s.0 (sorts_in v.sort_names es) ss.0 here ss.2)
    where
      both : (o : Option Sort) (s : Sort) (p : Option (List Sort)) (ss : List Sort) → o ≡ Some s → p ≡ Some ss → option_and_then (λ t. option_map (λ ts. t ∷ ts) p) o ≡ Some (s ∷ ss)
      both o s p ss a b = ap (option_and_then (λ t. option_map (λ ts. t ∷ ts) p)) a ∙ ap (option_map (λ ts. s ∷ ts)) b

  pub stand_for_these : (es : List SortExpression) (ss : List Sort) → sorts_in v.sort_names es ≡ Some ss → (rs : List SortExpression) × StandForEach u es rs × (sorts_in v.sort_names rs ≡ Some ss)
  stand_for_these [] ss h = ([], no_sorts, h)
  stand_for_these (e ∷ es) ss h =
      let p = sorts_then v.sort_names e es ss h in
      let stood = has_stood u v is e p.first p.head in
      let rest = stand_for_these es p.rest p.tail in
      let here : StandForEach u (e ∷ es) (stood.0 ∷ rest.0) = and_sort e stood.0 es rest.0 stood.1 rest.1 in
      let its = sorts_of_each (e ∷ es) (stood.0 ∷ rest.0) here in
      (stood.0 ∷ rest.0, here, its.1 ∙ (sym its.2 ∙ h))

  unfoldable pub expressions_of : List Sort → List SortExpression
  expressions_of [] = []
  expressions_of (s ∷ ss) = expression_of s ∷ expressions_of ss

  pub finals_are : (es rs : List SortExpression) (ss : List Sort) → StandForEach u es rs → sorts_in v.sort_names rs ≡ Some ss → rs ≡ expressions_of ss
  unfolding expressions_of
  finals_are _ _ ss no_sorts h = ap expressions_of (same_Some [] ss h)
  finals_are _ _ ss (and_sort e r es rs k ks) h =
      let p = sorts_then v.sort_names r rs ss h in
      (λ i. final_is r p.first (is_final u e r k) p.head i ∷ finals_are es rs p.rest ks p.tail i) ∙ ap expressions_of (sym p.whole)

  pub same_sorts : (es fs : List SortExpression) → SameSorts u es fs → (ss : List Sort) × (sorts_in v.sort_names es ≡ Some ss) × (sorts_in v.sort_names fs ≡ Some ss)
  same_sorts es fs (rs, a, b) =
      let p = sorts_of_each es rs a in
      let q = sorts_of_each fs rs b in
      (p.0, p.2, q.2 ∙ (sym q.1 ∙ p.1))

  pub from_same_sorts : (es fs : List SortExpression) → (ss : List Sort) × (sorts_in v.sort_names es ≡ Some ss) × (sorts_in v.sort_names fs ≡ Some ss) → SameSorts u es fs
  from_same_sorts es fs (ss, a, b) =
      let p = stand_for_these es ss a in
      let q = stand_for_these fs ss b in
      let one : q.0 ≡ p.0 = finals_are fs q.0 ss q.1 q.2 ∙ sym (finals_are es p.0 ss p.1 p.2) in
      (p.0, p.1, subst (StandForEach u fs) one q.1)

pub same_sorts_are_those_of_a_vocabulary : SameSortsAreThoseOfAVocabulary
same_sorts_are_those_of_a_vocabulary u v is es fs = (same_sorts u v is es fs, from_same_sorts u v is es fs)
