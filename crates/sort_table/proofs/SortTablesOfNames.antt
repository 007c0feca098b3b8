-- What the names of sorts alone say of sort expressions.
use Rattle.std.proofs.Common.{◌≡◌, ◌<◌, ◌≤◌, ◌+◌, ◌⊎◌, inl, inr, ℕ, zero, suc, List, [], ◌∷◌, length, get_or, refl, ap, sym, ◌∙◌, subst, arith}
use Rattle.std.specs.Prelude.{Option, Some, None}
use Rattle.data_theory.specs.Terms.{Sort}
use Rattle.data_theory.specs.Declarations as theory
use Rattle.data_theory.specs.Declarations.{Construction, sort_at}
use Rattle.sort_table.specs.Expressions.{Name}
use Rattle.sort_table.specs.BareSorts.{SortExpression, a_name}
use Rattle.sort_table.specs.SortMeanings.{Kind, alone, a_struct, equal_to, UnderNames, StandForEach, no_sorts, and_sort}
use Rattle.sort_table.specs.Vocabularies.{Vocabulary, sorts_in, HasConstructor, IsConstruction, by_struct, by_none, IsOwn, declared_alone, declared_as_struct, IsSortNamed, HasSorts}
use Rattle.sort_table.specs.NamedSorts.{HasSortNumber, HaveSortNames}
use Rattle.sort_table.specs.Duplicates.{SameSorts}
use Rattle.sort_table.proofs.Growing.{near_or_far, stands_after}
use Rattle.sort_table.proofs.SortsOfLists.{from_same_sorts, expressions_of, finals_are, stand_for_these}

abbrev pub made_as : Option Kind → Construction
made_as None = theory.without_constructors
made_as (Some alone) = theory.without_constructors
made_as (Some a_struct) = theory.structured
made_as (Some (equal_to e)) = theory.without_constructors

module _ (u : UnderNames) (ns : List (Name × Sort)) (count : ℕ) (have : HaveSortNames u ns count) where
  -- the names without functions
  abbrev pub sorts_alone : UnderNames
  sorts_alone = record { sort = u.sort; functions = λ f. []; actions = λ a. [] }

  abbrev pub pick : (d : ℕ) → (d < count) ⊎ (count ≤ d) → Construction
  pick d (inl l) = made_as (u.sort (have.no_more d l).0)
  pick d (inr l) = theory.without_constructors

  pick_is : (n : Name) (d : ℕ) → IsOwn u n → HasSortNumber ns n d → d < count → (p : (d < count) ⊎ (count ≤ d)) → pick d p ≡ made_as (u.sort n)
  pick_is n d own has below (inl l) =
      let other = have.no_more d l in
      ap (λ m. made_as (u.sort m)) (have.different other.0 n d other.1 own other.2 has)
  pick_is n d own has below (inr l) = absurd (omega (arith, below, l))

  abbrev pub numbered : ℕ → ℕ → List Construction
  numbered k zero = []
  numbered k (suc c) = pick k (near_or_far k count) ∷ numbered (suc k) c

  as_many : (k c : ℕ) → length (numbered k c) ≡ c
  as_many k zero = refl
  as_many k (suc c) = ap suc (as_many (suc k) c)

  numbered_at : (k c d j : ℕ) (x : Construction) → d < c → j ≡ k + d → get_or (numbered k c) d x ≡ pick j (near_or_far j count)
  numbered_at k zero d j x l e = absurd (omega (arith, l))
  numbered_at k (suc c) zero j x l e = let same : k ≡ j = omega (arith, e) in ap (λ i. pick i (near_or_far i count)) same
  numbered_at k (suc c) (suc d) j x l e = numbered_at (suc k) c d j x (omega (arith, l)) (omega (arith, e))

  abbrev pub plain_vocabulary : Vocabulary
  plain_vocabulary = record { tables = record { sorts = numbered 0 count; functions = [] }; sort_names = ns; function_names = []; actions = [] }

  own_before : (n : Name) → IsOwn sorts_alone n → IsOwn u n
  own_before n (declared_alone h) = declared_alone h
  own_before n (declared_as_struct h) = declared_as_struct h

  own_after : (n : Name) → IsOwn u n → IsOwn sorts_alone n
  own_after n (declared_alone h) = declared_alone h
  own_after n (declared_as_struct h) = declared_as_struct h

  no_constructor : (n : Name) → ¬ (HasConstructor sorts_alone n)
  no_constructor n (c, f, (k, l, e), role, stands) = omega (arith, l)

  construction : (n : Name) (c : Construction) → IsOwn u n → c ≡ made_as (u.sort n) → IsConstruction sorts_alone n c
  construction n c (declared_alone h) e = subst (IsConstruction sorts_alone n) (sym (e ∙ ap made_as h)) (by_none h (no_constructor n))
  construction n c (declared_as_struct h) e = subst (IsConstruction sorts_alone n) (sym (e ∙ ap made_as h)) (by_struct h)

  is_named : (n : Name) (d : ℕ) → IsOwn u n → HasSortNumber ns n d → d < count → IsSortNamed sorts_alone plain_vocabulary n d
  is_named n d own has l = (
    has,
    (let many = as_many 0 count in omega (arith, l, many)),
    construction n (sort_at plain_vocabulary.tables d) own (numbered_at 0 count d d theory.by_declarations l (omega arith) ∙ pick_is n d own has l (near_or_far d count)),
  )

  pub plain_sorts : HasSorts sorts_alone plain_vocabulary
  plain_sorts = record {
    named = λ n. (
      λ s. (let e = (have.named n).0 s in (e.0, stands_after u sorts_alone (λ m k h. h) (a_name n) e.0 e.1)),
      λ e. (have.named n).1 (e.0, stands_after sorts_alone u (λ m k h. h) (a_name n) e.0 e.1),
    );
    aliases = have.aliases;
    others = λ n own. (let o = own_before n own in let d = have.others n o in (d.0, is_named n d.0 o d.1 d.2));
    different = λ n m d p q h k. have.different n m d (own_before n p) (own_before m q) h.0 k.0;
    no_more = λ d l. (let many = as_many 0 count in let below : d < count = omega (arith, l, many) in let o = have.no_more d below in (o.0, own_after o.0 o.1, is_named o.0 d o.1 o.2 below));
  }

  stand_each : (es rs : List SortExpression) → StandForEach sorts_alone es rs → StandForEach u es rs
  stand_each _ _ no_sorts = no_sorts
  stand_each _ _ (and_sort e s es ss h hs) = and_sort e s es ss (stands_after sorts_alone u (λ m k i. i) e s h) (stand_each es ss hs)

  -- expressions with the same sorts stand for the same ones
  pub have_same_sorts : (es fs : List SortExpression) (ss : List Sort) → sorts_in ns es ≡ Some ss → sorts_in ns fs ≡ Some ss → SameSorts u es fs
  have_same_sorts es fs ss a b =
      let r = from_same_sorts sorts_alone plain_vocabulary plain_sorts es fs (ss, a, b) in
      (r.0, stand_each es r.0 r.1, stand_each fs r.0 r.2)

  -- what they stand for can be told from the sorts
  pub stand_for_expressions : (es : List SortExpression) (ss : List Sort) → sorts_in ns es ≡ Some ss → StandForEach u es (expressions_of sorts_alone plain_vocabulary plain_sorts ss)
  stand_for_expressions es ss h =
      let r = stand_for_these sorts_alone plain_vocabulary plain_sorts es ss h in
      subst (StandForEach u es) (finals_are sorts_alone plain_vocabulary plain_sorts es r.0 ss r.1 r.2) (stand_each es r.0 r.1)
