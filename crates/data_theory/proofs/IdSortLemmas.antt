-- What the numbers of sorts mean.
use Rattle.std.proofs.Common.{◌≡◌, ℕ, zero, suc, ◌<◌, ◌+◌, ◌⊎◌, inl, inr, List, [], ◌∷◌, ◌++◌, length, get_or, take, Some, refl, sym, ap, ◌∙◌, subst, arith, length-append}
use Rattle.std.proofs.lemmas.Bool.{cases_order}
use Rattle.std.specs.Prelude.{slice_get}
use Rattle.std.proofs.Math.Seq.{take-length}
use Rattle.std.proofs.lemmas.List.{get_or_append_left}
use Rattle.std.proofs.lemmas.Option.{slice_get_within}
use Rattle.data_theory.specs.declared.ids.SortId.{SortId}
use Rattle.data_theory.specs.Terms.{Sort, boolean, positive, natural, integer, list, named}
use Rattle.data_theory.specs.Declarations.{Construction, by_declarations, Data, IsSort}
use Rattle.data_theory.specs.Sorts as sorts
use Rattle.data_theory.specs.Sorts.{Kind, SortInfo, with_kind, IsListOver}
use Rattle.data_theory.specs.IdSorts.{construction_of, constructions, IsDeclaredKind, meant_by, meaning_of, meanings_behind, sort_meant, AreSorts}
use Rattle.data_theory.specs.IdLaws.{DeclaredSortsStandInTheData, SortsMeanTheirKinds, DifferentSortsMeanDifferentSorts, GrowthKeepsMeantSorts}

-- ---- lists of meanings
last_read : (ms : List Sort) (m : Sort) → get_or (ms ++ m ∷ []) (length ms) boolean ≡ m
last_read [] m = refl
last_read (x ∷ ms) m = last_read ms m

-- those in front stay
pub front_stays : (ss : List SortInfo) (ms : List Sort) (d i : ℕ) → i < length ms → get_or (meanings_behind ms d ss) i boolean ≡ get_or ms i boolean
front_stays [] ms d i l = refl
front_stays (s ∷ ss) ms d i l =
    let m = meaning_of (meant_by ms) d s.kind in
    front_stays ss (ms ++ m ∷ []) (d + length (construction_of s.kind)) i (omega (arith, l, length-append ms (m ∷ [])))
    ∙ get_or_append_left ms (m ∷ []) boolean i l

-- one after another
behind_both : (ss more : List SortInfo) (ms : List Sort) (d : ℕ) → meanings_behind ms d (ss ++ more) ≡ meanings_behind (meanings_behind ms d ss) (d + length (constructions ss)) more
behind_both [] more ms d = ap (λ n. meanings_behind ms n more) (let e : d ≡ d + 0 = omega arith in e)
behind_both (s ∷ ss) more ms d =
    let m = meaning_of (meant_by ms) d s.kind in
    behind_both ss more (ms ++ m ∷ []) (d + length (construction_of s.kind))
    ∙ ap (λ n. meanings_behind (meanings_behind (ms ++ m ∷ []) (d + length (construction_of s.kind)) ss) n more)
    (let l = length-append (construction_of s.kind) (constructions ss) in omega (arith, l))

pub as_many : (ss : List SortInfo) (ms : List Sort) (d : ℕ) → length (meanings_behind ms d ss) ≡ length ms + length ss
as_many [] ms d = omega arith
as_many (s ∷ ss) ms d =
    let m = meaning_of (meant_by ms) d s.kind in
    let e = as_many ss (ms ++ m ∷ []) (d + length (construction_of s.kind)) in
    let l = length-append ms (m ∷ []) in
    omega (arith, e, l)

pub sort_in_grown : (ss more : List SortInfo) (i : SortId) → i.0 < length ss → sort_meant (ss ++ more) i ≡ sort_meant ss i
sort_in_grown ss more i l =
    ap (λ ms. get_or ms i.0 boolean) (behind_both ss more [] 0)
    ∙ front_stays more (meanings_behind [] 0 ss) (0 + length (constructions ss)) i.0 (omega (arith, l, as_many ss [] 0))

-- ---- the meaning at a place
split_at : (ss : List SortInfo) (i : ℕ) (s : SortInfo) → slice_get ss i ≡ Some s → (rest : List SortInfo) × (ss ≡ take i ss ++ s ∷ rest) × (length (take i ss) ≡ i)
split_at [] i s e = cc
split_at (x ∷ ss) zero s e = (ss, ap (λ y. y ∷ ss) (let p : x ≡ s = cc in p), refl)
split_at (x ∷ ss) (suc i) s e = let h = split_at ss i s e in (h.0, ap (λ l. x ∷ l) h.1, ap suc h.2)

-- a kind means the same by two readings that agree on its element
same_meaning : (m n : SortId → Sort) (d : ℕ) (k : Kind) → ((e : SortId) → k ≡ sorts.lists_over e → m e ≡ n e) → meaning_of m d k ≡ meaning_of n d k
same_meaning m n d (sorts.lists_over e) h = ap list (h e refl)
same_meaning m n d sorts.booleans h = refl
same_meaning m n d sorts.positives h = refl
same_meaning m n d sorts.naturals h = refl
same_meaning m n d sorts.integers h = refl
same_meaning m n d sorts.without_constructors h = refl
same_meaning m n d (sorts.by_declarations fs) h = refl
same_meaning m n d (sorts.structured fs) h = refl

pub sorts_mean_their_kinds : SortsMeanTheirKinds
sorts_mean_their_kinds ss are i s e =
    let h = split_at ss i.0 s e in
    let front = meanings_behind [] 0 (take i.0 ss) in
    let d = length (constructions (take i.0 ss)) in
    let many : length front ≡ i.0 = omega (arith, as_many (take i.0 ss) [] 0, h.2) in
    let all : meanings_behind [] 0 ss ≡ meanings_behind front (0 + d) (s ∷ h.0) = ap (meanings_behind [] 0) h.1 ∙ behind_both (take i.0 ss) (s ∷ h.0) [] 0 in
    let m = meaning_of (meant_by front) (0 + d) s.kind in
    let here : get_or (meanings_behind front (0 + d) (s ∷ h.0)) (length front) boolean ≡ m =
    front_stays h.0 (front ++ m ∷ []) (0 + d + length (construction_of s.kind)) (length front) (omega (arith, length-append front (m ∷ []))) ∙ last_read front m in
    let element : (x : SortId) → s.kind ≡ sorts.lists_over x → meant_by front x ≡ sort_meant ss x = λ x k.
    let b = are.behind_element x i (s, e, k) in
    sym (ap (λ ms. get_or ms x.0 boolean) all ∙ front_stays (s ∷ h.0) front (0 + d) x.0 (omega (arith, b, many))) in
    ap (λ ms. get_or ms i.0 boolean) all
    ∙ ap (λ n. get_or (meanings_behind front (0 + d) (s ∷ h.0)) n boolean) (sym many)
    ∙ here
    ∙ ap (λ n. meaning_of (meant_by front) n s.kind) (let z : 0 + d ≡ d = omega arith in z)
    ∙ same_meaning (meant_by front) (sort_meant ss) d s.kind element

-- ---- different numbers mean different sorts
-- what kind means a sort
abbrev IsKindOf : (SortId → Sort) → ℕ → Kind → Sort → Type 0
IsKindOf m d k boolean = k ≡ sorts.booleans
IsKindOf m d k positive = k ≡ sorts.positives
IsKindOf m d k natural = k ≡ sorts.naturals
IsKindOf m d k integer = k ≡ sorts.integers
IsKindOf m d k (list a) = (e : SortId) × (k ≡ sorts.lists_over e) × (m e ≡ a)
IsKindOf m d k (named n) = (d ≡ n) × (length (construction_of k) ≡ 1)

kind_read : (m : SortId → Sort) (d : ℕ) (k : Kind) → IsKindOf m d k (meaning_of m d k)
kind_read m d sorts.booleans = refl
kind_read m d sorts.positives = refl
kind_read m d sorts.naturals = refl
kind_read m d sorts.integers = refl
kind_read m d (sorts.lists_over e) = (e, refl, refl)
kind_read m d sorts.without_constructors = (refl, refl)
kind_read m d (sorts.by_declarations fs) = (refl, refl)
kind_read m d (sorts.structured fs) = (refl, refl)

-- the entry at a place
pub read_within : {A : Type 0} (xs : List A) (i : ℕ) → i < length xs → (x : A) × (slice_get xs i ≡ Some x)
read_within [] i l = absurd (omega (arith, l))
read_within (x ∷ xs) zero l = (x, refl)
read_within (x ∷ xs) (suc i) l = read_within xs i (omega (arith, l))

-- a declared sort counts for those behind it
counted : (ss : List SortInfo) (i j : ℕ) (s : SortInfo) → slice_get ss i ≡ Some s → length (construction_of s.kind) ≡ 1 → i < j
    → length (constructions (take i ss)) < length (constructions (take j ss))
counted [] i j s e c l = cc
counted (x ∷ ss) zero zero s e c l = absurd (omega (arith, l))
counted (x ∷ ss) zero (suc j) s e c l =
    let p : x ≡ s = cc in
    let q : length (construction_of x.kind) ≡ 1 = ap (λ (y : SortInfo). length (construction_of y.kind)) p ∙ c in
    omega (arith, q, length-append (construction_of x.kind) (constructions (take j ss)))
counted (x ∷ ss) (suc i) zero s e c l = absurd (omega (arith, l))
counted (x ∷ ss) (suc i) (suc j) s e c l =
    let r = counted ss i j s e c (omega (arith, l)) in
    omega (arith, r, length-append (construction_of x.kind) (constructions (take i ss)), length-append (construction_of x.kind) (constructions (take j ss)))

module _ (ss : List SortInfo) (are : AreSorts ss) where
  kind_at : (i : SortId) (s : SortInfo) (a : Sort) → slice_get ss i.0 ≡ Some s → sort_meant ss i ≡ a → IsKindOf (sort_meant ss) (length (constructions (take i.0 ss))) s.kind a
  kind_at i s a at e =
      let m = sort_meant ss in
      let d = length (constructions (take i.0 ss)) in
      subst (IsKindOf m d s.kind) (sym (sorts_mean_their_kinds ss are i s at) ∙ e) (kind_read m d s.kind)

  same_number : (i j : SortId) (n : ℕ) → i.0 ≡ n → j.0 ≡ n → i ≡ j
  same_number i j n e f = ap (λ (k : ℕ). record { 0 = k }) (e ∙ sym f)

  same_declared : (i j : SortId) (s t : SortInfo) (n : ℕ) → slice_get ss i.0 ≡ Some s → slice_get ss j.0 ≡ Some t → IsKindOf (sort_meant ss) (length (constructions (take i.0 ss))) s.kind (named n)
      → IsKindOf (sort_meant ss) (length (constructions (take j.0 ss))) t.kind (named n) → i.0 ≡ j.0
  same_declared i j s t n at at' h k = by_order (cases_order i.0 j.0)
    where
      by_order : (i.0 ≡ j.0) ⊎ ((i.0 < j.0) ⊎ (j.0 < i.0)) → i.0 ≡ j.0
      by_order (inl e) = e
      by_order (inr (inl l)) = let c = counted ss i.0 j.0 s at h.1 l in absurd (omega (arith, c, h.0, k.0))
      by_order (inr (inr l)) = let c = counted ss j.0 i.0 t at' k.1 l in absurd (omega (arith, c, h.0, k.0))

  same_sort : (a : Sort) (i j : SortId) (s t : SortInfo) → slice_get ss i.0 ≡ Some s → slice_get ss j.0 ≡ Some t → sort_meant ss i ≡ a → sort_meant ss j ≡ a → i ≡ j
  same_sort boolean i j s t at at' e f = same_number i j 0 ((are.boolean_first i.0).0 (s, at, kind_at i s boolean at e)) ((are.boolean_first j.0).0 (t, at', kind_at j t boolean at' f))
  same_sort positive i j s t at at' e f = same_number i j 1 ((are.positive_second i.0).0 (s, at, kind_at i s positive at e)) ((are.positive_second j.0).0 (t, at', kind_at j t positive at' f))
  same_sort natural i j s t at at' e f = same_number i j 2 ((are.natural_third i.0).0 (s, at, kind_at i s natural at e)) ((are.natural_third j.0).0 (t, at', kind_at j t natural at' f))
  same_sort integer i j s t at at' e f = same_number i j 3 ((are.integer_fourth i.0).0 (s, at, kind_at i s integer at e)) ((are.integer_fourth j.0).0 (t, at', kind_at j t integer at' f))
  same_sort (list a) i j s t at at' e f =
      let k = kind_at i s (list a) at e in
      let l = kind_at j t (list a) at' f in
      let over : IsListOver ss k.0 i = (s, at, k.1) in
      let over' : IsListOver ss l.0 j = (t, at', l.1) in
      let front = are.behind_element k.0 i over in
      let front' = are.behind_element l.0 j over' in
      let x = read_within ss k.0.0 (omega (arith, front, slice_get_within ss i.0 s at)) in
      let y = read_within ss l.0.0 (omega (arith, front', slice_get_within ss j.0 t at')) in
      let element : k.0 ≡ l.0 = same_sort a k.0 l.0 x.0 y.0 x.1 y.1 k.2 l.2 in
      are.once l.0 i j (subst (λ z. IsListOver ss z i) element over) over'
  same_sort (named n) i j s t at at' e f = ap (λ (k : ℕ). record { 0 = k }) (same_declared i j s t n at at' (kind_at i s (named n) at e) (kind_at j t (named n) at' f))

pub same_meant_sort : (ss : List SortInfo) → AreSorts ss → (i j : SortId) → i.0 < length ss → j.0 < length ss → sort_meant ss i ≡ sort_meant ss j → i ≡ j
same_meant_sort ss are i j l k e =
    let x = read_within ss i.0 l in
    let y = read_within ss j.0 k in
    same_sort ss are (sort_meant ss j) i j x.0 y.0 x.1 y.1 e refl

pub different_sorts_mean_different_sorts : DifferentSortsMeanDifferentSorts
different_sorts_mean_different_sorts g table i j l k e = same_meant_sort g.sorts table.sorts i j l k e

pub growth_keeps_meant_sorts : GrowthKeepsMeantSorts
growth_keeps_meant_sorts g h grown i l = ap (λ ss. sort_meant ss i) grown.sorts ∙ sort_in_grown g.sorts grown.new_sorts i l

-- ---- the sorts that numbers mean are sorts of the data
-- where the declared sorts are those of the table
pub meant_is_sort : (d : Data) (ss : List SortInfo) → AreSorts ss → d.sorts ≡ constructions ss → (a : Sort) (i : SortId) → i.0 < length ss → sort_meant ss i ≡ a → IsSort d a
meant_is_sort d ss are all boolean i l e = tt
meant_is_sort d ss are all positive i l e = tt
meant_is_sort d ss are all natural i l e = tt
meant_is_sort d ss are all integer i l e = tt
meant_is_sort d ss are all (list a) i l e =
    let x = read_within ss i.0 l in
    let k = kind_at ss are i x.0 (list a) x.1 e in
    let b = are.behind_element k.0 i (x.0, x.1, k.1) in
    meant_is_sort d ss are all a k.0 (omega (arith, b, l)) k.2
meant_is_sort d ss are all (named n) i l e =
    let x = read_within ss i.0 l in
    let k = kind_at ss are i x.0 (named n) x.1 e in
    let c = counted ss i.0 (length ss) x.0 x.1 k.1 l in
    let whole : length (constructions (take (length ss) ss)) ≡ length d.sorts = ap (λ l. length (constructions l)) (take-length ss) ∙ ap length (sym all) in
    omega (arith, c, whole, k.0)

-- ---- constructions
construction_at : (ss : List SortInfo) (i : ℕ) (s : SortInfo) (c default : Construction) → slice_get ss i ≡ Some s → construction_of s.kind ≡ c ∷ [] → get_or (constructions ss) (length (constructions (take i ss))) default ≡ c
construction_at [] i s c default e q = cc
construction_at (x ∷ ss) zero s c default e q =
    let p : x ≡ s = cc in
    ap (λ (l : List Construction). get_or (l ++ constructions ss) 0 default) (ap (λ (y : SortInfo). construction_of y.kind) p ∙ q)
construction_at (x ∷ ss) (suc i) s c default e q =
    behind (construction_of x.kind) (constructions ss) (constructions (take i ss)) default ∙ construction_at ss i s c default e q
  where
    behind : {A : Type 0} (xs ys zs : List A) (d : A) → get_or (xs ++ ys) (length (xs ++ zs)) d ≡ get_or ys (length zs) d
    behind [] ys zs d = refl
    behind (y ∷ xs) ys zs d = behind xs ys zs d

pub declared_sorts_stand_in_the_data : DeclaredSortsStandInTheData
declared_sorts_stand_in_the_data g i s c at q = construction_at g.sorts i.0 s c by_declarations at q

-- ---- a declared sort gets its constructors
declared_means : (m : SortId → Sort) (d : ℕ) (k : Kind) → IsDeclaredKind k → meaning_of m d k ≡ named d
declared_means m d sorts.without_constructors h = refl
declared_means m d (sorts.by_declarations fs) h = refl
declared_means m d (sorts.structured fs) h = refl
declared_means m d sorts.booleans h = absurd (omega (arith, h))
declared_means m d sorts.positives h = absurd (omega (arith, h))
declared_means m d sorts.naturals h = absurd (omega (arith, h))
declared_means m d sorts.integers h = absurd (omega (arith, h))
declared_means m d (sorts.lists_over e) h = absurd (omega (arith, h))

pub meanings_set : (ss : List SortInfo) (i : ℕ) (s : SortInfo) (k : Kind) (ms : List Sort) (d : ℕ) → slice_get ss i ≡ Some s → IsDeclaredKind s.kind → IsDeclaredKind k → meanings_behind ms d (with_kind ss i k) ≡ meanings_behind ms d ss
meanings_set [] i s k ms d e was is = refl
meanings_set (x ∷ ss) zero s k ms d e was is =
    let p : x ≡ s = cc in
    let old : IsDeclaredKind x.kind = ap (λ (y : SortInfo). length (construction_of y.kind)) p ∙ was in
    let means = declared_means (meant_by ms) d k is ∙ sym (declared_means (meant_by ms) d x.kind old) in
    let many : length (construction_of k) ≡ length (construction_of x.kind) = is ∙ sym old in
    (λ j. meanings_behind (ms ++ means j ∷ []) (d + many j) ss)
meanings_set (x ∷ ss) (suc i) s k ms d e was is = meanings_set ss i s k _ _ e was is
