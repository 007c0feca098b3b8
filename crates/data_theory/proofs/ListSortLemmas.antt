-- The index of list sorts.
use Rattle.std.proofs.Common.{◌≡◌, ℕ, zero, suc, ◌<◌, ◌≤◌, ◌⊎◌, inl, inr, List, [], ◌∷◌, ◌++◌, length, take, get_or, Option, Some, None, refl, sym, ap, ◌∙◌, subst, arith}
use Rattle.std.specs.Prelude.{slice_get, slice_set, MatchOption}
use Rattle.std.proofs.Math.ListN.{set}
use Rattle.std.proofs.lemmas.Option.{slice_get_within}
use Rattle.data_theory.specs.declared.ids.NameId.{NameId}
use Rattle.data_theory.specs.declared.ids.SortId.{SortId}
use Rattle.data_theory.specs.declared.sort_table.SortKind.{SortKind}
use Rattle.data_theory.specs.declared.sort_table.SortEntry.{SortEntry}
use Rattle.data_theory.specs.Sorts.{Kind, kind_of, info_of, sorts_of, lists_over, without_constructors, with_kind, IsBare, IsListKind, SortInfo, abstract_sort, list_sort, IsListOver, IsAnyListOver, IsTheListOver, AreLists}
use Rattle.data_theory.proofs.PlaceLemmas.{pushed_by_place, read_front, read_last, read_taken}

-- an answer of the index, as a clause says it
pub as_clause : (ss : List SortInfo) (e : SortId) (r : Option SortId) → IsTheListOver ss e r → MatchOption r (IsAnyListOver ss e → ⊥) (λ l. IsListOver ss e l)
as_clause ss e None h = h
as_clause ss e (Some l) h = h

kinds_differ : (e : SortId) → without_constructors ≡ lists_over e → ⊥
kinds_differ e p = cc

same_element : (d e : SortId) → lists_over d ≡ lists_over e → d ≡ e
same_element d e p = cc

-- no list sort is pushed
still_none : (ss : List SortInfo) (n : NameId) (e : SortId) → (IsAnyListOver ss e → ⊥) → IsAnyListOver (ss ++ abstract_sort n ∷ []) e → ⊥
still_none ss n e none h = by_place (pushed_by_place ss (abstract_sort n) h.1.0 h.0 h.1.1)
  where
    by_place : (slice_get ss h.0 ≡ Some h.1.0) ⊎ ((h.0 ≡ length ss) × (abstract_sort n ≡ h.1.0)) → ⊥
    by_place (inl at) = none (h.0, (h.1.0, at, h.1.2))
    by_place (inr at) = kinds_differ e (ap (λ (s : SortInfo). s.kind) at.1 ∙ h.1.2)

still_over : (ss more : List SortInfo) (e l : SortId) → IsListOver ss e l → IsListOver (ss ++ more) e l
still_over ss more e l h = (h.0, read_front ss more l.0 h.0 h.1, h.2)

abstract_step : (ss : List SortInfo) (n : NameId) (e : SortId) (r : Option SortId) → IsTheListOver ss e r → IsTheListOver (ss ++ abstract_sort n ∷ []) e r
abstract_step ss n e None h = still_none ss n e h
abstract_step ss n e (Some l) h = still_over ss (abstract_sort n ∷ []) e l h

pub abstract_pushed : (ss : List SortInfo) (index : List (Option SortId)) (n : NameId) → AreLists ss index → AreLists (ss ++ abstract_sort n ∷ []) index
abstract_pushed ss index n are e = abstract_step ss n (record { 0 = e }) (get_or index e None) (are e)

-- a list sort is pushed
other_none : (ss : List SortInfo) (d e : SortId) → (d ≡ e → ⊥) → (IsAnyListOver ss e → ⊥) → IsAnyListOver (ss ++ list_sort d ∷ []) e → ⊥
other_none ss d e differ none h = by_place (pushed_by_place ss (list_sort d) h.1.0 h.0 h.1.1)
  where
    by_place : (slice_get ss h.0 ≡ Some h.1.0) ⊎ ((h.0 ≡ length ss) × (list_sort d ≡ h.1.0)) → ⊥
    by_place (inl at) = none (h.0, (h.1.0, at, h.1.2))
    by_place (inr at) = differ (same_element d e (ap (λ (s : SortInfo). s.kind) at.1 ∙ h.1.2))

list_step : (ss : List SortInfo) (d e : SortId) (r : Option SortId) → (d ≡ e → ⊥) → IsTheListOver ss e r → IsTheListOver (ss ++ list_sort d ∷ []) e r
list_step ss d e None differ h = other_none ss d e differ h
list_step ss d e (Some l) differ h = still_over ss (list_sort d ∷ []) e l h

-- the index after a write
set_here : (xs : List (Option SortId)) (k : ℕ) (v : Option SortId) → k < length xs → get_or (slice_set xs k v) k None ≡ v
set_here [] k v l = absurd (omega (arith, l))
set_here (x ∷ xs) zero v l = refl
set_here (x ∷ xs) (suc k) v l = set_here xs k v (omega (arith, l))

set_there : (xs : List (Option SortId)) (k j : ℕ) (v : Option SortId) → (k ≡ j → ⊥) → get_or (slice_set xs k v) j None ≡ get_or xs j None
set_there [] k j v n = refl
set_there (x ∷ xs) zero zero v n = absurd (n refl)
set_there (x ∷ xs) zero (suc j) v n = refl
set_there (x ∷ xs) (suc k) zero v n = refl
set_there (x ∷ xs) (suc k) (suc j) v n = set_there xs k j v (λ e. n (ap suc e))

decide : (a b : ℕ) → (a ≡ b) ⊎ (a ≡ b → ⊥)
decide zero zero = inl refl
decide zero (suc b) = inr (λ e. omega (arith, e))
decide (suc a) zero = inr (λ e. omega (arith, e))
decide (suc a) (suc b) = elim (decide a b) [ inl e ↦ inl (ap suc e) | inr n ↦ inr (λ e. n (omega (arith, e))) ]

pub list_pushed : (ss : List SortInfo) (index : List (Option SortId)) (d : SortId) → AreLists ss index → d.0 < length index → AreLists (ss ++ list_sort d ∷ []) (slice_set index d.0 (Some (record { 0 = length ss })))
list_pushed ss index d are l e = by_place (decide d.0 e)
  where
    by_place : (d.0 ≡ e) ⊎ (d.0 ≡ e → ⊥) → IsTheListOver (ss ++ list_sort d ∷ []) (record { 0 = e }) (get_or (slice_set index d.0 (Some (record { 0 = length ss }))) e None)
    by_place (inl same) =
        subst (λ (k : ℕ). IsTheListOver (ss ++ list_sort d ∷ []) (record { 0 = k }) (get_or (slice_set index d.0 (Some (record { 0 = length ss }))) k None)) same
        (rw (set_here index d.0 (Some (record { 0 = length ss })) l) (list_sort d, read_last ss (list_sort d), refl))
    by_place (inr differ) =
        rw (set_there index d.0 e (Some (record { 0 = length ss })) differ)
        (list_step ss d (record { 0 = e }) (get_or index e None) (λ p. differ (ap (λ (s : SortId). s.0) p)) (are e))

-- an index that grew by nothing
pub same_answers : (ss : List SortInfo) (old new : List (Option SortId)) → AreLists ss old → ((k : ℕ) → get_or new k None ≡ get_or old k None) → AreLists ss new
same_answers ss old new are same e = rw (same e) (are e)

-- a list sort that was pushed stands last
pub list_last : (ss new : List SortInfo) (e l : SortId) → new ≡ ss ++ list_sort e ∷ [] → l.0 ≡ length ss → IsListOver new e l
list_last ss new e l pushed number =
    (list_sort e, (λ i. slice_get (pushed i) (number i)) ∙ read_last ss (list_sort e), refl)

-- ---- what a sort is becomes something else
pub kind_elsewhere : (ss : List SortInfo) (k : ℕ) (d : Kind) (i : ℕ) → (i ≡ k → ⊥) → slice_get (with_kind ss k d) i ≡ slice_get ss i
kind_elsewhere [] k d i n = refl
kind_elsewhere (s ∷ ss) zero d zero n = absurd (n refl)
kind_elsewhere (s ∷ ss) zero d (suc i) n = refl
kind_elsewhere (s ∷ ss) (suc k) d zero n = refl
kind_elsewhere (s ∷ ss) (suc k) d (suc i) n = kind_elsewhere ss k d i (λ e. n (ap suc e))

pub kind_here : (ss : List SortInfo) (k : ℕ) (d : Kind) (t : SortInfo) → slice_get (with_kind ss k d) k ≡ Some t → t.kind ≡ d
kind_here [] k d t e = cc
kind_here (s ∷ ss) zero d t e = let same : record s { kind = d } ≡ t = cc in ap (λ (x : SortInfo). x.kind) (sym same)
kind_here (s ∷ ss) (suc k) d t e = kind_here ss k d t e

pub kind_there : (ss : List SortInfo) (k : ℕ) (d : Kind) (s : SortInfo) → slice_get ss k ≡ Some s → slice_get (with_kind ss k d) k ≡ Some (record s { kind = d })
kind_there [] k d s e = cc
kind_there (x ∷ ss) zero d s e = let same : x ≡ s = cc in ap (λ (y : SortInfo). Some (record y { kind = d })) same
kind_there (x ∷ ss) (suc k) d s e = kind_there ss k d s e

kind_step : (ss : List SortInfo) (sort : SortId) (d : Kind) (e : SortId) (r : Option SortId) → IsBare ss sort → (IsListKind d → ⊥) → IsTheListOver ss e r → IsTheListOver (with_kind ss sort.0 d) e r
kind_step ss sort d e None bare none h = λ a. by_place a (decide a.0 sort.0)
  where
    by_place : (a : IsAnyListOver (with_kind ss sort.0 d) e) → (a.0 ≡ sort.0) ⊎ (a.0 ≡ sort.0 → ⊥) → ⊥
    by_place a (inl same) = none (e, sym (kind_here ss sort.0 d a.1.0 (subst (λ k. slice_get (with_kind ss sort.0 d) k ≡ Some a.1.0) same a.1.1)) ∙ a.1.2)
    by_place a (inr other) = h (a.0, (a.1.0, sym (kind_elsewhere ss sort.0 d a.0 other) ∙ a.1.1, a.1.2))
kind_step ss sort d e (Some l) bare none h = (h.0, kind_elsewhere ss sort.0 d l.0 other ∙ h.1, h.2)
  where
    other : l.0 ≡ sort.0 → ⊥
    other same =
        let one : Some h.0 ≡ Some bare.0 = sym h.1 ∙ ap (slice_get ss) same ∙ bare.1 in
        let same_sort : h.0 ≡ bare.0 = cc in
        let kinds : lists_over e ≡ without_constructors = sym h.2 ∙ ap (λ (x : SortInfo). x.kind) same_sort ∙ bare.2 in
        cc

pub kind_set : (ss : List SortInfo) (index : List (Option SortId)) (sort : SortId) (d : Kind) → AreLists ss index → IsBare ss sort → (IsListKind d → ⊥) → AreLists (with_kind ss sort.0 d) index
kind_set ss index sort d are bare none e = kind_step ss sort d (record { 0 = e }) (get_or index e None) bare none (are e)

pub entry_set : (es : List SortEntry) (k : ℕ) (kind : SortKind) (e : SortEntry) → e ≡ get_or es k e → sorts_of (set es k (record { kind = kind; name = e.name })) ≡ with_kind (sorts_of es) k (kind_of kind)
entry_set [] k kind e is = refl
entry_set (x ∷ es) zero kind e is = (λ i. record { kind = kind_of kind; name = (is i).name } ∷ sorts_of es)
entry_set (x ∷ es) (suc k) kind e is = ap (λ ss. info_of x ∷ ss) (entry_set es k kind e is)

-- ---- sorts behind that are no list sorts go
read_kept : (n : ℕ) (ss : List SortInfo) (i : ℕ) (x : SortInfo) → i < n → slice_get ss i ≡ Some x → slice_get (take n ss) i ≡ Some x
read_kept zero ss i x l e = absurd (omega (arith, l))
read_kept (suc n) [] i x l e = cc
read_kept (suc n) (s ∷ ss) zero x l e = e
read_kept (suc n) (s ∷ ss) (suc i) x l e = read_kept n ss i x (omega (arith, l)) e

pub below_or_above : (i n : ℕ) → (i < n) ⊎ (n ≤ i)
below_or_above i zero = inr (omega arith)
below_or_above zero (suc n) = inl (omega arith)
below_or_above (suc i) (suc n) = elim (below_or_above i n) [ inl l ↦ inl (omega (arith, l)) | inr l ↦ inr (omega (arith, l)) ]

cut_step : (ss : List SortInfo) (n : ℕ) (e : SortId) (r : Option SortId) → ((i : ℕ) (s : SortInfo) → n ≤ i → slice_get ss i ≡ Some s → IsListKind s.kind → ⊥) → IsTheListOver ss e r → IsTheListOver (take n ss) e r
cut_step ss n e None none h = λ a. h (a.0, (a.1.0, (read_taken n ss a.0 a.1.0 a.1.1).1, a.1.2))
cut_step ss n e (Some l) none h = (h.0, by_place (below_or_above l.0 n), h.2)
  where
    by_place : (l.0 < n) ⊎ (n ≤ l.0) → slice_get (take n ss) l.0 ≡ Some h.0
    by_place (inl b) = read_kept n ss l.0 h.0 b h.1
    by_place (inr b) = absurd (none l.0 h.0 b h.1 (e, h.2))

pub lists_cut : (ss : List SortInfo) (index : List (Option SortId)) (n : ℕ) → AreLists ss index → ((i : ℕ) (s : SortInfo) → n ≤ i → slice_get ss i ≡ Some s → IsListKind s.kind → ⊥) → AreLists (take n ss) index
lists_cut ss index n are none e = cut_step ss n (record { 0 = e }) (get_or index e None) none (are e)

-- behind a signature's sorts stands the abstract one alone
pub abstract_is_no_list : (ss : List SortInfo) (name : NameId) (n : ℕ) → n ≡ length ss → (i : ℕ) (s : SortInfo) → n ≤ i → slice_get (ss ++ abstract_sort name ∷ []) i ≡ Some s → IsListKind s.kind → ⊥
abstract_is_no_list ss name n is i s l at kind = by_place (pushed_by_place ss (abstract_sort name) s i at)
  where
    by_place : (slice_get ss i ≡ Some s) ⊎ ((i ≡ length ss) × (abstract_sort name ≡ s)) → ⊥
    by_place (inl e) = let within = slice_get_within ss i s e in omega (arith, within, l, is)
    by_place (inr e) = kinds_differ kind.0 (ap (λ (x : SortInfo). x.kind) e.1 ∙ kind.1)

pub abstract_is_bare : (ss : List SortInfo) (name : NameId) (sort : SortId) → sort.0 ≡ length ss → IsBare (ss ++ abstract_sort name ∷ []) sort
abstract_is_bare ss name sort e = (abstract_sort name, ap (slice_get (ss ++ abstract_sort name ∷ [])) e ∙ read_last ss (abstract_sort name), refl)
