-- The rows of the language's table stand in a signature, at the sorts where its functions are wanted.
use Rattle.std.proofs.Common.{◌≡◌, ◌<◌, ℕ, zero, suc, ◌⊎◌, inl, inr, Bool, true, false, cond, List, [], ◌∷◌, ◌++◌, map, take, length, get_or, Some, refl, sym, subst, ap, ◌∙◌, arith}
use Rattle.std.specs.Prelude.{slice_get, ◌&&◌, ◌||◌}
use Rattle.std.specs.List.{All, AllByRecursion, Contains, list_all, list_any}
use Rattle.std.proofs.lemmas.Option.{slice_get_within}
use Rattle.std.proofs.lemmas.List.Elements.{All-head, All-tail, Contains-append_left, Contains-append_right, Contains-append_cases}
use Rattle.data_theory.specs.declared.ids.SortId.{SortId}
use Rattle.data_theory.specs.declared.rows.Row.{Row}
use Rattle.data_theory.specs.declared.rows.Row.TheVariants as rows
use Rattle.data_theory.specs.Terms.{Sort, boolean, positive, natural, integer, list}
use Rattle.data_theory.specs.Sorts.{SortInfo, IsListOver}
use Rattle.data_theory.specs.Sorts as kinds
use Rattle.data_theory.specs.Rows.{row_word, row_sorts, row_result}
use Rattle.data_theory.specs.Table.{bool_sort, pos_sort, nat_sort, int_sort, language_table, first_table, first_rows, truth_rows, comparison_rows, sum_rows, quotient_rows, extreme_rows, step_rows, sort_rows, list_rows}
use Rattle.data_theory.specs.Signature.{Sig}
use Rattle.data_theory.specs.WholeSignatures.{IsSignature}
use Rattle.data_theory.specs.IdSorts.{constructions, meaning_of}
use Rattle.data_theory.specs.IdTerms.{sort_under}
use Rattle.data_theory.specs.SignatureLaws.{RowStands}
use Rattle.data_theory.proofs.PlaceLemmas.{contains_read, read_contained}
use Rattle.data_theory.proofs.StandingLemmas.{first_functions_stand, functions_over_sorts_stand, functions_over_lists_stand}
use Rattle.data_theory.proofs.IdSortLemmas.{same_meant_sort, sorts_mean_their_kinds, read_within}
use Rattle.data_theory.proofs.IdSymbolLemmas.{boolean_is, positive_is, natural_is, integer_is}
use Rattle.sort_table.specs.Duplicates.{any_sort, lists_of_any}
use Rattle.data_typing.specs.Typings.{over}
use Rattle.data_typing.specs.FoundRows.{IsFoundRow}
use Rattle.data_typing.specs.BuiltIns.{place_numbered}

-- ---- rows at numbers: s for any sort, and l for the lists over it
put : SortId → SortId → SortId → SortId
put s l i = get_or (bool_sort ∷ pos_sort ∷ nat_sort ∷ int_sort ∷ s ∷ l ∷ []) i.0 s

put_row : SortId → SortId → Row → Row
unfolding put
put_row s l (rows.Constant w to) = rows.Constant w (put s l to)
put_row s l (rows.ListConstant w to) = rows.ListConstant w (put s l to)
put_row s l (rows.One w a to) = rows.One w (put s l a) (put s l to)
put_row s l (rows.Two w a b to) = rows.Two w (put s l a) (put s l b) (put s l to)
put_row s l (rows.Three w a b c to) = rows.Three w (put s l a) (put s l b) (put s l c) (put s l to)

put_word : (s l : SortId) (r : Row) → row_word (put_row s l r) ≡ row_word r
unfolding put_row
put_word s l (rows.Constant w to) = refl
put_word s l (rows.ListConstant w to) = refl
put_word s l (rows.One w a to) = refl
put_word s l (rows.Two w a b to) = refl
put_word s l (rows.Three w a b c to) = refl

put_sorts : (s l : SortId) (r : Row) → row_sorts (put_row s l r) ≡ map (put s l) (row_sorts r)
unfolding put_row
put_sorts s l (rows.Constant w to) = refl
put_sorts s l (rows.ListConstant w to) = refl
put_sorts s l (rows.One w a to) = refl
put_sorts s l (rows.Two w a b to) = refl
put_sorts s l (rows.Three w a b c to) = refl

put_result : (s l : SortId) (r : Row) → row_result (put_row s l r) ≡ put s l (row_result r)
unfolding put_row
put_result s l (rows.Constant w to) = refl
put_result s l (rows.ListConstant w to) = refl
put_result s l (rows.One w a to) = refl
put_result s l (rows.Two w a b to) = refl
put_result s l (rows.Three w a b c to) = refl

abbrev fixed_extremes : List Row
fixed_extremes = extreme_rows ++ step_rows

abbrev fixed_quotients : List Row
fixed_quotients = quotient_rows ++ fixed_extremes

abbrev fixed_first : List Row
fixed_first = first_rows ++ fixed_quotients

abbrev fixed_sums : List Row
fixed_sums = sum_rows ++ fixed_first

abbrev fixed_behind : List Row
fixed_behind = comparison_rows ++ fixed_sums

fixed_rows : List Row
fixed_rows = truth_rows ++ fixed_behind

put_over_sort : (s l : SortId) → map (put_row s l) (sort_rows any_sort) ≡ sort_rows s
unfolding put_row put sort_rows
put_over_sort s l = refl

put_over_lists : (s l : SortId) → map (put_row s l) (list_rows any_sort lists_of_any) ≡ list_rows s l
unfolding put_row put list_rows
put_over_lists s l = refl

put_fixed : (s l : SortId) → map (put_row s l) fixed_rows ≡ fixed_rows
unfolding put_row put fixed_rows truth_rows comparison_rows sum_rows first_rows quotient_rows extreme_rows step_rows
put_fixed s l = refl

contains_mapped : {A B : Type 0} (f : A → B) (xs : List A) (x : A) → Contains xs x → Contains (map f xs) (f x)
contains_mapped {A = A} f xs x c = let (k, at) = read_contained xs x c in contains_read (map f xs) k (f x) (mapped_read xs k at)
  where
    mapped_read : (ys : List A) (k : ℕ) → slice_get ys k ≡ Some x → slice_get (map f ys) k ≡ Some (f x)
    mapped_read [] k e = cc
    mapped_read (y ∷ ys) zero e = let same : y ≡ x = cc in ap (λ z. Some (f z)) same
    mapped_read (y ∷ ys) (suc k) e = mapped_read ys k e

-- where a row of the table comes from
data Source (r : Row) : Type 0 where
  of_fixed : Contains fixed_rows r → Source r
  over_sort : Contains (sort_rows any_sort) r → Source r
  over_list : Contains (list_rows any_sort lists_of_any) r → Source r

abbrev any_lists : List Row
any_lists = list_rows any_sort lists_of_any

abbrev from_steps : List Row
from_steps = step_rows ++ any_lists

abbrev from_extremes : List Row
from_extremes = extreme_rows ++ from_steps

abbrev from_quotients : List Row
from_quotients = quotient_rows ++ from_extremes

abbrev from_first : List Row
from_first = first_rows ++ from_quotients

abbrev from_sums : List Row
from_sums = sum_rows ++ from_first

abbrev from_comparisons : List Row
from_comparisons = comparison_rows ++ from_sums

module _ (r : Row) where
  shifted : (A rest fixed : List Row) → (Contains rest r → Contains fixed r ⊎ Contains any_lists r) → Contains (A ++ rest) r → Contains (A ++ fixed) r ⊎ Contains any_lists r
  shifted A rest fixed f c = elim (Contains-append_cases A rest r c) [
    | inl a ↦ inl (Contains-append_left A fixed r a)
    | inr b ↦ elim (f b) [ inl d ↦ inl (Contains-append_right A fixed r d) | inr x ↦ inr x ]
  ]

  fixed_or_list : Contains from_comparisons r → Contains fixed_behind r ⊎ Contains any_lists r
  fixed_or_list = shifted comparison_rows from_sums fixed_sums (shifted sum_rows from_first fixed_first (shifted first_rows from_quotients fixed_quotients (shifted quotient_rows from_extremes fixed_extremes (shifted extreme_rows from_steps step_rows (Contains-append_cases step_rows any_lists r)))))

  source : Contains (language_table any_sort lists_of_any) r → Source r
  unfolding language_table fixed_rows truth_rows sort_rows list_rows comparison_rows sum_rows first_rows quotient_rows extreme_rows step_rows
  source c =
      elim (Contains-append_cases truth_rows (sort_rows any_sort ++ from_comparisons) r c) [
        | inl a ↦ of_fixed (Contains-append_left truth_rows fixed_behind r a)
        | inr b ↦ elim (Contains-append_cases (sort_rows any_sort) from_comparisons r b) [
          | inl a ↦ over_sort a
          | inr d ↦ elim (fixed_or_list d) [ inl a ↦ of_fixed (Contains-append_right truth_rows fixed_behind r a) | inr x ↦ over_list x ]
        ]
      ]

  -- the fixed rows stand in each signature from the start
  in_table : Contains (comparison_rows ++ (sum_rows ++ fixed_quotients)) r → Contains first_table r
  unfolding first_table first_rows step_rows truth_rows sort_rows comparison_rows sum_rows quotient_rows extreme_rows
  in_table x =
      Contains-append_right first_rows (truth_rows ++ (sort_rows bool_sort ++ (sort_rows pos_sort ++ (sort_rows nat_sort ++ (sort_rows int_sort ++ (comparison_rows ++ (sum_rows ++ fixed_quotients))))))) r
      (Contains-append_right truth_rows (sort_rows bool_sort ++ (sort_rows pos_sort ++ (sort_rows nat_sort ++ (sort_rows int_sort ++ (comparison_rows ++ (sum_rows ++ fixed_quotients)))))) r
      (Contains-append_right (sort_rows bool_sort) (sort_rows pos_sort ++ (sort_rows nat_sort ++ (sort_rows int_sort ++ (comparison_rows ++ (sum_rows ++ fixed_quotients))))) r
      (Contains-append_right (sort_rows pos_sort) (sort_rows nat_sort ++ (sort_rows int_sort ++ (comparison_rows ++ (sum_rows ++ fixed_quotients)))) r
      (Contains-append_right (sort_rows nat_sort) (sort_rows int_sort ++ (comparison_rows ++ (sum_rows ++ fixed_quotients))) r
      (Contains-append_right (sort_rows int_sort) (comparison_rows ++ (sum_rows ++ fixed_quotients)) r x)))))

  truth_in_table : Contains truth_rows r → Contains first_table r
  unfolding first_table first_rows step_rows truth_rows sort_rows comparison_rows sum_rows quotient_rows extreme_rows
  truth_in_table x = Contains-append_right first_rows (truth_rows ++ (sort_rows bool_sort ++ (sort_rows pos_sort ++ (sort_rows nat_sort ++ (sort_rows int_sort ++ (comparison_rows ++ (sum_rows ++ fixed_quotients))))))) r (Contains-append_left truth_rows (sort_rows bool_sort ++ (sort_rows pos_sort ++ (sort_rows nat_sort ++ (sort_rows int_sort ++ (comparison_rows ++ (sum_rows ++ fixed_quotients)))))) r x)

  first_in_table : Contains first_rows r → Contains first_table r
  unfolding first_table first_rows step_rows truth_rows sort_rows comparison_rows sum_rows quotient_rows extreme_rows
  first_in_table x = Contains-append_left first_rows (truth_rows ++ (sort_rows bool_sort ++ (sort_rows pos_sort ++ (sort_rows nat_sort ++ (sort_rows int_sort ++ (comparison_rows ++ (sum_rows ++ fixed_quotients))))))) r x

  fixed_in_table : Contains fixed_rows r → Contains first_table r
  unfolding fixed_rows
  fixed_in_table c =
      elim (Contains-append_cases truth_rows fixed_behind r c) [
        | inl a ↦ truth_in_table a
        | inr b ↦ elim (Contains-append_cases comparison_rows fixed_sums r b) [
          | inl a ↦ in_table (Contains-append_left comparison_rows (sum_rows ++ fixed_quotients) r a)
          | inr d ↦ elim (Contains-append_cases sum_rows fixed_first r d) [
            | inl a ↦ in_table (Contains-append_right comparison_rows (sum_rows ++ fixed_quotients) r (Contains-append_left sum_rows fixed_quotients r a))
            | inr e ↦ elim (Contains-append_cases first_rows fixed_quotients r e) [
              | inl a ↦ first_in_table a
              | inr f ↦ in_table (Contains-append_right comparison_rows (sum_rows ++ fixed_quotients) r (Contains-append_right sum_rows fixed_quotients r f))
            ]
          ]
        ]
      ]

-- ---- tests of rows
abbrev fixed_number : ℕ → Bool
fixed_number zero = true
fixed_number (suc zero) = true
fixed_number (suc (suc zero)) = true
fixed_number (suc (suc (suc zero))) = true
fixed_number (suc (suc (suc (suc n)))) = false

abbrev any_number : ℕ → Bool
any_number zero = false
any_number (suc zero) = false
any_number (suc (suc zero)) = false
any_number (suc (suc (suc zero))) = false
any_number (suc (suc (suc (suc zero)))) = true
any_number (suc (suc (suc (suc (suc n))))) = false

abbrev list_number : ℕ → Bool
list_number zero = false
list_number (suc zero) = false
list_number (suc (suc zero)) = false
list_number (suc (suc (suc zero))) = false
list_number (suc (suc (suc (suc zero)))) = false
list_number (suc (suc (suc (suc (suc zero))))) = true
list_number (suc (suc (suc (suc (suc (suc n)))))) = false

abbrev is_fixed : SortId → Bool
is_fixed i = fixed_number i.0

abbrev is_any : SortId → Bool
is_any i = any_number i.0

abbrev is_list : SortId → Bool
is_list i = list_number i.0

abbrev not_list : SortId → Bool
not_list i = cond (is_list i) false true

abbrev row_is_fixed : Row → Bool
row_is_fixed r = list_all is_fixed (row_sorts r) && is_fixed (row_result r)

abbrev row_is_plain : Row → Bool
row_is_plain r = list_any is_any (row_sorts r) && (list_all not_list (row_sorts r) && not_list (row_result r))

abbrev row_has_list : Row → Bool
row_has_list r = list_any is_list (row_sorts r)

fixed_are_fixed : list_all row_is_fixed fixed_rows ≡ true
unfolding fixed_rows truth_rows comparison_rows sum_rows first_rows quotient_rows extreme_rows step_rows
fixed_are_fixed = refl

plain_are_plain : list_all row_is_plain (sort_rows any_sort) ≡ true
unfolding sort_rows
plain_are_plain = refl

lists_have_lists : list_all row_has_list (list_rows any_sort lists_of_any) ≡ true
unfolding list_rows
lists_have_lists = refl

both_true : (a b : Bool) → (a && b) ≡ true → (a ≡ true) × (b ≡ true)
both_true true b e = (refl, e)
both_true false b e = cc

tested_at : {A : Type 0} (f : A → Bool) (x : A) (xs : List A) → list_all f xs ≡ true → Contains xs x → f x ≡ true
tested_at {A = A} f x xs e c = let (k, at) = read_contained xs x c in by xs k e at
  where
    by : (ys : List A) (k : ℕ) → list_all f ys ≡ true → slice_get ys k ≡ Some x → f x ≡ true
    by [] k e at = cc
    by (y ∷ ys) zero e at = let same : y ≡ x = cc in ap f (sym same) ∙ (both_true (f y) (list_all f ys) e).0
    by (y ∷ ys) (suc k) e at = by ys k (both_true (f y) (list_all f ys) e).1 at

-- ---- numbers of sorts at the places of a row
pub list_kind : (m : SortId → Sort) (d : ℕ) (k : kinds.Kind) (a : Sort) → meaning_of m d k ≡ list a → (e : SortId) × (k ≡ kinds.lists_over e) × (m e ≡ a)
list_kind m d kinds.booleans a h = cc
list_kind m d kinds.positives a h = cc
list_kind m d kinds.naturals a h = cc
list_kind m d kinds.integers a h = cc
list_kind m d (kinds.lists_over e) a h = (e, refl, (let same : m e ≡ a = cc in same))
list_kind m d kinds.without_constructors a h = cc
list_kind m d (kinds.by_declarations fs) a h = cc
list_kind m d (kinds.structured fs) a h = cc

module _ (g : Sig) (stands : IsSignature g) (S : Sort) where
  same_number : (x y : SortId) → x.0 < length g.sorts → y.0 < length g.sorts → (a : Sort) → sort_under g x ≡ a → sort_under g y ≡ a → x ≡ y
  same_number x y l k a e f = same_meant_sort g.sorts stands.table.sorts x y l k (e ∙ sym f)

  bool_there : 0 < length g.sorts
  bool_there = let h = (stands.table.sorts.boolean_first 0).1 refl in slice_get_within g.sorts 0 h.0 h.1

  pos_there : 1 < length g.sorts
  pos_there = let h = (stands.table.sorts.positive_second 1).1 refl in slice_get_within g.sorts 1 h.0 h.1

  nat_there : 2 < length g.sorts
  nat_there = let h = (stands.table.sorts.natural_third 2).1 refl in slice_get_within g.sorts 2 h.0 h.1

  int_there : 3 < length g.sorts
  int_there = let h = (stands.table.sorts.integer_fourth 3).1 refl in slice_get_within g.sorts 3 h.0 h.1

  abbrev IsThere : SortId → Sort → Type 0
  IsThere x a = (x.0 < length g.sorts) × (sort_under g x ≡ a)

  there_within : (x : SortId) (a : Sort) → IsThere x a → x.0 < length g.sorts
  there_within x a h = h.0

  -- what has to be known of a place
  abbrev IsPlaced : SortId → SortId → ℕ → Type 0
  IsPlaced s l zero = Unit {0}
  IsPlaced s l (suc zero) = Unit {0}
  IsPlaced s l (suc (suc zero)) = Unit {0}
  IsPlaced s l (suc (suc (suc zero))) = Unit {0}
  IsPlaced s l (suc (suc (suc (suc zero)))) = (s.0 < length g.sorts) × (sort_under g s ≡ S)
  IsPlaced s l (suc (suc (suc (suc (suc zero))))) = (l.0 < length g.sorts) × (sort_under g l ≡ list S)
  IsPlaced s l (suc (suc (suc (suc (suc (suc n)))))) = (s.0 < length g.sorts) × (sort_under g s ≡ S)

  placed : (s l : SortId) (n : ℕ) (x : SortId) → IsPlaced s l n → x.0 < length g.sorts → sort_under g x ≡ over S (place_numbered (record { 0 = n })) → x ≡ put s l (record { 0 = n })
  unfolding put
  placed s l zero x h k e = same_number x bool_sort k bool_there boolean e (boolean_is g stands.table)
  placed s l (suc zero) x h k e = same_number x pos_sort k pos_there positive e (positive_is g stands.table)
  placed s l (suc (suc zero)) x h k e = same_number x nat_sort k nat_there natural e (natural_is g stands.table)
  placed s l (suc (suc (suc zero))) x h k e = same_number x int_sort k int_there integer e (integer_is g stands.table)
  placed s l (suc (suc (suc (suc zero)))) x h k e = same_number x s k h.0 S e h.1
  placed s l (suc (suc (suc (suc (suc zero))))) x h k e = same_number x l k h.0 (list S) e h.1
  placed s l (suc (suc (suc (suc (suc (suc n)))))) x h k e = same_number x s k h.0 S e h.1

  abbrev ArePlaced : SortId → SortId → List SortId → Type 0
  ArePlaced s l is = AllByRecursion (λ (i : SortId). IsPlaced s l i.0) is

  placed_all : (s l : SortId) (is xs : List SortId) → ArePlaced s l is → All (λ (x : SortId). x.0 < length g.sorts) xs → map (sort_under g) xs ≡ map (over S) (map place_numbered is) → xs ≡ map (put s l) is
  placed_all s l [] [] h all e = refl
  placed_all s l [] (x ∷ xs) h all e = cc
  placed_all s l (i ∷ is) [] h all e = cc
  placed_all s l (i ∷ is) (x ∷ xs) h all e =
      let first : sort_under g x ≡ over S (place_numbered i) = cc in
      let rest : map (sort_under g) xs ≡ map (over S) (map place_numbered is) = cc in
      let here : x ≡ put s l i = placed s l i.0 x h.0 (All-head (λ (y : SortId). y.0 < length g.sorts) x xs all) first in
      ap (λ y. y ∷ xs) here ∙ ap (λ ys. put s l i ∷ ys) (placed_all s l is xs h.1 (All-tail (λ (y : SortId). y.0 < length g.sorts) x xs all) rest)

  fixed_placed : (s l : SortId) (n : ℕ) → fixed_number n ≡ true → IsPlaced s l n
  fixed_placed s l zero e = tt
  fixed_placed s l (suc zero) e = tt
  fixed_placed s l (suc (suc zero)) e = tt
  fixed_placed s l (suc (suc (suc zero))) e = tt
  fixed_placed s l (suc (suc (suc (suc n)))) e = cc

  all_fixed_placed : (s l : SortId) (is : List SortId) → list_all is_fixed is ≡ true → ArePlaced s l is
  all_fixed_placed s l [] e = tt
  all_fixed_placed s l (i ∷ is) e = let b = both_true (is_fixed i) (list_all is_fixed is) e in (fixed_placed s l i.0 b.0, all_fixed_placed s l is b.1)

  plain_placed : (s l : SortId) → IsThere s S → (n : ℕ) → cond (list_number n) false true ≡ true → IsPlaced s l n
  plain_placed s l h zero e = tt
  plain_placed s l h (suc zero) e = tt
  plain_placed s l h (suc (suc zero)) e = tt
  plain_placed s l h (suc (suc (suc zero))) e = tt
  plain_placed s l h (suc (suc (suc (suc zero)))) e = h
  plain_placed s l h (suc (suc (suc (suc (suc zero))))) e = cc
  plain_placed s l h (suc (suc (suc (suc (suc (suc n)))))) e = h

  all_plain_placed : (s l : SortId) → IsThere s S → (is : List SortId) → list_all not_list is ≡ true → ArePlaced s l is
  all_plain_placed s l h [] e = tt
  all_plain_placed s l h (i ∷ is) e = let b = both_true (not_list i) (list_all not_list is) e in (plain_placed s l h i.0 b.0, all_plain_placed s l h is b.1)

  each_placed : (s l : SortId) → IsThere s S → IsThere l (list S) → (n : ℕ) → IsPlaced s l n
  each_placed s l h k zero = tt
  each_placed s l h k (suc zero) = tt
  each_placed s l h k (suc (suc zero)) = tt
  each_placed s l h k (suc (suc (suc zero))) = tt
  each_placed s l h k (suc (suc (suc (suc zero)))) = h
  each_placed s l h k (suc (suc (suc (suc (suc zero))))) = k
  each_placed s l h k (suc (suc (suc (suc (suc (suc n)))))) = h

  all_placed : (s l : SortId) → IsThere s S → IsThere l (list S) → (is : List SortId) → ArePlaced s l is
  all_placed s l h k [] = tt
  all_placed s l h k (i ∷ is) = (each_placed s l h k i.0, all_placed s l h k is)

  -- a sort that the row wants is there
  any_there : (is xs : List SortId) → list_any is_any is ≡ true → All (λ (x : SortId). x.0 < length g.sorts) xs → map (sort_under g) xs ≡ map (over S) (map place_numbered is) → (x : SortId) × IsThere x S
  any_there [] xs t all e = cc
  any_there (i ∷ is) [] t all e = cc
  any_there (i ∷ is) (x ∷ xs) t all e =
      let first : sort_under g x ≡ over S (place_numbered i) = cc in
      let rest : map (sort_under g) xs ≡ map (over S) (map place_numbered is) = cc in
      by (λ q r. any_there is xs q (All-tail (λ (y : SortId). y.0 < length g.sorts) x xs all) r) i.0 t first rest
    where
      by : (list_any is_any is ≡ true → map (sort_under g) xs ≡ map (over S) (map place_numbered is) → (y : SortId) × IsThere y S) → (n : ℕ) → (any_number n || list_any is_any is) ≡ true → sort_under g x ≡ over S (place_numbered (record { 0 = n })) → map (sort_under g) xs ≡ map (over S) (map place_numbered is) → (y : SortId) × IsThere y S
      by later (suc (suc (suc (suc zero)))) q f r = (x, (All-head (λ (y : SortId). y.0 < length g.sorts) x xs all, f))
      by later zero q f r = later q r
      by later (suc zero) q f r = later q r
      by later (suc (suc zero)) q f r = later q r
      by later (suc (suc (suc zero))) q f r = later q r
      by later (suc (suc (suc (suc (suc n))))) q f r = later q r

  list_there : (is xs : List SortId) → list_any is_list is ≡ true → All (λ (x : SortId). x.0 < length g.sorts) xs → map (sort_under g) xs ≡ map (over S) (map place_numbered is) → (x : SortId) × IsThere x (list S)
  list_there [] xs t all e = cc
  list_there (i ∷ is) [] t all e = cc
  list_there (i ∷ is) (x ∷ xs) t all e =
      let first : sort_under g x ≡ over S (place_numbered i) = cc in
      let rest : map (sort_under g) xs ≡ map (over S) (map place_numbered is) = cc in
      by (λ q r. list_there is xs q (All-tail (λ (y : SortId). y.0 < length g.sorts) x xs all) r) i.0 t first rest
    where
      by : (list_any is_list is ≡ true → map (sort_under g) xs ≡ map (over S) (map place_numbered is) → (y : SortId) × IsThere y (list S)) → (n : ℕ) → (list_number n || list_any is_list is) ≡ true → sort_under g x ≡ over S (place_numbered (record { 0 = n })) → map (sort_under g) xs ≡ map (over S) (map place_numbered is) → (y : SortId) × IsThere y (list S)
      by later (suc (suc (suc (suc (suc zero))))) q f r = (x, (All-head (λ (y : SortId). y.0 < length g.sorts) x xs all, f))
      by later zero q f r = later q r
      by later (suc zero) q f r = later q r
      by later (suc (suc zero)) q f r = later q r
      by later (suc (suc (suc zero))) q f r = later q r
      by later (suc (suc (suc (suc zero)))) q f r = later q r
      by later (suc (suc (suc (suc (suc (suc n)))))) q f r = later q r

  -- the element of a list sort
  element_there : (l : SortId) → IsThere l (list S) → (e : SortId) × IsListOver g.sorts e l × IsThere e S
  element_there l h =
      let (s, at) = read_within g.sorts l.0 h.0 in
      let (e, kind, is) = list_kind (sort_under g) (length (constructions (take l.0 g.sorts))) s.kind S (sym (sorts_mean_their_kinds g.sorts stands.table.sorts l s at) ∙ h.1) in
      let over' : IsListOver g.sorts e l = (s, at, kind) in
      let front = stands.table.sorts.behind_element e l over' in
      let less : e.0 < length g.sorts = omega (arith, front, h.0) in
      (e, over', (less, is))

  found_by : (s l : SortId) (r : Row) (xs : List SortId) (to : SortId) → ArePlaced s l (row_sorts r) → IsPlaced s l (row_result r).0 → All (λ (x : SortId). x.0 < length g.sorts) xs → to.0 < length g.sorts
      → map (sort_under g) xs ≡ map (over S) (map place_numbered (row_sorts r)) → sort_under g to ≡ over S (place_numbered (row_result r)) → RowStands g (put_row s l r) → IsFoundRow g (row_word r) xs to
  found_by s l r xs to h k all less e f st = record {
    row = put_row s l r;
    stands = st;
    word = put_word s l r;
    arguments = put_sorts s l r ∙ sym (placed_all s l (row_sorts r) xs h all e);
    result = put_result s l r ∙ sym (placed s l (row_result r).0 to k less f);
  }

  pub row_is_found : (r : Row) → Contains (language_table any_sort lists_of_any) r → (xs : List SortId) (to : SortId) → All (λ (x : SortId). x.0 < length g.sorts) xs → to.0 < length g.sorts
      → map (sort_under g) xs ≡ map (over S) (map place_numbered (row_sorts r)) → sort_under g to ≡ over S (place_numbered (row_result r)) → IsFoundRow g (row_word r) xs to
  row_is_found r c xs to all less e f = by (source r c)
    where
      by : Source r → IsFoundRow g (row_word r) xs to
      by (of_fixed a) =
          let t = both_true (list_all is_fixed (row_sorts r)) (is_fixed (row_result r)) (tested_at row_is_fixed r fixed_rows fixed_are_fixed a) in
          let here : Contains fixed_rows (put_row bool_sort bool_sort r) = subst (λ rs. Contains rs (put_row bool_sort bool_sort r)) (put_fixed bool_sort bool_sort) (contains_mapped (put_row bool_sort bool_sort) fixed_rows r a) in
          let at = read_contained first_table (put_row bool_sort bool_sort r) (fixed_in_table (put_row bool_sort bool_sort r) here) in
          found_by bool_sort bool_sort r xs to (all_fixed_placed bool_sort bool_sort (row_sorts r) t.0) (fixed_placed bool_sort bool_sort (row_result r).0 t.1) all less e f (at.0, first_functions_stand g stands at.0 (put_row bool_sort bool_sort r) at.1)
      by (over_sort a) =
          let t = both_true (list_any is_any (row_sorts r)) (list_all not_list (row_sorts r) && not_list (row_result r)) (tested_at row_is_plain r (sort_rows any_sort) plain_are_plain a) in
          let u = both_true (list_all not_list (row_sorts r)) (not_list (row_result r)) t.1 in
          let (s, there) = any_there (row_sorts r) xs t.0 all e in
          let here : Contains (sort_rows s) (put_row s s r) = subst (λ rs. Contains rs (put_row s s r)) (put_over_sort s s) (contains_mapped (put_row s s) (sort_rows any_sort) r a) in
          found_by s s r xs to (all_plain_placed s s there (row_sorts r) u.0) (plain_placed s s there (row_result r).0 u.1) all less e f (functions_over_sorts_stand g stands s (there_within s S there) (put_row s s r) here)
      by (over_list a) =
          let t : row_has_list r ≡ true = tested_at row_has_list r (list_rows any_sort lists_of_any) lists_have_lists a in
          let (l, is) = list_there (row_sorts r) xs t all e in
          let (s, o, there) = element_there l is in
          let here : Contains (list_rows s l) (put_row s l r) = subst (λ rs. Contains rs (put_row s l r)) (put_over_lists s l) (contains_mapped (put_row s l) (list_rows any_sort lists_of_any) r a) in
          found_by s l r xs to (all_placed s l there is (row_sorts r)) (each_placed s l there is (row_result r).0) all less e f (functions_over_lists_stand g stands s l o (put_row s l r) here)
