-- What words mean by a vocabulary has the sorts that it says.
use Rattle.std.proofs.Common.{◌≡◌, ◌<◌, ℕ, zero, suc, Bool, true, false, cond, List, [], ◌∷◌, ◌++◌, length, map, refl, sym, subst, ap, ◌∙◌, arith}
use Rattle.std.specs.Prelude.{Option, Some, None, slice_get}
use Rattle.std.specs.List.{All, AllByRecursion, Contains, filter, list_any}
use Rattle.std.proofs.lemmas.Option.{none-some, same_Some}
use Rattle.std.proofs.lemmas.List.Elements.{All-append, All-contains, All-filter, All-weaker, All-contains_itself, Contains-append_left, Contains-append_right, recursion_from_All}
use Rattle.data_theory.specs.declared.ids.SortId.{SortId}
use Rattle.data_theory.specs.declared.rows.Row.{Row}
use Rattle.data_theory.specs.Terms.{Sort, boolean, list}
use Rattle.data_theory.specs.Declarations.{Data, IsSort, IsSymbol, argument_sorts, result_sort, Declares}
use Rattle.data_theory.specs.Sorts.{booleans, positives, naturals, integers, lists_over, without_constructors, SortInfo, first_sorts, abstract_sort, list_sort, IsListOver}
use Rattle.data_theory.specs.Rows.{row_word, row_sorts, row_result, row_is_list_constant}
use Rattle.data_theory.specs.IdSymbols.{word_symbol}
use Rattle.data_theory.specs.RowsOfWords.{has_name}
use Rattle.data_theory.specs.Table.{first_rows, truth_rows, comparison_rows, sum_rows, quotient_rows, extreme_rows, step_rows, sort_rows, list_rows, first_table, language_table, bool_sort, pos_sort, nat_sort, int_sort}
use Rattle.data_theory.specs.IdTables.{IsRow, of_front, over_sort, over_list}
use Rattle.data_theory.proofs.IdRowLemmas.{Tells, RowTells, row_tells}
use Rattle.sort_table.specs.Expressions.{Name}
use Rattle.sort_table.specs.NamedLists.{all_named, first_named}
use Rattle.sort_table.specs.Duplicates.{any_sort, lists_of_any}
use Rattle.sort_table.specs.Vocabularies.{Vocabulary}
use Rattle.data_typing.specs.Typings.{over, Scheme, Meaning, functions}
use Rattle.data_typing.specs.BuiltIns.{place_numbered, hangs, row_places, is_over_any, is_settled, row_scheme, row_signature, named_rows, built_ins, scheme_named}
use Rattle.data_typing.specs.Meanings.{Bound, Scope, bound_row, declared_signature, meaning_or, meaning}
use Rattle.data_typing.specs.TypingLaws.{IsOverData, IsScope, InferredTermsHaveTheirSorts, CheckedTermsHaveTheSort}
use Rattle.data_typing.proofs.NamedParts.{all_mapped, all_appended, all_named_are, first_named_is}
use Rattle.data_typing.proofs.TypingSorts.{IsSoundSignature, IsSoundScheme, IsSoundMeaning, typing_is_sound}

-- ---- the rows of the table over any sort S, as those over a table of sorts with S and the lists over it
abbrev sort_numbered : Sort → SortId → Sort
sort_numbered s i = over s (place_numbered i)

any_sorts : List SortInfo
any_sorts = first_sorts ++ abstract_sort (record { 0 = 0 }) ∷ list_sort any_sort ∷ []

over_any : (n : ℕ) (e : SortId) (i : SortInfo) → slice_get any_sorts n ≡ Some i → i.kind ≡ lists_over e → (n ≡ 5) × (any_sort ≡ e)
unfolding any_sorts
over_any zero e i at kind = absurd (let never : booleans ≡ lists_over e = ap (λ (x : SortInfo). x.kind) (same_Some _ _ at) ∙ kind in cc)
over_any (suc zero) e i at kind = absurd (let never : positives ≡ lists_over e = ap (λ (x : SortInfo). x.kind) (same_Some _ _ at) ∙ kind in cc)
over_any (suc (suc zero)) e i at kind = absurd (let never : naturals ≡ lists_over e = ap (λ (x : SortInfo). x.kind) (same_Some _ _ at) ∙ kind in cc)
over_any (suc (suc (suc zero))) e i at kind = absurd (let never : integers ≡ lists_over e = ap (λ (x : SortInfo). x.kind) (same_Some _ _ at) ∙ kind in cc)
over_any (suc (suc (suc (suc zero)))) e i at kind = absurd (let never : without_constructors ≡ lists_over e = ap (λ (x : SortInfo). x.kind) (same_Some _ _ at) ∙ kind in cc)
over_any (suc (suc (suc (suc (suc zero))))) e i at kind = (refl, let same : lists_over any_sort ≡ lists_over e = ap (λ (x : SortInfo). x.kind) (same_Some _ _ at) ∙ kind in cc)
over_any (suc (suc (suc (suc (suc (suc n)))))) e i at kind = absurd (none-some i at)

list_is : (s : Sort) (e l : SortId) → IsListOver any_sorts e l → sort_numbered s l ≡ list (sort_numbered s e)
list_is s e l (i, at, kind) =
    let both : (l.0 ≡ 5) × (any_sort ≡ e) = over_any l.0 e i at kind in
    ap (λ n. sort_numbered s (record { 0 = n })) both.0 ∙ ap (λ x. list (sort_numbered s x)) both.1

element_is : (e l : SortId) → IsListOver any_sorts e l → e.0 < length any_sorts
unfolding any_sorts
element_is e l (i, at, kind) = subst (λ (x : SortId). x.0 < length any_sorts) (over_any l.0 e i at kind).1 (let less : 4 < 6 = omega arith in less)

sort_is : (g : Data) (s : Sort) → IsSort g s → (n : ℕ) → IsSort g (sort_numbered s (record { 0 = n }))
sort_is g s h zero = tt
sort_is g s h (suc zero) = tt
sort_is g s h (suc (suc zero)) = tt
sort_is g s h (suc (suc (suc zero))) = tt
sort_is g s h (suc (suc (suc (suc zero)))) = h
sort_is g s h (suc (suc (suc (suc (suc zero))))) = h
sort_is g s h (suc (suc (suc (suc (suc (suc n)))))) = h

abbrev IsItsRow : Row → Type 0
IsItsRow = IsRow any_sorts

in_front : (xs : List Row) → ((r : Row) → Contains xs r → Contains first_table r) → All IsItsRow xs
in_front xs k = All-weaker (Contains xs) IsItsRow (λ r c. of_front (k r c)) xs (All-contains_itself xs)

at_step : (r : Row) → Contains step_rows r → Contains first_table r
unfolding first_table
at_step r c = Contains-append_right _ step_rows r c

at_extreme : (r : Row) → Contains extreme_rows r → Contains first_table r
unfolding first_table
at_extreme r c = Contains-append_left _ step_rows r (Contains-append_right _ extreme_rows r c)

at_quotient : (r : Row) → Contains quotient_rows r → Contains first_table r
unfolding first_table
at_quotient r c = Contains-append_left _ step_rows r (Contains-append_left _ extreme_rows r (Contains-append_right _ quotient_rows r c))

before_quotients : (r : Row) → Contains (first_rows ++ truth_rows ++ sort_rows bool_sort ++ sort_rows pos_sort ++ sort_rows nat_sort ++ sort_rows int_sort ++ comparison_rows ++ sum_rows) r → Contains first_table r
unfolding first_table
before_quotients r c = Contains-append_left _ step_rows r (Contains-append_left _ extreme_rows r (Contains-append_left _ quotient_rows r c))

at_sum : (r : Row) → Contains sum_rows r → Contains first_table r
at_sum r c = before_quotients r (Contains-append_right _ sum_rows r c)

at_comparison : (r : Row) → Contains comparison_rows r → Contains first_table r
at_comparison r c = before_quotients r (Contains-append_left _ sum_rows r (Contains-append_right _ comparison_rows r c))

before_sorts : (r : Row) → Contains (first_rows ++ truth_rows) r → Contains first_table r
before_sorts r c =
    before_quotients r (Contains-append_left _ sum_rows r (Contains-append_left _ comparison_rows r
    (Contains-append_left _ (sort_rows int_sort) r (Contains-append_left _ (sort_rows nat_sort) r (Contains-append_left _ (sort_rows pos_sort) r (Contains-append_left _ (sort_rows bool_sort) r c))))))

at_truth : (r : Row) → Contains truth_rows r → Contains first_table r
at_truth r c = before_sorts r (Contains-append_right first_rows truth_rows r c)

at_first : (r : Row) → Contains first_rows r → Contains first_table r
at_first r c = before_sorts r (Contains-append_left first_rows truth_rows r c)

over_any_sort : All IsItsRow (sort_rows any_sort)
unfolding any_sorts
over_any_sort = All-weaker (Contains (sort_rows any_sort)) IsItsRow (λ r c. over_sort any_sort (let less : 4 < 6 = omega arith in less) c) (sort_rows any_sort) (All-contains_itself (sort_rows any_sort))

over_its_lists : All IsItsRow (list_rows any_sort lists_of_any)
unfolding any_sorts
over_its_lists = All-weaker (Contains (list_rows any_sort lists_of_any)) IsItsRow (λ r c. over_list any_sort lists_of_any (list_sort any_sort, refl, refl) c) (list_rows any_sort lists_of_any) (All-contains_itself (list_rows any_sort lists_of_any))

all_rows : All IsItsRow (language_table any_sort lists_of_any)
unfolding language_table
all_rows =
    All-append IsItsRow _ (list_rows any_sort lists_of_any)
    (All-append IsItsRow _ step_rows
    (All-append IsItsRow _ extreme_rows
    (All-append IsItsRow _ quotient_rows
    (All-append IsItsRow _ first_rows
    (All-append IsItsRow _ sum_rows
    (All-append IsItsRow _ comparison_rows
    (All-append IsItsRow truth_rows (sort_rows any_sort) (in_front truth_rows at_truth) over_any_sort)
    (in_front comparison_rows at_comparison))
    (in_front sum_rows at_sum))
    (in_front first_rows at_first))
    (in_front quotient_rows at_quotient))
    (in_front extreme_rows at_extreme))
    (in_front step_rows at_step))
    over_its_lists

-- ---- built-in functions
places_numbered : (s : Sort) (is : List SortId) → map (over s) (map place_numbered is) ≡ map (sort_numbered s) is
places_numbered s [] = refl
places_numbered s (i ∷ is) = ap (λ ss. sort_numbered s i ∷ ss) (places_numbered s is)

are_sorts : (g : Data) (s : Sort) → IsSort g s → (is : List SortId) → AllByRecursion (IsSort g) (map (sort_numbered s) is)
are_sorts g s h [] = tt
are_sorts g s h (i ∷ is) = (sort_is g s h i.0, are_sorts g s h is)

-- what the symbol of a row at a sort S tells of the row's sorts
pub any_row_tells : (g : Data) (s : Sort) → IsSort g s → (r : Row) → Contains (language_table any_sort lists_of_any) r
    → Tells g (row_word r) (map (over s) (row_places r)) (row_is_list_constant r) (over s (place_numbered (row_result r))) (word_symbol (row_word r) (map (over s) (row_places r)) (over s (place_numbered (row_result r))))
any_row_tells g s h r stands =
    let is : IsItsRow r = All-contains IsItsRow (language_table any_sort lists_of_any) r all_rows stands in
    let tells : RowTells g (sort_numbered s) r = row_tells g any_sorts (sort_numbered s) refl refl refl refl (list_is s) (λ i less. sort_is g s h i.0) element_is r is in
    let to : Sort = sort_numbered s (row_result r) in
    subst (λ ss. Tells g (row_word r) ss (row_is_list_constant r) to (word_symbol (row_word r) ss to)) (sym (places_numbered s (row_sorts r))) tells

row_is_sound : (g : Data) (r : Row) → IsItsRow r → row_is_list_constant r ≡ false → IsSoundScheme g (row_scheme r)
row_is_sound g r is called s h =
    let tells : RowTells g (sort_numbered s) r = row_tells g any_sorts (sort_numbered s) refl refl refl refl (list_is s) (λ i less. sort_is g s h i.0) element_is r is in
    let to : Sort = sort_numbered s (row_result r) in
    let same : map (over s) (row_places r) ≡ map (sort_numbered s) (row_sorts r) = places_numbered s (row_sorts r) in
    let symbol : word_symbol (row_word r) (map (over s) (row_places r)) to ≡ word_symbol (row_word r) (map (sort_numbered s) (row_sorts r)) to = ap (λ ss. word_symbol (row_word r) ss to) same in
    record {
      symbol = subst (IsSymbol g) (sym symbol) tells.3;
      arguments = same ∙ sym (ap (argument_sorts g) symbol ∙ tells.4 ∙ ap (λ b. cond b [] (map (sort_numbered s) (row_sorts r))) called);
      result = sym (ap (result_sort g) symbol ∙ tells.5);
      argument_sorts_are = subst (AllByRecursion (IsSort g)) (sym same) (are_sorts g s h (row_sorts r));
      result_is = sort_is g s h (row_result r).0;
    }

no_constant : (b c : Bool) → cond b false c ≡ true → b ≡ false
no_constant true c e = cc
no_constant false c e = refl

if_kept : (P : Row → Type 0) (b : Bool) (x : Row) (xs : List Row) → (b ≡ true → P x) → AllByRecursion P xs → AllByRecursion P (cond b (x ∷ xs) xs)
if_kept P true x xs k all = (k refl, all)
if_kept P false x xs k all = all

kept_are : (P Q : Row → Type 0) (p : Row → Bool) → ((r : Row) → P r → p r ≡ true → Q r) → (rs : List Row) → AllByRecursion P rs → AllByRecursion Q (filter p rs)
kept_are P Q p k [] all = tt
kept_are P Q p k (r ∷ rs) all = if_kept Q (p r) r (filter p rs) (k r all.0) (kept_are P Q p k rs all.1)

named_are_rows : (f : Name) → All IsItsRow (named_rows f)
named_are_rows f = All-filter (has_name f) IsItsRow (language_table any_sort lists_of_any) all_rows

named_each : (f : Name) → AllByRecursion IsItsRow (named_rows f)
named_each f = recursion_from_All IsItsRow (named_rows f) (named_are_rows f)

built_ins_are_sound : (g : Data) (f : Name) → AllByRecursion (IsSoundSignature g) (built_ins f)
built_ins_are_sound g f =
    all_mapped (IsSoundSignature g) row_signature (filter is_settled (named_rows f))
    (kept_are IsItsRow (λ r. IsSoundSignature g (row_signature r)) is_settled
    (λ r is e. row_is_sound g r is (no_constant (row_is_list_constant r) (cond (list_any hangs (row_places r)) false true) e) boolean tt) (named_rows f) (named_each f))

first_is_sound : (g : Data) (rs : List Row) → AllByRecursion (λ r. IsSoundScheme g (row_scheme r)) rs → (c : Scheme) → slice_get (map row_scheme rs) 0 ≡ Some c → IsSoundScheme g c
first_is_sound g [] all c e = absurd (none-some c e)
first_is_sound g (r ∷ rs) all c e = subst (IsSoundScheme g) (same_Some _ _ e) all.0

scheme_is_sound : (g : Data) (f : Name) (c : Scheme) → scheme_named f ≡ Some c → IsSoundScheme g c
scheme_is_sound g f c e =
    first_is_sound g (filter is_over_any (named_rows f))
    (kept_are IsItsRow (λ r. IsSoundScheme g (row_scheme r)) is_over_any
    (λ r is e. row_is_sound g r is (no_constant (row_is_list_constant r) (list_any hangs (row_places r)) e)) (named_rows f) (named_each f)) c e

-- ---- declared functions
abbrev IsOfFunction : Data → ℕ → Type 0
IsOfFunction g k = IsSoundSignature g (declared_signature g k)

declared_is_sound : (v : Vocabulary) → IsOverData v → (k : ℕ) → k < length v.tables.functions → IsOfFunction v.tables k
declared_is_sound v is k less = record {
  symbol = less;
  arguments = refl;
  result = refl;
  argument_sorts_are = recursion_from_All (IsSort v.tables) (declared_signature v.tables k).arguments (is.data_are.arguments k less);
  result_is = is.data_are.results k less;
}

declared_are_sound : (v : Vocabulary) → IsOverData v → (ks : List ℕ) → AllByRecursion (λ k. k < length v.tables.functions) ks → AllByRecursion (IsOfFunction v.tables) ks
declared_are_sound v is [] all = tt
declared_are_sound v is (k ∷ ks) all = (declared_is_sound v is k all.0, declared_are_sound v is ks all.1)

-- ---- words
abbrev IsSoundBound : Data → List Sort → Bound → Type 0
IsSoundBound g vs b = Declares vs b.number b.sort × IsSort g b.sort

meaning_or_is_sound : (g : Data) (vs : List Sort) (m : Meaning) (o : Option Bound) → IsSoundMeaning g vs m → ((b : Bound) → o ≡ Some b → IsSoundBound g vs b) → IsSoundMeaning g vs (meaning_or m o)
meaning_or_is_sound g vs m None h k = h
meaning_or_is_sound g vs m (Some b) h k = k b refl

pub meaning_is_sound : (v : Vocabulary) (vs : List Sort) (scope : Scope) → IsOverData v → IsScope v.tables vs scope → (f : Name) → IsSoundMeaning v.tables vs (meaning v scope f)
meaning_is_sound v vs scope is h f =
    let ks : List ℕ = all_named f v.function_names in
    let declared : AllByRecursion (IsSoundSignature v.tables) (map (declared_signature v.tables) ks) =
    all_mapped (IsSoundSignature v.tables) (declared_signature v.tables) ks (declared_are_sound v is ks (all_named_are (λ k. k < length v.tables.functions) f v.function_names is.numbers)) in
    meaning_or_is_sound v.tables vs (functions (built_ins f ++ map (declared_signature v.tables) ks) (scheme_named f)) (first_named f (map bound_row scope))
    (all_appended (IsSoundSignature v.tables) (built_ins f) (map (declared_signature v.tables) ks) (built_ins_are_sound v.tables f) declared, scheme_is_sound v.tables f)
    (first_named_is (IsSoundBound v.tables vs) f (map bound_row scope) (all_mapped (λ r. IsSoundBound v.tables vs r.1) bound_row scope h))

-- ---- the laws
pub inferred_terms_have_their_sorts : InferredTermsHaveTheirSorts
inferred_terms_have_their_sorts v vs scope is h e small t s q = (typing_is_sound v.tables vs (meaning v scope) (meaning_is_sound v vs scope is h) e small).infers (record { term = t; sort = s }) q

pub checked_terms_have_the_sort : CheckedTermsHaveTheSort
checked_terms_have_the_sort v vs scope is h e small s t so q = (typing_is_sound v.tables vs (meaning v scope) (meaning_is_sound v vs scope is h) e small).checks s t so q
