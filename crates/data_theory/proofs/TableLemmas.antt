-- The table of built-in functions: its names are there, and no two rows make one key.
use Rattle.std.proofs.Common.{◌≡◌, ◌==◌, ℕ, zero, suc, ◌<◌, List, [], ◌∷◌, ◌++◌, map, length, get_or, Bool, true, false, ◌&&◌, ◌≤◌, Option, Some, refl, sym, ap, ◌∙◌, subst, arith, lit<}
use Rattle.std.specs.Prelude.{slice_get, bytes_eq, not, nat_lt, IfSome}
use Rattle.std.specs.List.{All, AllByRecursion as ByRecursion, Contains, list_all}
use Rattle.std.proofs.lemmas.Bool.Decides.{Decides-eqb, Decides-ltb}
use Rattle.std.proofs.lemmas.Slice.Eq.{bytes_eq-Decides}
use Rattle.std.proofs.lemmas.List.Sums.{AllPass-from_list_all}
use Rattle.std.proofs.lemmas.List.Elements.{Contains-append_right, All-from_recursion, All-nil, All-head, All-tail, All-map, All-weaker, All-append, All-contains}
use Rattle.data_theory.specs.declared.ids.SortId.{SortId}
use Rattle.data_theory.specs.declared.ids.FunId.{FunId}
use Rattle.data_theory.specs.declared.words.NumberWord.TheVariants as numbers
use Rattle.data_theory.specs.declared.words.ListWord.TheVariants as lists
use Rattle.data_theory.specs.declared.words.Word.{Word}
use Rattle.data_theory.specs.declared.words.Word.TheVariants as words
use Rattle.data_theory.specs.declared.rows.Row.{Row}
use Rattle.data_theory.specs.declared.rows.Row.TheVariants.{Constant, ListConstant, One, Two, Three}
use Rattle.data_theory.specs.Places.{HaveOnePlace}
use Rattle.data_theory.specs.Names.{with_texts}
use Rattle.data_theory.specs.Words.{text_of}
use Rattle.data_theory.specs.Keys.{Key}
use Rattle.data_theory.specs.Functions.{Function, key_of, HasKey, AreNew}
use Rattle.data_theory.specs.Rows.{row_word, row_text, row_sorts, row_result, built_in, built_ins, AreNamed}
use Rattle.data_theory.specs.Table.{first_rows, truth_rows, sort_rows, comparison_rows, sum_rows, quotient_rows, extreme_rows, step_rows, list_rows, first_table, list_table}
use Rattle.data_theory.specs.FirstNames.{reserved_words, built_in_names, first_names}
use Rattle.data_theory.specs.Complete.{IsFunctionWithin}
use Rattle.data_theory.proofs.NameLemmas.{has_texts, places_differ, place_within}
use Rattle.data_theory.proofs.PlaceLemmas.{contains_read}
use Rattle.data_theory.proofs.FunctionLemmas.{read_mapped}

-- ---- each word is among the names that a signature begins with
is_built_in_name : (w : Word) → Contains built_in_names (text_of w)
unfolding built_in_names first_table first_rows truth_rows sort_rows comparison_rows sum_rows quotient_rows extreme_rows step_rows list_rows
is_built_in_name words.True = (6, lit< tt, refl)
is_built_in_name words.False = (7, lit< tt, refl)
is_built_in_name words.Not = (8, lit< tt, refl)
is_built_in_name words.And = (9, lit< tt, refl)
is_built_in_name words.Or = (10, lit< tt, refl)
is_built_in_name words.Implies = (11, lit< tt, refl)
is_built_in_name words.Equal = (12, lit< tt, refl)
is_built_in_name words.Different = (13, lit< tt, refl)
is_built_in_name words.If = (14, lit< tt, refl)
is_built_in_name words.Less = (24, lit< tt, refl)
is_built_in_name words.AtMost = (27, lit< tt, refl)
is_built_in_name words.Greater = (30, lit< tt, refl)
is_built_in_name words.AtLeast = (33, lit< tt, refl)
is_built_in_name (words.Number numbers.Plus) = (36, lit< tt, refl)
is_built_in_name (words.Number numbers.Minus) = (0, lit< tt, refl)
is_built_in_name (words.Number numbers.Times) = (44, lit< tt, refl)
is_built_in_name (words.Number numbers.Div) = (47, lit< tt, refl)
is_built_in_name (words.Number numbers.Mod) = (49, lit< tt, refl)
is_built_in_name (words.Number numbers.Exp) = (51, lit< tt, refl)
is_built_in_name (words.Number numbers.Min) = (54, lit< tt, refl)
is_built_in_name (words.Number numbers.Max) = (57, lit< tt, refl)
is_built_in_name (words.Number numbers.Abs) = (60, lit< tt, refl)
is_built_in_name (words.Number numbers.Succ) = (61, lit< tt, refl)
is_built_in_name (words.Number numbers.Pred) = (64, lit< tt, refl)
is_built_in_name (words.Number numbers.PosToNat) = (3, lit< tt, refl)
is_built_in_name (words.Number numbers.NatToInt) = (4, lit< tt, refl)
is_built_in_name (words.Number numbers.PosToInt) = (5, lit< tt, refl)
is_built_in_name (words.Number numbers.NatToPos) = (67, lit< tt, refl)
is_built_in_name (words.Number numbers.IntToNat) = (68, lit< tt, refl)
is_built_in_name (words.Number numbers.IntToPos) = (69, lit< tt, refl)
is_built_in_name (words.List lists.Empty) = (70, lit< tt, refl)
is_built_in_name (words.List lists.Cons) = (71, lit< tt, refl)
is_built_in_name (words.List lists.Snoc) = (72, lit< tt, refl)
is_built_in_name (words.List lists.Concat) = (73, lit< tt, refl)
is_built_in_name (words.List lists.Size) = (74, lit< tt, refl)
is_built_in_name (words.List lists.At) = (75, lit< tt, refl)
is_built_in_name (words.List lists.Head) = (76, lit< tt, refl)
is_built_in_name (words.List lists.Rhead) = (77, lit< tt, refl)
is_built_in_name (words.List lists.Tail) = (78, lit< tt, refl)
is_built_in_name (words.List lists.Rtail) = (79, lit< tt, refl)
is_built_in_name (words.List lists.In) = (80, lit< tt, refl)

abbrev pub HasWords : List (List ℕ) → Type 0
HasWords texts = (w : Word) → Contains texts (text_of w)

pub is_first_name : (w : Word) → Contains first_names (text_of w)
unfolding first_names
is_first_name w = Contains-append_right reserved_words built_in_names (text_of w) (is_built_in_name w)

pub first_has_words : (given : List (List ℕ)) → HasWords (with_texts given first_names)
first_has_words given w = has_texts given first_names (text_of w) (is_first_name w)

pub are_named : (texts : List (List ℕ)) → HasWords texts → (rows : List Row) → AreNamed texts rows
are_named texts has rows k d l = has (row_word (get_or rows k d))

-- ---- no two rows of a table make one key
pub same_sorts : List SortId → List SortId → Bool
same_sorts [] [] = true
same_sorts [] (y ∷ ys) = false
same_sorts (x ∷ xs) [] = false
same_sorts (x ∷ xs) (y ∷ ys) = (x.0 == y.0) && same_sorts xs ys

abbrev same_row : Row → Row → Bool
same_row r q = bytes_eq (row_text r) (row_text q) && same_sorts (row_sorts r) (row_sorts q)

abbrev are_unlike : List Row → Bool
are_unlike [] = true
are_unlike (r ∷ rs) = list_all (λ q. not (same_row r q)) rs && are_unlike rs

both : (a b : Bool) → (a && b) ≡ true → (a ≡ true) × (b ≡ true)
both true b e = (refl, e)
both false b e = absurd (let z : false ≡ true = e in cc)

from_both : (a b : Bool) → a ≡ true → b ≡ true → (a && b) ≡ true
from_both true b e f = f
from_both false b e f = absurd (let z : false ≡ true = e in cc)

same_sorts_told : (xs ys : List SortId) → xs ≡ ys → same_sorts xs ys ≡ true
unfolding same_sorts
same_sorts_told [] [] e = refl
same_sorts_told [] (y ∷ ys) e = cc
same_sorts_told (x ∷ xs) [] e = cc
same_sorts_told (x ∷ xs) (y ∷ ys) e =
    let head : x ≡ y = cc in
    let rest : xs ≡ ys = cc in
    from_both _ _ ((Decides-eqb x.0 y.0).1 (ap (λ (s : SortId). s.0) head)) (same_sorts_told xs ys rest)

same_key_same_row : (texts : List (List ℕ)) → HasWords texts → (r q : Row) → key_of (built_in texts r) ≡ key_of (built_in texts q) → same_row r q ≡ true
same_key_same_row texts has r q e =
    let text : row_text r ≡ row_text q = places_differ texts (row_text r) (row_text q) (has (row_word r)) (has (row_word q)) (ap (λ (k : Key). k.name) e) in
    from_both _ _ ((bytes_eq-Decides (row_text r) (row_text q)).1 text) (same_sorts_told (row_sorts r) (row_sorts q) (ap (λ (k : Key). k.sorts) e))

not_true : (b : Bool) → not b ≡ true → b ≡ true → ⊥
not_true true e f = absurd (let z : false ≡ true = e in cc)
not_true false e f = absurd (let z : false ≡ true = f in cc)

unlike_at : (r : Row) (rows : List Row) (j : ℕ) (q : Row) → list_all (λ q. not (same_row r q)) rows ≡ true → slice_get rows j ≡ Some q → same_row r q ≡ true → ⊥
unlike_at r [] j q all at same = cc
unlike_at r (x ∷ xs) zero q all at same =
    let here : x ≡ q = cc in
    not_true (same_row r x) (both _ _ all).0 (ap (same_row r) here ∙ same)
unlike_at r (x ∷ xs) (suc j) q all at same = unlike_at r xs j q (both (not (same_row r x)) _ all).1 at same

-- the row at the place of a key
row_at : (texts : List (List ℕ)) (rows : List Row) (i : ℕ) (x : Key) → slice_get (map key_of (built_ins texts rows)) i ≡ Some x → (r : Row) × (slice_get rows i ≡ Some r) × (key_of (built_in texts r) ≡ x)
row_at texts rows i x e =
    let f = read_mapped key_of (built_ins texts rows) i x e in
    let r = read_mapped (built_in texts) rows i f.0 f.1 in
    (r.0, r.1, ap key_of r.2 ∙ f.2)

pub have_one_place : (texts : List (List ℕ)) → HasWords texts → (rows : List Row) → are_unlike rows ≡ true → HaveOnePlace (map key_of (built_ins texts rows))
have_one_place texts has [] u i j x p q = cc
have_one_place texts has (r ∷ rs) u zero zero x p q = refl
have_one_place texts has (r ∷ rs) u zero (suc j) x p q =
    let head : key_of (built_in texts r) ≡ x = cc in
    let other = row_at texts rs j x q in
    absurd (unlike_at r rs j other.0 (both _ _ u).0 other.1 (same_key_same_row texts has r other.0 (head ∙ sym other.2)))
have_one_place texts has (r ∷ rs) u (suc i) zero x p q =
    let head : key_of (built_in texts r) ≡ x = cc in
    let other = row_at texts rs i x p in
    absurd (unlike_at r rs i other.0 (both _ _ u).0 other.1 (same_key_same_row texts has r other.0 (head ∙ sym other.2)))
have_one_place texts has (r ∷ rs) u (suc i) (suc j) x p q = ap suc (have_one_place texts has rs (both (list_all (λ q. not (same_row r q)) rs) _ u).1 i j x p q)

first_are_unlike : are_unlike first_table ≡ true
unfolding same_sorts first_table first_rows truth_rows sort_rows comparison_rows sum_rows quotient_rows extreme_rows step_rows
first_are_unlike = refl

sorts_are_unlike : (s : SortId) → are_unlike (sort_rows s) ≡ true
unfolding sort_rows
sorts_are_unlike s = refl

lists_are_unlike : (e l : SortId) → are_unlike (list_table e l) ≡ true
unfolding list_table sort_rows list_rows
lists_are_unlike e l = refl

no_key_in_none : (k : Key) (n : ℕ) → HasKey [] k n → ⊥
no_key_in_none k n h = let e = h.1 in cc

-- the functions that a signature begins with
pub first_are_new : (texts : List (List ℕ)) → HasWords texts → AreNew [] (built_ins texts first_table)
first_are_new texts has = record { different = have_one_place texts has first_table first_are_unlike; absent = λ k d l. no_key_in_none (key_of (get_or (built_ins texts first_table) k d)) }

pub first_rows_fit : (given texts : List (List ℕ)) (rows : List Row) (fs : List Function) → texts ≡ with_texts given first_names → rows ≡ first_table → fs ≡ [] → AreNamed texts rows × AreNew fs (built_ins texts rows)
first_rows_fit given texts rows fs e f g =
    let has : HasWords texts = subst HasWords (sym e) (first_has_words given) in
    (are_named texts has rows, subst (λ (r : List Row). AreNew fs (built_ins texts r)) (sym f) (subst (λ hs. AreNew hs (built_ins texts first_table)) (sym g) (first_are_new texts has)))

-- ---- the ids in the functions of rows are places of entries
abbrev IsRowWithin : ℕ → Row → Type 0
IsRowWithin n r = All (λ s. s.0 < n) (row_result r ∷ row_sorts r)

row_within : (texts : List (List ℕ)) → HasWords texts → (sorts functions : ℕ) (r : Row) → IsRowWithin sorts r → IsFunctionWithin (length texts) sorts functions (built_in texts r)
row_within texts has sorts functions r w = record {
  named = place_within texts (row_text r) (has (row_word r));
  found = All-tail (λ (s : SortId). s.0 < sorts) (row_result r) (row_sorts r) w;
  gives = All-head (λ (s : SortId). s.0 < sorts) (row_result r) (row_sorts r) w;
  projected = All-nil (λ (p : Option FunId). IfSome p (λ q. q.0 < functions));
  recognised = tt;
}

rows_within : (texts : List (List ℕ)) → HasWords texts → (sorts functions : ℕ) (rows : List Row) → All (IsRowWithin sorts) rows → All (IsFunctionWithin (length texts) sorts functions) (built_ins texts rows)
rows_within texts has sorts functions rows all =
    All-map (IsFunctionWithin (length texts) sorts functions) (built_in texts) rows (All-weaker (IsRowWithin sorts) (λ r. IsFunctionWithin (length texts) sorts functions (built_in texts r)) (row_within texts has sorts functions) rows all)

abbrev is_row_within : ℕ → Row → Bool
is_row_within n r = list_all (λ (s : SortId). nat_lt s.0 n) (row_result r ∷ row_sorts r)

all_told : {A : Type 0} (P : A → Type 0) (p : A → Bool) → ((x : A) → p x ≡ true → P x) → (xs : List A) → list_all p xs ≡ true → All P xs
all_told P p f xs e = All-weaker (λ x. p x ≡ true) P f xs (AllPass-from_list_all p xs e)

first_rows_are_within : list_all (is_row_within 4) first_table ≡ true
unfolding first_table first_rows truth_rows sort_rows comparison_rows sum_rows quotient_rows extreme_rows step_rows
first_rows_are_within = refl

pub first_functions_within : (texts : List (List ℕ)) → HasWords texts → (functions : ℕ) → All (IsFunctionWithin (length texts) 4 functions) (built_ins texts first_table)
first_functions_within texts has functions =
    rows_within texts has 4 functions first_table
    (all_told (IsRowWithin 4) (is_row_within 4) (λ r e. all_told (λ (s : SortId). s.0 < 4) (λ s. nat_lt s.0 4) (λ s f. (Decides-ltb s.0 4).0 f) (row_result r ∷ row_sorts r) e) first_table first_rows_are_within)

-- the same, of rows over a sort that isn't known
abbrev HasSortsBelow : ℕ → Row → Type 0
HasSortsBelow n (Constant w to) = to.0 < n
HasSortsBelow n (ListConstant w to) = to.0 < n
HasSortsBelow n (One w a to) = (a.0 < n) × (to.0 < n)
HasSortsBelow n (Two w a b to) = (a.0 < n) × (b.0 < n) × (to.0 < n)
HasSortsBelow n (Three w a b c to) = (a.0 < n) × (b.0 < n) × (c.0 < n) × (to.0 < n)

below_is_within : (n : ℕ) (r : Row) → HasSortsBelow n r → IsRowWithin n r
below_is_within n (Constant w to) h = All-from_recursion (λ (s : SortId). s.0 < n) (to ∷ []) (h, tt)
below_is_within n (ListConstant w to) h = All-from_recursion (λ (s : SortId). s.0 < n) (to ∷ to ∷ []) (h, (h, tt))
below_is_within n (One w a to) h = All-from_recursion (λ (s : SortId). s.0 < n) (to ∷ a ∷ []) (h.1, (h.0, tt))
below_is_within n (Two w a b to) h = All-from_recursion (λ (s : SortId). s.0 < n) (to ∷ a ∷ b ∷ []) (h.2, (h.0, (h.1, tt)))
below_is_within n (Three w a b c to) h = All-from_recursion (λ (s : SortId). s.0 < n) (to ∷ a ∷ b ∷ c ∷ []) (h.3, (h.0, (h.1, (h.2, tt))))

sort_rows_below : (n : ℕ) (s : SortId) → s.0 < n → 4 ≤ n → ByRecursion (HasSortsBelow n) (sort_rows s)
unfolding sort_rows
sort_rows_below n s b l =
    let z : 0 < n = omega (arith, l) in
    ((b, b, z), ((b, b, z), ((z, b, b, b), tt)))

list_rows_below : (n : ℕ) (e l : SortId) → e.0 < n → l.0 < n → 4 ≤ n → ByRecursion (HasSortsBelow n) (list_rows e l)
unfolding list_rows
list_rows_below n e l a b four =
    let z : 0 < n = omega (arith, four) in
    let two : 2 < n = omega (arith, four) in
    (b, ((a, b, b), ((b, a, b), ((b, b, b), ((b, two), ((b, two, a), ((b, a), ((b, a), ((b, b), ((b, b), ((a, b, z), tt)))))))))))

functions_within : (texts : List (List ℕ)) → HasWords texts → (n functions : ℕ) (rows : List Row) → ByRecursion (HasSortsBelow n) rows → All (IsFunctionWithin (length texts) n functions) (built_ins texts rows)
functions_within texts has n functions rows h =
    rows_within texts has n functions rows (All-weaker (HasSortsBelow n) (IsRowWithin n) (below_is_within n) rows (All-from_recursion (HasSortsBelow n) rows h))

pub sort_functions_within : (texts : List (List ℕ)) → HasWords texts → (n functions : ℕ) (s : SortId) → s.0 < n → 4 ≤ n → All (IsFunctionWithin (length texts) n functions) (built_ins texts (sort_rows s))
sort_functions_within texts has n functions s b l = functions_within texts has n functions (sort_rows s) (sort_rows_below n s b l)

pub list_functions_within : (texts : List (List ℕ)) → HasWords texts → (n functions : ℕ) (e l : SortId) → e.0 < n → l.0 < n → 4 ≤ n → All (IsFunctionWithin (length texts) n functions) (built_ins texts (list_table e l))
unfolding list_table
list_functions_within texts has n functions e l a b four =
    rows_within texts has n functions (sort_rows l ++ list_rows e l)
    (All-append (IsRowWithin n) (sort_rows l) (list_rows e l)
    (All-weaker (HasSortsBelow n) (IsRowWithin n) (below_is_within n) (sort_rows l) (All-from_recursion (HasSortsBelow n) (sort_rows l) (sort_rows_below n l b four)))
    (All-weaker (HasSortsBelow n) (IsRowWithin n) (below_is_within n) (list_rows e l) (All-from_recursion (HasSortsBelow n) (list_rows e l) (list_rows_below n e l a b four))))

-- ---- the functions that come with a sort are new, since they are found by that sort
abbrev IsOver : SortId → Row → Type 0
IsOver s r = Contains (row_sorts r) s

sort_rows_over : (s : SortId) → ByRecursion (IsOver s) (sort_rows s)
unfolding sort_rows
sort_rows_over s = ((0, lit< tt, refl), ((0, lit< tt, refl), ((1, lit< tt, refl), tt)))

list_rows_over : (e l : SortId) → ByRecursion (IsOver l) (list_rows e l)
unfolding list_rows
list_rows_over e l =
    ((0, lit< tt, refl), ((1, lit< tt, refl), ((0, lit< tt, refl), ((0, lit< tt, refl), ((0, lit< tt, refl), ((0, lit< tt, refl), ((0, lit< tt, refl), ((0, lit< tt, refl), ((0, lit< tt, refl), ((0, lit< tt, refl), ((1, lit< tt, refl), tt)))))))))))

-- no function is found by a sort that isn't there
no_key_over : (t s functions : ℕ) (fs : List Function) → All (IsFunctionWithin t s functions) fs → (k : Key) (sort : SortId) → sort.0 ≡ s → Contains k.sorts sort → (n : ℕ) → HasKey fs k n → ⊥
no_key_over t s functions fs all k sort is over n h =
    let within : IsFunctionWithin t s functions h.0 = All-contains (IsFunctionWithin t s functions) fs h.0 all (contains_read fs n h.0 h.1) in
    let below : sort.0 < s = All-contains (λ (i : SortId). i.0 < s) h.0.sorts sort within.found (subst (λ (q : Key). Contains q.sorts sort) (sym h.2) over) in
    omega (arith, below, is)

new_over : (texts : List (List ℕ)) → HasWords texts → (t s functions : ℕ) (fs : List Function) → All (IsFunctionWithin t s functions) fs → (sort : SortId) → sort.0 ≡ s → (rows : List Row) → are_unlike rows ≡ true → All (IsOver sort) rows → AreNew fs (built_ins texts rows)
new_over texts has t s functions fs all sort is rows u over = record {
  different = have_one_place texts has rows u;
  absent =
      All-map (λ (f : Function). (k : ℕ) → HasKey fs (key_of f) k → ⊥) (built_in texts) rows
      (All-weaker (IsOver sort) (λ r. (k : ℕ) → HasKey fs (key_of (built_in texts r)) k → ⊥) (λ r c. no_key_over t s functions fs all (key_of (built_in texts r)) sort is c) rows over);
}

pub sort_functions_new : (texts : List (List ℕ)) → HasWords texts → (t s functions : ℕ) (fs : List Function) → All (IsFunctionWithin t s functions) fs → (sort : SortId) → sort.0 ≡ s → AreNew fs (built_ins texts (sort_rows sort))
sort_functions_new texts has t s functions fs all sort is =
    new_over texts has t s functions fs all sort is (sort_rows sort) (sorts_are_unlike sort) (All-from_recursion (IsOver sort) (sort_rows sort) (sort_rows_over sort))

pub list_functions_new : (texts : List (List ℕ)) → HasWords texts → (t s functions : ℕ) (fs : List Function) → All (IsFunctionWithin t s functions) fs → (e sort : SortId) → sort.0 ≡ s → AreNew fs (built_ins texts (list_table e sort))
unfolding list_table
list_functions_new texts has t s functions fs all e sort is =
    new_over texts has t s functions fs all sort is (sort_rows sort ++ list_rows e sort) (lists_are_unlike e sort)
    (All-append (IsOver sort) (sort_rows sort) (list_rows e sort) (All-from_recursion (IsOver sort) (sort_rows sort) (sort_rows_over sort)) (All-from_recursion (IsOver sort) (list_rows e sort) (list_rows_over e sort)))
