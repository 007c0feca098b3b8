-- The rows of the table of built-in functions, and the symbols that they mean.
use Rattle.std.proofs.Common.{◌≡◌, ℕ, zero, suc, ◌<◌, ◌≤◌, List, [], ◌∷◌, ◌++◌, map, length, get_or, Bool, true, false, ◌&&◌, cond, refl, sym, subst, arith}
use Rattle.std.proofs.lemmas.Bool.{and_parts}
use Rattle.std.specs.List.{All, AllByRecursion as Each, Contains, list_all}
use Rattle.std.proofs.lemmas.List.Elements.{All-append, All-contains, All-from_recursion}
use Rattle.std.proofs.lemmas.List.Sums.{AllPass-from_list_all}
use Rattle.data_theory.specs.declared.ids.SortId.{SortId}
use Rattle.data_theory.specs.declared.words.NumberWord.{NumberWord}
use Rattle.data_theory.specs.declared.words.NumberWord.TheVariants as numbers
use Rattle.data_theory.specs.declared.words.ListWord.TheVariants as lists
use Rattle.data_theory.specs.declared.words.Word.{Word}
use Rattle.data_theory.specs.declared.words.Word.TheVariants as words
use Rattle.data_theory.specs.declared.rows.Row.{Row}
use Rattle.data_theory.specs.Terms.{Sort, boolean, positive, natural, integer, list, Comparison, less, at_most, greater, at_least, Operation, add, subtract, multiply, divide, modulo, power, minimum, maximum, absolute, successor, predecessor, to_positive, to_natural, Symbol, truth, falsity, negation, conjunction, disjunction, implication, equality, inequality, conditional, comparison, arithmetic, minus, upcast, empty, cons, snoc, concatenation, size, element_at, head, rhead, tail, rtail, membership, function}
use Rattle.data_theory.specs.Declarations.{Data, IsSort, IsSymbol, argument_sorts, result_sort, positives, naturals, integers, pos2nat, nat2int, pos2int, add_pos_pos, add_pos_nat, add_nat_pos, add_nat_nat, add_int_int, subtract_pos, subtract_nat, subtract_int, multiply_pos, multiply_nat, multiply_int, div_nat, div_int, mod_nat, mod_int, exp_pos, exp_nat, exp_int, min_pos, min_nat, min_int, max_pos, max_nat, max_int, abs_int, succ_pos, succ_nat, succ_int, pred_pos, pred_nat, pred_int, nat2pos, int2nat, int2pos}
use Rattle.data_theory.specs.Sorts.{SortInfo, IsListOver}
use Rattle.data_theory.specs.Rows.{row_word, row_sorts, row_result, row_is_list_constant}
use Rattle.data_theory.specs.Table.{bool_sort, pos_sort, nat_sort, int_sort, first_rows, truth_rows, comparison_rows, sum_rows, quotient_rows, extreme_rows, step_rows, sort_rows, list_rows, first_table}
use Rattle.data_theory.specs.IdSymbols.{word_symbol}
use Rattle.data_theory.specs.IdTables.{IsRow, of_front, over_sort, over_list}

-- ---- the word and the sorts of a symbol
abbrev comparison_word : Comparison → Word
comparison_word less = words.Less
comparison_word at_most = words.AtMost
comparison_word greater = words.Greater
comparison_word at_least = words.AtLeast

abbrev cast_word : List Sort → NumberWord
cast_word (natural ∷ []) = numbers.NatToPos
cast_word ss = numbers.IntToPos

abbrev operation_word : Operation → List Sort → NumberWord
operation_word add ss = numbers.Plus
operation_word subtract ss = numbers.Minus
operation_word multiply ss = numbers.Times
operation_word divide ss = numbers.Div
operation_word modulo ss = numbers.Mod
operation_word power ss = numbers.Exp
operation_word minimum ss = numbers.Min
operation_word maximum ss = numbers.Max
operation_word absolute ss = numbers.Abs
operation_word successor ss = numbers.Succ
operation_word predecessor ss = numbers.Pred
operation_word to_positive ss = cast_word ss
operation_word to_natural ss = numbers.IntToNat

abbrev upcast_word : Sort → Sort → NumberWord
upcast_word positive natural = numbers.PosToNat
upcast_word natural integer = numbers.NatToInt
upcast_word s to = numbers.PosToInt

abbrev pub word_of : Symbol → Word
word_of truth = words.True
word_of falsity = words.False
word_of negation = words.Not
word_of conjunction = words.And
word_of disjunction = words.Or
word_of implication = words.Implies
word_of (equality s) = words.Equal
word_of (inequality s) = words.Different
word_of (conditional s) = words.If
word_of (comparison c s) = comparison_word c
word_of (arithmetic op ss to) = words.Number (operation_word op ss)
word_of (minus s) = words.Number numbers.Minus
word_of (upcast s to) = words.Number (upcast_word s to)
word_of (empty s) = words.List lists.Empty
word_of (cons s) = words.List lists.Cons
word_of (snoc s) = words.List lists.Snoc
word_of (concatenation s) = words.List lists.Concat
word_of (size s) = words.List lists.Size
word_of (element_at s) = words.List lists.At
word_of (head s) = words.List lists.Head
word_of (rhead s) = words.List lists.Rhead
word_of (tail s) = words.List lists.Tail
word_of (rtail s) = words.List lists.Rtail
word_of (membership s) = words.List lists.In
word_of (function k) = words.True

abbrev pub sorts_of : Symbol → List Sort
sorts_of truth = []
sorts_of falsity = []
sorts_of negation = boolean ∷ []
sorts_of conjunction = boolean ∷ boolean ∷ []
sorts_of disjunction = boolean ∷ boolean ∷ []
sorts_of implication = boolean ∷ boolean ∷ []
sorts_of (equality s) = s ∷ s ∷ []
sorts_of (inequality s) = s ∷ s ∷ []
sorts_of (conditional s) = boolean ∷ s ∷ s ∷ []
sorts_of (comparison c s) = s ∷ s ∷ []
sorts_of (arithmetic op ss to) = ss
sorts_of (minus s) = s ∷ []
sorts_of (upcast s to) = s ∷ []
sorts_of (empty s) = list s ∷ []
sorts_of (cons s) = s ∷ list s ∷ []
sorts_of (snoc s) = list s ∷ s ∷ []
sorts_of (concatenation s) = list s ∷ list s ∷ []
sorts_of (size s) = list s ∷ []
sorts_of (element_at s) = list s ∷ natural ∷ []
sorts_of (head s) = list s ∷ []
sorts_of (rhead s) = list s ∷ []
sorts_of (tail s) = list s ∷ []
sorts_of (rtail s) = list s ∷ []
sorts_of (membership s) = s ∷ list s ∷ []
sorts_of (function k) = []

abbrev pub is_declared : Symbol → Bool
is_declared (function k) = true
is_declared y = false

-- what a symbol tells of the function that means it: its word, its sorts, whether it is a list constant, and its result
abbrev pub Tells : Data → Word → List Sort → Bool → Sort → Symbol → Type 0
Tells d w ss c to y = (word_of y ≡ w) × (sorts_of y ≡ ss) × (is_declared y ≡ false) × IsSymbol d y × (argument_sorts d y ≡ cond c [] ss) × (result_sort d y ≡ to)

abbrev WordTells : Data → Word → List Sort → Bool → Sort → Type 0
WordTells d w ss c to = Tells d w ss c to (word_symbol w ss to)

abbrev pub RowTells : Data → (SortId → Sort) → Row → Type 0
RowTells d m r = WordTells d (row_word r) (map m (row_sorts r)) (row_is_list_constant r) (m (row_result r))

-- ---- the rows of the front, which are over Bool, Pos, Nat and Int alone
abbrev known : SortId → Sort
known i = get_or (boolean ∷ positive ∷ natural ∷ integer ∷ []) i.0 boolean

abbrev is_first_number : ℕ → Bool
is_first_number zero = true
is_first_number (suc zero) = true
is_first_number (suc (suc zero)) = true
is_first_number (suc (suc (suc zero))) = true
is_first_number (suc (suc (suc (suc n)))) = false

abbrev is_known : SortId → Bool
is_known i = is_first_number i.0

abbrev has_known_sorts : Row → Bool
has_known_sorts r = list_all is_known (row_sorts r) && is_known (row_result r)

all_known : list_all has_known_sorts first_table ≡ true
unfolding first_table first_rows truth_rows sort_rows comparison_rows sum_rows quotient_rows extreme_rows step_rows
all_known = refl

known_row : (r : Row) → Contains first_table r → (list_all is_known (row_sorts r) ≡ true) × (is_known (row_result r) ≡ true)
known_row r c = and_parts (list_all is_known (row_sorts r)) (is_known (row_result r)) (All-contains (λ x. has_known_sorts x ≡ true) first_table r (AllPass-from_list_all has_known_sorts first_table all_known) c)

module _ (d : Data) where
  first_rows_tell : Each (RowTells d known) first_rows
  unfolding first_rows
  first_rows_tell = ((refl, refl, refl, positives, refl, refl), ((refl, refl, refl, naturals, refl, refl), ((refl, refl, refl, integers, refl, refl), ((refl, refl, refl, pos2nat, refl, refl), ((refl, refl, refl, nat2int, refl, refl), ((refl, refl, refl, pos2int, refl, refl), tt))))))

  truth_rows_tell : Each (RowTells d known) truth_rows
  unfolding truth_rows
  truth_rows_tell = ((refl, refl, refl, tt, refl, refl), ((refl, refl, refl, tt, refl, refl), ((refl, refl, refl, tt, refl, refl), ((refl, refl, refl, tt, refl, refl), ((refl, refl, refl, tt, refl, refl), ((refl, refl, refl, tt, refl, refl), tt))))))

  comparison_rows_tell : Each (RowTells d known) comparison_rows
  unfolding comparison_rows
  comparison_rows_tell = ((refl, refl, refl, positives, refl, refl), ((refl, refl, refl, naturals, refl, refl), ((refl, refl, refl, integers, refl, refl), ((refl, refl, refl, positives, refl, refl), ((refl, refl, refl, naturals, refl, refl), ((refl, refl, refl, integers, refl, refl), ((refl, refl, refl, positives, refl, refl), ((refl, refl, refl, naturals, refl, refl), ((refl, refl, refl, integers, refl, refl), ((refl, refl, refl, positives, refl, refl), ((refl, refl, refl, naturals, refl, refl), ((refl, refl, refl, integers, refl, refl), tt))))))))))))

  sum_rows_tell : Each (RowTells d known) sum_rows
  unfolding sum_rows
  sum_rows_tell = ((refl, refl, refl, add_pos_pos, refl, refl), ((refl, refl, refl, add_pos_nat, refl, refl), ((refl, refl, refl, add_nat_pos, refl, refl), ((refl, refl, refl, add_nat_nat, refl, refl), ((refl, refl, refl, add_int_int, refl, refl), ((refl, refl, refl, subtract_pos, refl, refl), ((refl, refl, refl, subtract_nat, refl, refl), ((refl, refl, refl, subtract_int, refl, refl), ((refl, refl, refl, multiply_pos, refl, refl), ((refl, refl, refl, multiply_nat, refl, refl), ((refl, refl, refl, multiply_int, refl, refl), tt)))))))))))

  quotient_rows_tell : Each (RowTells d known) quotient_rows
  unfolding quotient_rows
  quotient_rows_tell = ((refl, refl, refl, div_nat, refl, refl), ((refl, refl, refl, div_int, refl, refl), ((refl, refl, refl, mod_nat, refl, refl), ((refl, refl, refl, mod_int, refl, refl), ((refl, refl, refl, exp_pos, refl, refl), ((refl, refl, refl, exp_nat, refl, refl), ((refl, refl, refl, exp_int, refl, refl), tt)))))))

  extreme_rows_tell : Each (RowTells d known) extreme_rows
  unfolding extreme_rows
  extreme_rows_tell = ((refl, refl, refl, min_pos, refl, refl), ((refl, refl, refl, min_nat, refl, refl), ((refl, refl, refl, min_int, refl, refl), ((refl, refl, refl, max_pos, refl, refl), ((refl, refl, refl, max_nat, refl, refl), ((refl, refl, refl, max_int, refl, refl), tt))))))

  step_rows_tell : Each (RowTells d known) step_rows
  unfolding step_rows
  step_rows_tell = ((refl, refl, refl, abs_int, refl, refl), ((refl, refl, refl, succ_pos, refl, refl), ((refl, refl, refl, succ_nat, refl, refl), ((refl, refl, refl, succ_int, refl, refl), ((refl, refl, refl, pred_pos, refl, refl), ((refl, refl, refl, pred_nat, refl, refl), ((refl, refl, refl, pred_int, refl, refl), ((refl, refl, refl, nat2pos, refl, refl), ((refl, refl, refl, int2nat, refl, refl), ((refl, refl, refl, int2pos, refl, refl), tt))))))))))

  known_sort_rows_tell : (s : SortId) → IsSort d (known s) → Each (RowTells d known) (sort_rows s)
  unfolding sort_rows
  known_sort_rows_tell s i = ((refl, refl, refl, i, refl, refl), ((refl, refl, refl, i, refl, refl), ((refl, refl, refl, i, refl, refl), tt)))

  Tell : List Row → Type 0
  Tell rs = All (RowTells d known) rs

  and_then : (xs ys : List Row) → Tell xs → Each (RowTells d known) ys → Tell (xs ++ ys)
  unfolding Tell
  and_then xs ys all es = All-append (RowTells d known) xs ys all (All-from_recursion (RowTells d known) ys es)

  first_table_tells : All (RowTells d known) first_table
  unfolding Tell first_table
  first_table_tells =
      let start = All-from_recursion (RowTells d known) first_rows first_rows_tell in
      let with_truth = and_then first_rows truth_rows start truth_rows_tell in
      let with_bool = and_then (first_rows ++ truth_rows) (sort_rows bool_sort) with_truth (known_sort_rows_tell bool_sort tt) in
      let with_pos = and_then (first_rows ++ truth_rows ++ sort_rows bool_sort) (sort_rows pos_sort) with_bool (known_sort_rows_tell pos_sort tt) in
      let with_nat = and_then (first_rows ++ truth_rows ++ sort_rows bool_sort ++ sort_rows pos_sort) (sort_rows nat_sort) with_pos (known_sort_rows_tell nat_sort tt) in
      let with_int = and_then (first_rows ++ truth_rows ++ sort_rows bool_sort ++ sort_rows pos_sort ++ sort_rows nat_sort) (sort_rows int_sort) with_nat (known_sort_rows_tell int_sort tt) in
      let with_comparisons = and_then (first_rows ++ truth_rows ++ sort_rows bool_sort ++ sort_rows pos_sort ++ sort_rows nat_sort ++ sort_rows int_sort) comparison_rows with_int comparison_rows_tell in
      let with_sums = and_then (first_rows ++ truth_rows ++ sort_rows bool_sort ++ sort_rows pos_sort ++ sort_rows nat_sort ++ sort_rows int_sort ++ comparison_rows) sum_rows with_comparisons sum_rows_tell in
      let with_quotients = and_then (first_rows ++ truth_rows ++ sort_rows bool_sort ++ sort_rows pos_sort ++ sort_rows nat_sort ++ sort_rows int_sort ++ comparison_rows ++ sum_rows) quotient_rows with_sums quotient_rows_tell in
      let with_extremes = and_then (first_rows ++ truth_rows ++ sort_rows bool_sort ++ sort_rows pos_sort ++ sort_rows nat_sort ++ sort_rows int_sort ++ comparison_rows ++ sum_rows ++ quotient_rows) extreme_rows with_quotients extreme_rows_tell in
      and_then (first_rows ++ truth_rows ++ sort_rows bool_sort ++ sort_rows pos_sort ++ sort_rows nat_sort ++ sort_rows int_sort ++ comparison_rows ++ sum_rows ++ quotient_rows ++ extreme_rows) step_rows with_extremes step_rows_tell

-- ---- the sorts of rows stand in the table
module _ (ss : List SortInfo) (four : 4 ≤ length ss) where
  abbrev Within : SortId → Type 0
  Within s = s.0 < length ss

  abbrev RowWithin : Row → Type 0
  RowWithin r = Each Within (row_sorts r) × Within (row_result r)

  number_within : (n : ℕ) → is_first_number n ≡ true → n < length ss
  number_within zero k = omega (arith, four)
  number_within (suc zero) k = omega (arith, four)
  number_within (suc (suc zero)) k = omega (arith, four)
  number_within (suc (suc (suc zero))) k = omega (arith, four)
  number_within (suc (suc (suc (suc n)))) k = absurd (let z : false ≡ true = k in cc)

  known_within : (l : List SortId) → list_all is_known l ≡ true → Each Within l
  known_within [] k = tt
  known_within (s ∷ l) k = let h = and_parts (is_known s) (list_all is_known l) k in (number_within s.0 h.0, known_within l h.1)

  pub row_within : (r : Row) → IsRow ss r → ((e l : SortId) → IsListOver ss e l → (e.0 < length ss) × (l.0 < length ss)) → RowWithin r
  unfolding sort_rows list_rows
  row_within r (of_front c) lists = let k = known_row r c in (known_within (row_sorts r) k.0, number_within (row_result r).0 k.1)
  row_within r (over_sort s l c) lists =
      let b : 0 < length ss = omega (arith, four) in
      All-contains RowWithin (sort_rows s) r (All-from_recursion RowWithin (sort_rows s) (((l, (l, tt)), b), (((l, (l, tt)), b), (((b, (l, (l, tt))), l), tt)))) c
  row_within r (over_list e l o c) lists =
      let h = lists e l o in
      let i = h.0 in
      let j = h.1 in
      let b : 0 < length ss = omega (arith, four) in
      let n : 2 < length ss = omega (arith, four) in
      All-contains RowWithin (list_rows e l) r
      (All-from_recursion RowWithin (list_rows e l)
      (((j, tt), j), (((i, (j, tt)), j), (((j, (i, tt)), j), (((j, (j, tt)), j), (((j, tt), n), (((j, (n, tt)), i), (((j, tt), i), (((j, tt), i), (((j, tt), j), (((j, tt), j), (((i, (j, tt)), b), tt)))))))))))) c

-- ---- rows of a signature
module _ (d : Data) (ss : List SortInfo) (m : SortId → Sort)
    (boolean_is : m bool_sort ≡ boolean) (positive_is : m pos_sort ≡ positive) (natural_is : m nat_sort ≡ natural) (integer_is : m int_sort ≡ integer)
    (list_is : (e l : SortId) → IsListOver ss e l → m l ≡ list (m e))
    (sort_is : (s : SortId) → s.0 < length ss → IsSort d (m s)) (element_is : (e l : SortId) → IsListOver ss e l → e.0 < length ss) where
  known_is : (s : SortId) → is_known s ≡ true → known s ≡ m s
  known_is s k = by_number s.0 k
    where
      by_number : (n : ℕ) → is_first_number n ≡ true → get_or (boolean ∷ positive ∷ natural ∷ integer ∷ []) n boolean ≡ m (record { 0 = n })
      by_number zero k = sym boolean_is
      by_number (suc zero) k = sym positive_is
      by_number (suc (suc zero)) k = sym natural_is
      by_number (suc (suc (suc zero))) k = sym integer_is
      by_number (suc (suc (suc (suc n)))) k = absurd (let z : false ≡ true = k in cc)

  known_are : (l : List SortId) → list_all is_known l ≡ true → map known l ≡ map m l
  known_are [] k = refl
  known_are (s ∷ l) k = let h = and_parts (is_known s) (list_all is_known l) k in (λ i. known_is s h.0 i ∷ known_are l h.1 i)

  front_tells : (r : Row) → Contains first_table r → RowTells d m r
  front_tells r c =
      let k = known_row r c in
      let t = All-contains (RowTells d known) first_table r (first_table_tells d) c in
      subst (λ to. WordTells d (row_word r) (map m (row_sorts r)) (row_is_list_constant r) to) (known_is (row_result r) k.1)
      (subst (λ l. WordTells d (row_word r) l (row_is_list_constant r) (known (row_result r))) (known_are (row_sorts r) k.0) t)

  sort_rows_tell : (s : SortId) → s.0 < length ss → Each (RowTells d m) (sort_rows s)
  unfolding sort_rows
  sort_rows_tell s l = let i = sort_is s l in rw boolean_is ((refl, refl, refl, i, refl, refl), ((refl, refl, refl, i, refl, refl), ((refl, refl, refl, i, refl, refl), tt)))

  list_rows_tell : (e l : SortId) → IsListOver ss e l → Each (RowTells d m) (list_rows e l)
  unfolding list_rows
  list_rows_tell e l o = let i = sort_is e (element_is e l o) in rw (boolean_is, natural_is, list_is e l o) ((refl, refl, refl, i, refl, refl), ((refl, refl, refl, i, refl, refl), ((refl, refl, refl, i, refl, refl), ((refl, refl, refl, i, refl, refl), ((refl, refl, refl, i, refl, refl), ((refl, refl, refl, i, refl, refl), ((refl, refl, refl, i, refl, refl), ((refl, refl, refl, i, refl, refl), ((refl, refl, refl, i, refl, refl), ((refl, refl, refl, i, refl, refl), ((refl, refl, refl, i, refl, refl), tt)))))))))))

  pub row_tells : (r : Row) → IsRow ss r → RowTells d m r
  row_tells r (of_front c) = front_tells r c
  row_tells r (over_sort s l c) = All-contains (RowTells d m) (sort_rows s) r (All-from_recursion (RowTells d m) (sort_rows s) (sort_rows_tell s l)) c
  row_tells r (over_list e l o c) = All-contains (RowTells d m) (list_rows e l) r (All-from_recursion (RowTells d m) (list_rows e l) (list_rows_tell e l o)) c
