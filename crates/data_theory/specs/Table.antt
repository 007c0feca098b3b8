-- The table of built-in functions, by the mCRL2 language reference.
use Rattle.std.specs.Prelude.{List, [], ◌∷◌, ◌++◌}
use Rattle.data_theory.specs.declared.ids.SortId.{SortId}
use Rattle.data_theory.specs.declared.words.NumberWord.TheVariants as numbers
use Rattle.data_theory.specs.declared.words.ListWord.TheVariants as lists
use Rattle.data_theory.specs.declared.words.Word.TheVariants as words
use Rattle.data_theory.specs.declared.rows.Row.{Row}
use Rattle.data_theory.specs.declared.rows.Row.TheVariants as rows

abbrev pub bool_sort : SortId
bool_sort = record { 0 = 0 }

abbrev pub pos_sort : SortId
pos_sort = record { 0 = 1 }

abbrev pub nat_sort : SortId
nat_sort = record { 0 = 2 }

abbrev pub int_sort : SortId
int_sort = record { 0 = 3 }

-- the prefix `-` and the upcasts, which have the numbers 0 to 5
unfoldable pub first_rows : List Row
first_rows =
    rows.One (words.Number numbers.Minus) pos_sort int_sort
    ∷ rows.One (words.Number numbers.Minus) nat_sort int_sort
    ∷ rows.One (words.Number numbers.Minus) int_sort int_sort
    ∷ rows.One (words.Number numbers.PosToNat) pos_sort nat_sort
    ∷ rows.One (words.Number numbers.NatToInt) nat_sort int_sort
    ∷ rows.One (words.Number numbers.PosToInt) pos_sort int_sort
    ∷ []

-- the functions on truth values
unfoldable pub truth_rows : List Row
truth_rows =
    rows.Constant words.True bool_sort
    ∷ rows.Constant words.False bool_sort
    ∷ rows.One words.Not bool_sort bool_sort
    ∷ rows.Two words.And bool_sort bool_sort bool_sort
    ∷ rows.Two words.Or bool_sort bool_sort bool_sort
    ∷ rows.Two words.Implies bool_sort bool_sort bool_sort
    ∷ []

-- the comparisons of numbers
unfoldable pub comparison_rows : List Row
comparison_rows =
    rows.Two words.Less pos_sort pos_sort bool_sort
    ∷ rows.Two words.Less nat_sort nat_sort bool_sort
    ∷ rows.Two words.Less int_sort int_sort bool_sort
    ∷ rows.Two words.AtMost pos_sort pos_sort bool_sort
    ∷ rows.Two words.AtMost nat_sort nat_sort bool_sort
    ∷ rows.Two words.AtMost int_sort int_sort bool_sort
    ∷ rows.Two words.Greater pos_sort pos_sort bool_sort
    ∷ rows.Two words.Greater nat_sort nat_sort bool_sort
    ∷ rows.Two words.Greater int_sort int_sort bool_sort
    ∷ rows.Two words.AtLeast pos_sort pos_sort bool_sort
    ∷ rows.Two words.AtLeast nat_sort nat_sort bool_sort
    ∷ rows.Two words.AtLeast int_sort int_sort bool_sort
    ∷ []

-- sums, differences and products
unfoldable pub sum_rows : List Row
sum_rows =
    rows.Two (words.Number numbers.Plus) pos_sort pos_sort pos_sort
    ∷ rows.Two (words.Number numbers.Plus) pos_sort nat_sort pos_sort
    ∷ rows.Two (words.Number numbers.Plus) nat_sort pos_sort pos_sort
    ∷ rows.Two (words.Number numbers.Plus) nat_sort nat_sort nat_sort
    ∷ rows.Two (words.Number numbers.Plus) int_sort int_sort int_sort
    ∷ rows.Two (words.Number numbers.Minus) pos_sort pos_sort int_sort
    ∷ rows.Two (words.Number numbers.Minus) nat_sort nat_sort int_sort
    ∷ rows.Two (words.Number numbers.Minus) int_sort int_sort int_sort
    ∷ rows.Two (words.Number numbers.Times) pos_sort pos_sort pos_sort
    ∷ rows.Two (words.Number numbers.Times) nat_sort nat_sort nat_sort
    ∷ rows.Two (words.Number numbers.Times) int_sort int_sort int_sort
    ∷ []

-- quotients, remainders and powers
unfoldable pub quotient_rows : List Row
quotient_rows =
    rows.Two (words.Number numbers.Div) nat_sort pos_sort nat_sort
    ∷ rows.Two (words.Number numbers.Div) int_sort pos_sort int_sort
    ∷ rows.Two (words.Number numbers.Mod) nat_sort pos_sort nat_sort
    ∷ rows.Two (words.Number numbers.Mod) int_sort pos_sort nat_sort
    ∷ rows.Two (words.Number numbers.Exp) pos_sort nat_sort pos_sort
    ∷ rows.Two (words.Number numbers.Exp) nat_sort nat_sort nat_sort
    ∷ rows.Two (words.Number numbers.Exp) int_sort nat_sort int_sort
    ∷ []

-- the least and the greatest of two numbers
unfoldable pub extreme_rows : List Row
extreme_rows =
    rows.Two (words.Number numbers.Min) pos_sort pos_sort pos_sort
    ∷ rows.Two (words.Number numbers.Min) nat_sort nat_sort nat_sort
    ∷ rows.Two (words.Number numbers.Min) int_sort int_sort int_sort
    ∷ rows.Two (words.Number numbers.Max) pos_sort pos_sort pos_sort
    ∷ rows.Two (words.Number numbers.Max) nat_sort nat_sort nat_sort
    ∷ rows.Two (words.Number numbers.Max) int_sort int_sort int_sort
    ∷ []

-- functions of one number
unfoldable pub step_rows : List Row
step_rows =
    rows.One (words.Number numbers.Abs) int_sort nat_sort
    ∷ rows.One (words.Number numbers.Succ) pos_sort pos_sort
    ∷ rows.One (words.Number numbers.Succ) nat_sort pos_sort
    ∷ rows.One (words.Number numbers.Succ) int_sort int_sort
    ∷ rows.One (words.Number numbers.Pred) pos_sort nat_sort
    ∷ rows.One (words.Number numbers.Pred) nat_sort int_sort
    ∷ rows.One (words.Number numbers.Pred) int_sort int_sort
    ∷ rows.One (words.Number numbers.NatToPos) nat_sort pos_sort
    ∷ rows.One (words.Number numbers.IntToNat) int_sort nat_sort
    ∷ rows.One (words.Number numbers.IntToPos) int_sort pos_sort
    ∷ []

-- the functions over any sort
unfoldable pub sort_rows : SortId → List Row
sort_rows sort =
    rows.Two words.Equal sort sort bool_sort
    ∷ rows.Two words.Different sort sort bool_sort
    ∷ rows.Three words.If bool_sort sort sort sort
    ∷ []

-- the functions over a list sort and its element sort
unfoldable pub list_rows : SortId → SortId → List Row
list_rows element list =
    rows.ListConstant (words.List lists.Empty) list
    ∷ rows.Two (words.List lists.Cons) element list list
    ∷ rows.Two (words.List lists.Snoc) list element list
    ∷ rows.Two (words.List lists.Concat) list list list
    ∷ rows.One (words.List lists.Size) list nat_sort
    ∷ rows.Two (words.List lists.At) list nat_sort element
    ∷ rows.One (words.List lists.Head) list element
    ∷ rows.One (words.List lists.Rhead) list element
    ∷ rows.One (words.List lists.Tail) list list
    ∷ rows.One (words.List lists.Rtail) list list
    ∷ rows.Two (words.List lists.In) element list bool_sort
    ∷ []

-- all that a signature begins with, in order
unfoldable pub first_table : List Row
first_table = first_rows ++ truth_rows ++ sort_rows bool_sort ++ sort_rows pos_sort ++ sort_rows nat_sort ++ sort_rows int_sort ++ comparison_rows ++ sum_rows ++ quotient_rows ++ extreme_rows ++ step_rows

-- all that comes with a list sort, in order
unfoldable pub list_table : SortId → SortId → List Row
list_table element list = sort_rows list ++ list_rows element list

-- the whole table over a sort and its list sort, in the language's order
unfoldable pub language_table : SortId → SortId → List Row
language_table sort list = truth_rows ++ sort_rows sort ++ comparison_rows ++ sum_rows ++ first_rows ++ quotient_rows ++ extreme_rows ++ step_rows ++ list_rows sort list
