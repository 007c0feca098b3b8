-- Which words the rows of the table of built-in functions have, by how many arguments they take.
use Rattle.std.proofs.Common.{◌≡◌, List, Bool, true, false, refl, sym, subst, ◌∙◌, Some, None}
use Rattle.std.specs.Prelude.{Option}
use Rattle.std.specs.List.{AllByRecursion as Each, Contains, list_all}
use Rattle.std.proofs.lemmas.List.Elements.{All-contains, All-from_recursion}
use Rattle.std.proofs.lemmas.List.Sums.{AllPass-from_list_all}
use Rattle.data_theory.specs.declared.ids.SortId.{SortId}
use Rattle.data_theory.specs.declared.words.NumberWord.{NumberWord}
use Rattle.data_theory.specs.declared.words.NumberWord.TheVariants as numbers
use Rattle.data_theory.specs.declared.words.ListWord.{ListWord}
use Rattle.data_theory.specs.declared.words.ListWord.TheVariants as lists
use Rattle.data_theory.specs.declared.words.Word.{Word}
use Rattle.data_theory.specs.declared.words.Word.TheVariants as words
use Rattle.data_theory.specs.declared.rows.Row.{Row}
use Rattle.data_theory.specs.declared.rows.Row.TheVariants as rows
use Rattle.data_theory.specs.Sorts.{SortInfo, IsListOver}
use Rattle.data_theory.specs.Table.{first_rows, truth_rows, comparison_rows, sum_rows, quotient_rows, extreme_rows, step_rows, sort_rows, list_rows, first_table}
use Rattle.data_theory.specs.IdTables.{IsRow, of_front, over_sort, over_list}

-- ---- words by the number of arguments
abbrev pub takes_one_number : NumberWord → Bool
takes_one_number numbers.Plus = false
takes_one_number numbers.Minus = true
takes_one_number numbers.Times = false
takes_one_number numbers.Div = false
takes_one_number numbers.Mod = false
takes_one_number numbers.Exp = false
takes_one_number numbers.Min = false
takes_one_number numbers.Max = false
takes_one_number numbers.Abs = true
takes_one_number numbers.Succ = true
takes_one_number numbers.Pred = true
takes_one_number numbers.PosToNat = true
takes_one_number numbers.NatToInt = true
takes_one_number numbers.PosToInt = true
takes_one_number numbers.NatToPos = true
takes_one_number numbers.IntToNat = true
takes_one_number numbers.IntToPos = true

abbrev pub takes_two_numbers : NumberWord → Bool
takes_two_numbers numbers.Plus = true
takes_two_numbers numbers.Minus = true
takes_two_numbers numbers.Times = true
takes_two_numbers numbers.Div = true
takes_two_numbers numbers.Mod = true
takes_two_numbers numbers.Exp = true
takes_two_numbers numbers.Min = true
takes_two_numbers numbers.Max = true
takes_two_numbers numbers.Abs = false
takes_two_numbers numbers.Succ = false
takes_two_numbers numbers.Pred = false
takes_two_numbers numbers.PosToNat = false
takes_two_numbers numbers.NatToInt = false
takes_two_numbers numbers.PosToInt = false
takes_two_numbers numbers.NatToPos = false
takes_two_numbers numbers.IntToNat = false
takes_two_numbers numbers.IntToPos = false

abbrev pub takes_one_list : ListWord → Bool
takes_one_list lists.Empty = false
takes_one_list lists.Cons = false
takes_one_list lists.Snoc = false
takes_one_list lists.Concat = false
takes_one_list lists.Size = true
takes_one_list lists.At = false
takes_one_list lists.Head = true
takes_one_list lists.Rhead = true
takes_one_list lists.Tail = true
takes_one_list lists.Rtail = true
takes_one_list lists.In = false

abbrev pub takes_two_lists : ListWord → Bool
takes_two_lists lists.Empty = false
takes_two_lists lists.Cons = true
takes_two_lists lists.Snoc = true
takes_two_lists lists.Concat = true
takes_two_lists lists.Size = false
takes_two_lists lists.At = true
takes_two_lists lists.Head = false
takes_two_lists lists.Rhead = false
takes_two_lists lists.Tail = false
takes_two_lists lists.Rtail = false
takes_two_lists lists.In = true

abbrev pub is_empty_list : ListWord → Bool
is_empty_list lists.Empty = true
is_empty_list lists.Cons = false
is_empty_list lists.Snoc = false
is_empty_list lists.Concat = false
is_empty_list lists.Size = false
is_empty_list lists.At = false
is_empty_list lists.Head = false
is_empty_list lists.Rhead = false
is_empty_list lists.Tail = false
is_empty_list lists.Rtail = false
is_empty_list lists.In = false

abbrev pub takes_none : Word → Bool
takes_none words.True = true
takes_none words.False = true
takes_none words.Not = false
takes_none words.And = false
takes_none words.Or = false
takes_none words.Implies = false
takes_none words.Equal = false
takes_none words.Different = false
takes_none words.If = false
takes_none words.Less = false
takes_none words.AtMost = false
takes_none words.Greater = false
takes_none words.AtLeast = false
takes_none (words.Number w) = false
takes_none (words.List w) = false

abbrev pub takes_a_sort : Word → Bool
takes_a_sort words.True = false
takes_a_sort words.False = false
takes_a_sort words.Not = false
takes_a_sort words.And = false
takes_a_sort words.Or = false
takes_a_sort words.Implies = false
takes_a_sort words.Equal = false
takes_a_sort words.Different = false
takes_a_sort words.If = false
takes_a_sort words.Less = false
takes_a_sort words.AtMost = false
takes_a_sort words.Greater = false
takes_a_sort words.AtLeast = false
takes_a_sort (words.Number w) = false
takes_a_sort (words.List w) = is_empty_list w

abbrev pub takes_one : Word → Bool
takes_one words.True = false
takes_one words.False = false
takes_one words.Not = true
takes_one words.And = false
takes_one words.Or = false
takes_one words.Implies = false
takes_one words.Equal = false
takes_one words.Different = false
takes_one words.If = false
takes_one words.Less = false
takes_one words.AtMost = false
takes_one words.Greater = false
takes_one words.AtLeast = false
takes_one (words.Number w) = takes_one_number w
takes_one (words.List w) = takes_one_list w

abbrev pub takes_two : Word → Bool
takes_two words.True = false
takes_two words.False = false
takes_two words.Not = false
takes_two words.And = true
takes_two words.Or = true
takes_two words.Implies = true
takes_two words.Equal = true
takes_two words.Different = true
takes_two words.If = false
takes_two words.Less = true
takes_two words.AtMost = true
takes_two words.Greater = true
takes_two words.AtLeast = true
takes_two (words.Number w) = takes_two_numbers w
takes_two (words.List w) = takes_two_lists w

abbrev pub takes_three : Word → Bool
takes_three words.True = false
takes_three words.False = false
takes_three words.Not = false
takes_three words.And = false
takes_three words.Or = false
takes_three words.Implies = false
takes_three words.Equal = false
takes_three words.Different = false
takes_three words.If = true
takes_three words.Less = false
takes_three words.AtMost = false
takes_three words.Greater = false
takes_three words.AtLeast = false
takes_three (words.Number w) = false
takes_three (words.List w) = false

abbrev pub has_shape : Row → Bool
has_shape (rows.Constant w to) = takes_none w
has_shape (rows.ListConstant w to) = takes_a_sort w
has_shape (rows.One w a to) = takes_one w
has_shape (rows.Two w a b to) = takes_two w
has_shape (rows.Three w a b c to) = takes_three w

first_shapes : list_all has_shape first_table ≡ true
unfolding first_table first_rows truth_rows sort_rows comparison_rows sum_rows quotient_rows extreme_rows step_rows
first_shapes = refl

sort_shapes : (s : SortId) → list_all has_shape (sort_rows s) ≡ true
unfolding sort_rows
sort_shapes s = refl

list_shapes : (e l : SortId) → list_all has_shape (list_rows e l) ≡ true
unfolding list_rows
list_shapes e l = refl

contained : (rs : List Row) (r : Row) → list_all has_shape rs ≡ true → Contains rs r → has_shape r ≡ true
contained rs r all c = All-contains (λ x. has_shape x ≡ true) rs r (AllPass-from_list_all has_shape rs all) c

pub rows_have_shapes : (ss : List SortInfo) (r : Row) → IsRow ss r → has_shape r ≡ true
rows_have_shapes ss r (of_front c) = contained first_table r first_shapes c
rows_have_shapes ss r (over_sort s l c) = contained (sort_rows s) r (sort_shapes s) c
rows_have_shapes ss r (over_list e l o c) = contained (list_rows e l) r (list_shapes e l) c

-- no row has another word
pub no_row : {P : Type 0} (ss : List SortInfo) (r : Row) → has_shape r ≡ false → IsRow ss r → P
no_row ss r e is = absurd (let z : false ≡ true = sym e ∙ rows_have_shapes ss r is in cc)

-- ---- where a row has its list sort
abbrev list_place_of_list : ListWord → SortId → SortId → Option SortId
list_place_of_list lists.Size a to = Some a
list_place_of_list lists.Tail a to = Some to
list_place_of_list lists.Rtail a to = Some to
list_place_of_list lists.Head a to = Some a
list_place_of_list lists.Rhead a to = Some a
list_place_of_list lists.Empty a to = Some to
list_place_of_list lists.Cons a to = Some to
list_place_of_list lists.Snoc a to = Some to
list_place_of_list lists.Concat a to = Some to
list_place_of_list lists.At a to = Some a
list_place_of_list lists.In a to = None

abbrev list_place_of_word : Word → SortId → SortId → Option SortId
list_place_of_word (words.List w) a to = list_place_of_list w a to
list_place_of_word words.True a to = None
list_place_of_word words.False a to = None
list_place_of_word words.Not a to = None
list_place_of_word words.And a to = None
list_place_of_word words.Or a to = None
list_place_of_word words.Implies a to = None
list_place_of_word words.Equal a to = None
list_place_of_word words.Different a to = None
list_place_of_word words.If a to = None
list_place_of_word words.Less a to = None
list_place_of_word words.AtMost a to = None
list_place_of_word words.Greater a to = None
list_place_of_word words.AtLeast a to = None
list_place_of_word (words.Number w) a to = None

abbrev pub list_place : Row → Option SortId
list_place (rows.Constant w to) = None
list_place (rows.ListConstant w to) = list_place_of_word w to to
list_place (rows.One w a to) = list_place_of_word w a to
list_place (rows.Two w a b to) = list_place_of_word w a to
list_place (rows.Three w a b c to) = None

-- and where it has the sort of the elements
abbrev element_place_of_list : ListWord → SortId → SortId → Option SortId
element_place_of_list lists.Cons a b = Some a
element_place_of_list lists.Snoc a b = Some b
element_place_of_list w a b = None

abbrev element_place_of_word : Word → SortId → SortId → Option SortId
element_place_of_word (words.List w) a b = element_place_of_list w a b
element_place_of_word w a b = None

abbrev pub element_place : Row → Option SortId
element_place (rows.Two w a b to) = element_place_of_word w a b
element_place r = None

abbrev is_absent : Option SortId → Bool
is_absent None = true
is_absent (Some s) = false

first_have_none : list_all (λ r. is_absent (list_place r)) first_table ≡ true
unfolding first_table first_rows truth_rows sort_rows comparison_rows sum_rows quotient_rows extreme_rows step_rows
first_have_none = refl

sort_have_none : (s : SortId) → list_all (λ r. is_absent (list_place r)) (sort_rows s) ≡ true
unfolding sort_rows
sort_have_none s = refl

absent : (rs : List Row) (r : Row) → list_all (λ r. is_absent (list_place r)) rs ≡ true → Contains rs r → is_absent (list_place r) ≡ true
absent rs r all c = All-contains (λ x. is_absent (list_place x) ≡ true) rs r (AllPass-from_list_all (λ r. is_absent (list_place r)) rs all) c

abbrev IsAt : SortId → Option SortId → Type 0
IsAt l None = Unit {0}
IsAt l (Some s) = l ≡ s

list_places : (e l : SortId) → Each (λ r. IsAt l (list_place r) × IsAt e (element_place r)) (list_rows e l)
unfolding list_rows
list_places e l = ((refl, tt), ((refl, refl), ((refl, refl), ((refl, tt), ((refl, tt), ((refl, tt), ((refl, tt), ((refl, tt), ((refl, tt), ((refl, tt), ((tt, tt), tt)))))))))))

none_is_some : {P : Type 0} (o : Option SortId) (s : SortId) → is_absent o ≡ true → o ≡ Some s → P
none_is_some None s a e = absurd cc
none_is_some (Some t) s a e = absurd (let z : false ≡ true = a in cc)

at_some : (l s : SortId) (o : Option SortId) → IsAt l o → o ≡ Some s → l ≡ s
at_some l s None at e = absurd cc
at_some l s (Some t) at e = at ∙ (let z : t ≡ s = cc in z)

-- a row with a list sort there is one over that list sort
pub over_a_list : (ss : List SortInfo) (r : Row) (l : SortId) → IsRow ss r → list_place r ≡ Some l → (e : SortId) × IsListOver ss e l × ((s : SortId) → element_place r ≡ Some s → e ≡ s)
over_a_list ss r l (of_front c) e = none_is_some (list_place r) l (absent first_table r first_have_none c) e
over_a_list ss r l (over_sort s k c) e = none_is_some (list_place r) l (absent (sort_rows s) r (sort_have_none s) c) e
over_a_list ss r l (over_list a b o c) e =
    let at = All-contains (λ x. IsAt b (list_place x) × IsAt a (element_place x)) (list_rows a b) r (All-from_recursion (λ x. IsAt b (list_place x) × IsAt a (element_place x)) (list_rows a b) (list_places a b)) c in
    let same : b ≡ l = at_some b l (list_place r) at.0 e in
    (a, subst (IsListOver ss a) same o, (λ s p. at_some a s (element_place r) at.1 p))
