-- The built-in functions of a name, by the table of the language.
use Rattle.std.specs.Prelude.{List, [], ◌∷◌, Bool, true, false, cond, map, get_or, slice_get, Option}
use Rattle.std.specs.List.{filter, list_any}
use Rattle.data_theory.specs.declared.ids.SortId.{SortId}
use Rattle.data_theory.specs.declared.words.ListWord.TheVariants as lists
use Rattle.data_theory.specs.declared.words.Word.{Word}
use Rattle.data_theory.specs.declared.words.Word.TheVariants as words
use Rattle.data_theory.specs.declared.rows.Row.{Row}
use Rattle.data_theory.specs.Terms.{boolean, positive, natural, integer}
use Rattle.data_theory.specs.Rows.{row_word, row_sorts, row_result, row_is_list_constant}
use Rattle.data_theory.specs.RowsOfWords.{rows_of}
use Rattle.data_theory.specs.IdSymbols.{word_symbol}
use Rattle.sort_table.specs.Expressions.{Name}
use Rattle.sort_table.specs.Duplicates.{any_sort, lists_of_any}
use Rattle.data_typing.specs.Typings.{Place, itself, elements, settled, over, Signature, Scheme, scheme_at}

-- The table numbers its sorts: Bool, Pos, Nat and Int from 0, and here 4 stands for any sort S and 5 for the lists over it.
abbrev pub place_numbered : SortId → Place
place_numbered i = get_or (settled boolean ∷ settled positive ∷ settled natural ∷ settled integer ∷ itself ∷ elements ∷ []) i.0 itself

abbrev pub hangs : Place → Bool
hangs (settled s) = false
hangs _ = true

abbrev pub row_places : Row → List Place
row_places r = map place_numbered (row_sorts r)

-- whether a row hangs on S, and whether it doesn't; `[]` is no word
abbrev pub is_over_any : Row → Bool
is_over_any r = cond (row_is_list_constant r) false (list_any hangs (row_places r))

abbrev pub is_settled : Row → Bool
is_settled r = cond (row_is_list_constant r) false (cond (list_any hangs (row_places r)) false true)

-- whether the wanted sort may choose S
abbrev pub may_go_by_result : Word → Bool
may_go_by_result words.If = true
may_go_by_result (words.List lists.Cons) = true
may_go_by_result (words.List lists.Snoc) = true
may_go_by_result (words.List lists.Concat) = true
may_go_by_result (words.List lists.Tail) = true
may_go_by_result (words.List lists.Rtail) = true
may_go_by_result _ = false

-- the function of a word over any sort S
abbrev pub word_scheme : Word → List Place → Place → Bool → Scheme
word_scheme w ps p b = record { symbol = λ s. word_symbol w (map (over s) ps) (over s p); arguments = ps; result = p; by_result = b }

abbrev pub row_scheme : Row → Scheme
row_scheme r = word_scheme (row_word r) (row_places r) (place_numbered (row_result r)) (may_go_by_result (row_word r))

-- of a row that doesn't hang on S it is the same at each S
abbrev pub row_signature : Row → Signature
row_signature r = scheme_at (row_scheme r) boolean

-- the rows of a name, in the order of the table
abbrev pub named_rows : Name → List Row
named_rows f = rows_of f any_sort lists_of_any

-- those of fixed sorts
abbrev pub built_ins : Name → List Signature
built_ins f = map row_signature (filter is_settled (named_rows f))

-- the one over any sort S
abbrev pub scheme_named : Name → Option Scheme
scheme_named f = slice_get (map row_scheme (filter is_over_any (named_rows f))) 0
