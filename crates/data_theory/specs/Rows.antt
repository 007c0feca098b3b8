-- The rows of the table of built-in functions.
use Rattle.std.specs.Prelude.{ℕ, List, [], ◌∷◌, Some, None, map, Bool, true, false}
use Rattle.data_theory.specs.declared.ids.NameId.{NameId}
use Rattle.data_theory.specs.declared.ids.SortId.{SortId}
use Rattle.data_theory.specs.declared.words.Word.{Word}
use Rattle.data_theory.specs.declared.rows.Row.{Row}
use Rattle.data_theory.specs.declared.rows.Row.TheVariants.{Constant, ListConstant, One, Two, Three}
use Rattle.std.specs.List.{All, Contains}
use Rattle.data_theory.specs.Words.{text_of}
use Rattle.data_theory.specs.Functions.{Function}
use Rattle.data_theory.specs.Names.{place_in}

abbrev pub row_word : Row → Word
row_word (Constant w to) = w
row_word (ListConstant w to) = w
row_word (One w a to) = w
row_word (Two w a b to) = w
row_word (Three w a b c to) = w

abbrev pub row_sorts : Row → List SortId
row_sorts (Constant w to) = []
row_sorts (ListConstant w to) = to ∷ []
row_sorts (One w a to) = a ∷ []
row_sorts (Two w a b to) = a ∷ b ∷ []
row_sorts (Three w a b c to) = a ∷ b ∷ c ∷ []

abbrev pub row_result : Row → SortId
row_result (Constant w to) = to
row_result (ListConstant w to) = to
row_result (One w a to) = to
row_result (Two w a b to) = to
row_result (Three w a b c to) = to

abbrev pub row_is_list_constant : Row → Bool
row_is_list_constant (Constant w to) = false
row_is_list_constant (ListConstant w to) = true
row_is_list_constant (One w a to) = false
row_is_list_constant (Two w a b to) = false
row_is_list_constant (Three w a b c to) = false

abbrev pub row_function : NameId → Row → Function
row_function n r = record { name = n; sorts = row_sorts r; result = row_result r; word = Some (row_word r); is_list_constant = row_is_list_constant r; projections = []; test = None }

-- how its name is written
abbrev pub row_text : Row → List ℕ
row_text r = text_of (row_word r)

-- the function of a row, where the table of texts has its name
abbrev pub built_in : List (List ℕ) → Row → Function
built_in texts r = row_function (place_in texts (row_text r)) r

-- the functions of rows
abbrev pub built_ins : List (List ℕ) → List Row → List Function
built_ins texts rows = map (built_in texts) rows

-- the names of rows are in the table of texts
abbrev pub AreNamed : List (List ℕ) → List Row → Type 0
AreNamed texts rows = All (λ r. Contains texts (row_text r)) rows
