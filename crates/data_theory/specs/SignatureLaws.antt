-- What the laws of signatures say.
use Rattle.std.specs.Prelude.{◌≡◌, ◌<◌, ℕ, length, map, Some, slice_get}
use Rattle.std.specs.List.{Contains}
use Rattle.data_theory.specs.declared.ids.SortId.{SortId}
use Rattle.data_theory.specs.declared.words.Word.TheVariants as words
use Rattle.data_theory.specs.declared.rows.Row.{Row}
use Rattle.data_theory.specs.declared.rows.Row.TheVariants as rows
use Rattle.data_theory.specs.Terms.{Symbol, truth, falsity, negation, conjunction, disjunction, implication}
use Rattle.data_theory.specs.Sorts.{IsListOver}
use Rattle.data_theory.specs.Rows.{row_word, row_sorts, row_result, row_text, built_in}
use Rattle.data_theory.specs.Table.{bool_sort, sort_rows, list_rows, first_table}
use Rattle.data_theory.specs.Signature.{Sig, IsFun}
use Rattle.data_theory.specs.Rewriting.{AreSorts}
use Rattle.data_theory.specs.IdSymbols.{word_symbol}
use Rattle.data_theory.specs.IdData.{data_meant}
use Rattle.data_theory.specs.IdTerms.{sort_under, symbol_under, variable_sorts}
use Rattle.data_theory.specs.WholeSignatures.{IsSignature}

-- the symbol of a row, by what its sorts mean
abbrev pub symbol_of_row : Sig → Row → Symbol
symbol_of_row g r = word_symbol (row_word r) (map (sort_under g) (row_sorts r)) (sort_under g (row_result r))

-- the function of a row stands at a number, is found by its name and sorts there and nowhere else, and means the row's symbol
pub record RowStandsAt (g : Sig) (r : Row) (k : ℕ) : Type 0 where
  pub stands : slice_get g.functions k ≡ Some (built_in g.texts r)
  pub found : IsFun g (row_text r) (row_sorts r) k
  pub alone : (j : ℕ) → IsFun g (row_text r) (row_sorts r) j → j ≡ k
  pub means : symbol_under g (record { 0 = k }) ≡ symbol_of_row g r

abbrev pub RowStands : Sig → Row → Type 0
RowStands g r = (k : ℕ) × RowStandsAt g r k

-- the functions of the table stand in every signature, over each of its sorts
abbrev pub FirstFunctionsStand : Type 0
FirstFunctionsStand = (g : Sig) → IsSignature g → (k : ℕ) (r : Row) → slice_get first_table k ≡ Some r → RowStandsAt g r k

abbrev pub FunctionsOverSortsStand : Type 0
FunctionsOverSortsStand = (g : Sig) → IsSignature g → (s : SortId) → s.0 < length g.sorts → (r : Row) → Contains (sort_rows s) r → RowStands g r

abbrev pub FunctionsOverListsStand : Type 0
FunctionsOverListsStand = (g : Sig) → IsSignature g → (e l : SortId) → IsListOver g.sorts e l → (r : Row) → Contains (list_rows e l) r → RowStands g r

-- `true`, `false`, `!`, `&&`, `||` and `=>` have the numbers 6 to 11
pub record HasTruthFunctions (g : Sig) : Type 0 where
  pub true_stands : RowStandsAt g (rows.Constant words.True bool_sort) 6
  pub false_stands : RowStandsAt g (rows.Constant words.False bool_sort) 7
  pub not_stands : RowStandsAt g (rows.One words.Not bool_sort bool_sort) 8
  pub and_stands : RowStandsAt g (rows.Two words.And bool_sort bool_sort bool_sort) 9
  pub or_stands : RowStandsAt g (rows.Two words.Or bool_sort bool_sort bool_sort) 10
  pub implies_stands : RowStandsAt g (rows.Two words.Implies bool_sort bool_sort bool_sort) 11
  pub true_means : symbol_under g (record { 0 = 6 }) ≡ truth
  pub false_means : symbol_under g (record { 0 = 7 }) ≡ falsity
  pub not_means : symbol_under g (record { 0 = 8 }) ≡ negation
  pub and_means : symbol_under g (record { 0 = 9 }) ≡ conjunction
  pub or_means : symbol_under g (record { 0 = 10 }) ≡ disjunction
  pub implies_means : symbol_under g (record { 0 = 11 }) ≡ implication

abbrev pub SignaturesHaveTruthFunctions : Type 0
SignaturesHaveTruthFunctions = (g : Sig) → IsSignature g → HasTruthFunctions g

-- the sorts of variables are sorts of the data that a signature means
abbrev pub VariablesHaveSortsOfTheData : Type 0
VariablesHaveSortsOfTheData = (g : Sig) → IsSignature g → AreSorts (data_meant g) (variable_sorts g)
