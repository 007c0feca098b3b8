-- The rows of the table of built-in functions in a signature.
use Rattle.std.specs.Prelude.{◌≡◌, List}
use Rattle.data_theory.specs.declared.ids.SortId.{SortId}
use Rattle.data_theory.specs.declared.words.Word.{Word}
use Rattle.data_theory.specs.declared.rows.Row.{Row}
use Rattle.data_theory.specs.Rows.{row_word, row_sorts, row_result}
use Rattle.data_theory.specs.Signature.{Sig}
use Rattle.data_theory.specs.SignatureLaws.{RowStands}

-- a row of this word, with these sorts and this result, stands in the signature
pub record IsFoundRow (g : Sig) (w : Word) (sorts : List SortId) (to : SortId) : Type 0 where
  pub row : Row
  pub stands : RowStands g row
  pub word : row_word row ≡ w
  pub arguments : row_sorts row ≡ sorts
  pub result : row_result row ≡ to
