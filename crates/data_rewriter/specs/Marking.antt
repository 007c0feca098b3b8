-- How the functions of a signature get their signs.
use Rattle.std.specs.Prelude.{◌≡◌, ◌≢◌, ◌⊎◌, List, [], cond, length, Option, Some, None, IfSome, slice_get}
use Rattle.std.specs.List.{All}
use Rattle.data_theory.specs.declared.ids.SortId.{SortId}
use Rattle.data_theory.specs.declared.ids.FunId.{FunId}
use Rattle.data_theory.specs.declared.rows.Row.{Row}
use Rattle.data_theory.specs.declared.words.Word.{Word}
use Rattle.data_theory.specs.Functions.{Function}
use Rattle.data_theory.specs.Rows.{row_word, row_sorts, row_result, row_is_list_constant}
use Rattle.data_theory.specs.Signature.{Sig}
use Rattle.data_theory.specs.SignatureLaws.{symbol_of_row}
use Rattle.data_theory.specs.IdTables.{IsRow}
use Rattle.data_theory.specs.IdTerms.{symbol_under}
use Rattle.data_rewriter.specs.declared.signs.Sign.{Sign}
use Rattle.data_rewriter.specs.declared.signs.Sign.TheVariants.{Other}
use Rattle.data_rewriter.specs.Signs.{HasSign, sign_at}

-- the sign of a row's function
abbrev pub IsSignOf : Sig → Row → Sign → Type 0
IsSignOf sig r s = IsRow sig.sorts r → HasSign sig (symbol_of_row sig r) s

-- the row has this word, these arguments' sorts and this result
pub record IsOfRow (r : Row) (w : Word) (args : List SortId) (to : SortId) : Type 0 where
  pub word : row_word r ≡ w
  pub arguments : cond (row_is_list_constant r) [] (row_sorts r) ≡ args
  pub result : row_result r ≡ to

-- the sign of a function by its word; a declared function has none yet
abbrev pub IsSignByWord : Sig → FunId → Option Word → Sign → Type 0
IsSignByWord sig f None s = s ≡ Other
IsSignByWord sig f (Some w) s = HasSign sig (symbol_under sig f) s

abbrev pub IsFirstSign : Sig → FunId → Sign → Type 0
IsFirstSign sig f s = (h : Function) → slice_get sig.functions f.0 ≡ Some h → IsSignByWord sig f h.word s

-- the function has this sign, which isn't that of functions without equations
abbrev pub IsMark : Sig → FunId → Sign → Type 0
IsMark sig f s = HasSign sig (symbol_under sig f) s × (s ≢ Other)

-- some functions got such signs, and the others have what they had
pub record Marks (sig : Sig) (old new : List Sign) : Type 0 where
  pub count : length new ≡ length old
  pub each : (f : FunId) → (sign_at new f ≡ sign_at old f) ⊎ IsMark sig f (sign_at new f)

abbrev pub IsMarked : List Sign → FunId → Type 0
IsMarked signs f = sign_at signs f ≢ Other

abbrev pub AreMarked : List Sign → List FunId → Type 0
AreMarked signs fs = All (IsMarked signs) fs

abbrev pub AreMarkedWhereThere : List Sign → List (Option FunId) → Type 0
AreMarkedWhereThere signs os = All (λ (o : Option FunId). IfSome o (IsMarked signs)) os
