-- How the names of the built-in functions are written, by the mCRL2 language reference.
use Rattle.std.specs.Prelude.{ℕ, List, codes}
use Rattle.data_theory.specs.declared.words.NumberWord.{NumberWord}
use Rattle.data_theory.specs.declared.words.NumberWord.TheVariants as numbers
use Rattle.data_theory.specs.declared.words.ListWord.{ListWord}
use Rattle.data_theory.specs.declared.words.ListWord.TheVariants as lists
use Rattle.data_theory.specs.declared.words.Word.{Word}
use Rattle.data_theory.specs.declared.words.Word.TheVariants as words

abbrev pub number_text : NumberWord → List ℕ
number_text numbers.Plus = codes "+"
number_text numbers.Minus = codes "-"
number_text numbers.Times = codes "*"
number_text numbers.Div = codes "div"
number_text numbers.Mod = codes "mod"
number_text numbers.Exp = codes "exp"
number_text numbers.Min = codes "min"
number_text numbers.Max = codes "max"
number_text numbers.Abs = codes "abs"
number_text numbers.Succ = codes "succ"
number_text numbers.Pred = codes "pred"
number_text numbers.PosToNat = codes "Pos2Nat"
number_text numbers.NatToInt = codes "Nat2Int"
number_text numbers.PosToInt = codes "Pos2Int"
number_text numbers.NatToPos = codes "Nat2Pos"
number_text numbers.IntToNat = codes "Int2Nat"
number_text numbers.IntToPos = codes "Int2Pos"

abbrev pub list_text : ListWord → List ℕ
list_text lists.Empty = codes "[]"
list_text lists.Cons = codes "|>"
list_text lists.Snoc = codes "<|"
list_text lists.Concat = codes "++"
list_text lists.Size = codes "#"
list_text lists.At = codes "."
list_text lists.Head = codes "head"
list_text lists.Rhead = codes "rhead"
list_text lists.Tail = codes "tail"
list_text lists.Rtail = codes "rtail"
list_text lists.In = codes "in"

abbrev pub text_of : Word → List ℕ
text_of words.True = codes "true"
text_of words.False = codes "false"
text_of words.Not = codes "!"
text_of words.And = codes "&&"
text_of words.Or = codes "||"
text_of words.Implies = codes "=>"
text_of words.Equal = codes "=="
text_of words.Different = codes "!="
text_of words.If = codes "if"
text_of words.Less = codes "<"
text_of words.AtMost = codes "<="
text_of words.Greater = codes ">"
text_of words.AtLeast = codes ">="
text_of (words.Number w) = number_text w
text_of (words.List w) = list_text w
