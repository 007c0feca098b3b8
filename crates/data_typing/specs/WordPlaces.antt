-- Words by numbers, so that code can compare them.
use Rattle.std.specs.Prelude.{ℕ, ◌+◌}
use Rattle.data_theory.specs.declared.words.NumberWord.{NumberWord}
use Rattle.data_theory.specs.declared.words.NumberWord.TheVariants as numbers
use Rattle.data_theory.specs.declared.words.ListWord.{ListWord}
use Rattle.data_theory.specs.declared.words.ListWord.TheVariants as lists
use Rattle.data_theory.specs.declared.words.Word.{Word}
use Rattle.data_theory.specs.declared.words.Word.TheVariants as words

abbrev pub number_place : NumberWord → ℕ
number_place numbers.Plus = 0
number_place numbers.Minus = 1
number_place numbers.Times = 2
number_place numbers.Div = 3
number_place numbers.Mod = 4
number_place numbers.Exp = 5
number_place numbers.Min = 6
number_place numbers.Max = 7
number_place numbers.Abs = 8
number_place numbers.Succ = 9
number_place numbers.Pred = 10
number_place numbers.PosToNat = 11
number_place numbers.NatToInt = 12
number_place numbers.PosToInt = 13
number_place numbers.NatToPos = 14
number_place numbers.IntToNat = 15
number_place numbers.IntToPos = 16

abbrev pub list_place : ListWord → ℕ
list_place lists.Empty = 0
list_place lists.Cons = 1
list_place lists.Snoc = 2
list_place lists.Concat = 3
list_place lists.Size = 4
list_place lists.At = 5
list_place lists.Head = 6
list_place lists.Rhead = 7
list_place lists.Tail = 8
list_place lists.Rtail = 9
list_place lists.In = 10

abbrev pub word_place : Word → ℕ
word_place words.True = 0
word_place words.False = 1
word_place words.Not = 2
word_place words.And = 3
word_place words.Or = 4
word_place words.Implies = 5
word_place words.Equal = 6
word_place words.Different = 7
word_place words.If = 8
word_place words.Less = 9
word_place words.AtMost = 10
word_place words.Greater = 11
word_place words.AtLeast = 12
word_place (words.Number w) = 13 + number_place w
word_place (words.List w) = 30 + list_place w
