-- A name that is no word's finds no row.
use Rattle.std.proofs.Common.{◌≡◌, ℕ, Bool, true, false, cond, List, [], ◌∷◌, refl, ap, ◌∙◌, subst}
use Rattle.std.specs.List.{filter}
use Rattle.std.proofs.lemmas.Slice.Eq.{bytes_eq-Decides}
use Rattle.data_theory.specs.declared.rows.Row.{Row}
use Rattle.data_theory.specs.declared.words.NumberWord.{NumberWord}
use Rattle.data_theory.specs.declared.words.NumberWord.TheVariants as numbers
use Rattle.data_theory.specs.declared.words.ListWord.{ListWord}
use Rattle.data_theory.specs.declared.words.ListWord.TheVariants as lists
use Rattle.data_theory.specs.declared.words.Word.{Word}
use Rattle.data_theory.specs.declared.words.Word.TheVariants as words
use Rattle.data_theory.specs.Words.{text_of, number_text, list_text}
use Rattle.data_theory.specs.Rows.{row_text, row_word}
use Rattle.data_theory.specs.RowsOfWords.{has_name, names_rows}

number_named : (w : NumberWord) → names_rows (number_text w) ≡ true
number_named numbers.Plus = refl
number_named numbers.Minus = refl
number_named numbers.Times = refl
number_named numbers.Div = refl
number_named numbers.Mod = refl
number_named numbers.Exp = refl
number_named numbers.Min = refl
number_named numbers.Max = refl
number_named numbers.Abs = refl
number_named numbers.Succ = refl
number_named numbers.Pred = refl
number_named numbers.PosToNat = refl
number_named numbers.NatToInt = refl
number_named numbers.PosToInt = refl
number_named numbers.NatToPos = refl
number_named numbers.IntToNat = refl
number_named numbers.IntToPos = refl

list_named : (w : ListWord) → names_rows (list_text w) ≡ true
list_named lists.Empty = refl
list_named lists.Cons = refl
list_named lists.Snoc = refl
list_named lists.Concat = refl
list_named lists.Size = refl
list_named lists.At = refl
list_named lists.Head = refl
list_named lists.Rhead = refl
list_named lists.Tail = refl
list_named lists.Rtail = refl
list_named lists.In = refl

word_named : (w : Word) → names_rows (text_of w) ≡ true
word_named words.True = refl
word_named words.False = refl
word_named words.Not = refl
word_named words.And = refl
word_named words.Or = refl
word_named words.Implies = refl
word_named words.Equal = refl
word_named words.Different = refl
word_named words.If = refl
word_named words.Less = refl
word_named words.AtMost = refl
word_named words.Greater = refl
word_named words.AtLeast = refl
word_named (words.Number w) = number_named w
word_named (words.List w) = list_named w

pub no_rows : (t : List ℕ) (rs : List Row) → names_rows t ≡ false → filter (has_name t) rs ≡ []
no_rows t [] none = refl
no_rows t (r ∷ rs) none = by_test (no_rows t rs none) (has_name t r) refl
  where
    by_test : filter (has_name t) rs ≡ [] → (b : Bool) → has_name t r ≡ b → filter (has_name t) (r ∷ rs) ≡ []
    by_test rest true e =
        let same : row_text r ≡ t = (bytes_eq-Decides (row_text r) t).0 e in
        let named : names_rows t ≡ true = subst (λ (x : List ℕ). names_rows x ≡ true) same (word_named (row_word r)) in
        cc
    by_test rest false e = ap (λ (b : Bool). cond b (r ∷ filter (has_name t) rs) (filter (has_name t) rs)) e ∙ rest
