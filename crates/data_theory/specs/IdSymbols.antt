-- Which symbol the number of a function means.
use Rattle.std.specs.Prelude.{ℕ, suc, List, [], ◌∷◌, ◌++◌, map, length, take, Option, Some, None, slice_get}
use Rattle.data_theory.specs.declared.ids.SortId.{SortId}
use Rattle.data_theory.specs.declared.ids.FunId.{FunId}
use Rattle.data_theory.specs.declared.words.NumberWord.{NumberWord}
use Rattle.data_theory.specs.declared.words.NumberWord.TheVariants as numbers
use Rattle.data_theory.specs.declared.words.ListWord.{ListWord}
use Rattle.data_theory.specs.declared.words.ListWord.TheVariants as lists
use Rattle.data_theory.specs.declared.words.Word.{Word}
use Rattle.data_theory.specs.declared.words.Word.TheVariants as words
use Rattle.data_theory.specs.Terms.{Sort, boolean, list, less, at_most, greater, at_least, add, subtract, multiply, divide, modulo, power, minimum, maximum, absolute, successor, predecessor, to_positive, to_natural, Symbol, truth, falsity, negation, conjunction, disjunction, implication, equality, inequality, conditional, comparison, arithmetic, minus, upcast, empty, cons, snoc, concatenation, size, element_at, head, rhead, tail, rtail, membership, function}
use Rattle.data_theory.specs.Functions.{Function}

-- the first of these sorts, and the element sort of a list sort
abbrev pub first_of_sorts : List Sort → Sort
first_of_sorts [] = boolean
first_of_sorts (s ∷ ss) = s

abbrev pub element_of : Sort → Sort
element_of (list s) = s
element_of s = boolean

-- ---- the symbol of a word, by the sorts by which its function is found, and by the sort of its result
abbrev pub number_symbol : NumberWord → List Sort → Sort → Symbol
number_symbol numbers.Plus ss to = arithmetic add ss to
number_symbol numbers.Minus (s ∷ []) to = minus s
number_symbol numbers.Minus ss to = arithmetic subtract ss to
number_symbol numbers.Times ss to = arithmetic multiply ss to
number_symbol numbers.Div ss to = arithmetic divide ss to
number_symbol numbers.Mod ss to = arithmetic modulo ss to
number_symbol numbers.Exp ss to = arithmetic power ss to
number_symbol numbers.Min ss to = arithmetic minimum ss to
number_symbol numbers.Max ss to = arithmetic maximum ss to
number_symbol numbers.Abs ss to = arithmetic absolute ss to
number_symbol numbers.Succ ss to = arithmetic successor ss to
number_symbol numbers.Pred ss to = arithmetic predecessor ss to
number_symbol numbers.PosToNat ss to = upcast (first_of_sorts ss) to
number_symbol numbers.NatToInt ss to = upcast (first_of_sorts ss) to
number_symbol numbers.PosToInt ss to = upcast (first_of_sorts ss) to
number_symbol numbers.NatToPos ss to = arithmetic to_positive ss to
number_symbol numbers.IntToNat ss to = arithmetic to_natural ss to
number_symbol numbers.IntToPos ss to = arithmetic to_positive ss to

abbrev pub list_symbol : ListWord → List Sort → Sort → Symbol
list_symbol lists.Empty ss to = empty (element_of to)
list_symbol lists.Cons ss to = cons (element_of to)
list_symbol lists.Snoc ss to = snoc (element_of to)
list_symbol lists.Concat ss to = concatenation (element_of to)
list_symbol lists.Size ss to = size (element_of (first_of_sorts ss))
list_symbol lists.At ss to = element_at to
list_symbol lists.Head ss to = head to
list_symbol lists.Rhead ss to = rhead to
list_symbol lists.Tail ss to = tail (element_of to)
list_symbol lists.Rtail ss to = rtail (element_of to)
list_symbol lists.In ss to = membership (first_of_sorts ss)

abbrev pub word_symbol : Word → List Sort → Sort → Symbol
word_symbol words.True ss to = truth
word_symbol words.False ss to = falsity
word_symbol words.Not ss to = negation
word_symbol words.And ss to = conjunction
word_symbol words.Or ss to = disjunction
word_symbol words.Implies ss to = implication
word_symbol words.Equal ss to = equality (first_of_sorts ss)
word_symbol words.Different ss to = inequality (first_of_sorts ss)
word_symbol words.If ss to = conditional to
word_symbol words.Less ss to = comparison less (first_of_sorts ss)
word_symbol words.AtMost ss to = comparison at_most (first_of_sorts ss)
word_symbol words.Greater ss to = comparison greater (first_of_sorts ss)
word_symbol words.AtLeast ss to = comparison at_least (first_of_sorts ss)
word_symbol (words.Number w) ss to = number_symbol w ss to
word_symbol (words.List w) ss to = list_symbol w ss to

-- ---- the symbol of a function
-- the number of a function without a word, which is a declared one
abbrev pub if_declared : ℕ → Option Word → List FunId
if_declared k None = record { 0 = k } ∷ []
if_declared k (Some w) = []

-- the declared ones among functions that stand at this number and behind it
abbrev pub declared_from : ℕ → List Function → List FunId
declared_from k [] = []
declared_from k (f ∷ fs) = if_declared k f.word ++ declared_from (suc k) fs

-- what a function means, where a sort means this and d declared functions stand in front
abbrev pub symbol_of : (SortId → Sort) → ℕ → Function → Option Word → Symbol
symbol_of m d f None = function d
symbol_of m d f (Some w) = word_symbol w (map m f.sorts) (m f.result)

-- `true` stands for a function that isn't there
abbrev pub symbol_at : (SortId → Sort) → ℕ → Option Function → Symbol
symbol_at m d None = truth
symbol_at m d (Some f) = symbol_of m d f f.word

-- the symbol that a number means
abbrev pub symbol_meant : (SortId → Sort) → List Function → FunId → Symbol
symbol_meant m fs i = symbol_at m (length (declared_from 0 (take i.0 fs))) (slice_get fs i.0)
