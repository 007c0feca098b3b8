-- The sorts and functions of a text, and which terms are well sorted over them.
use Rattle.std.specs.Prelude.{◌≡◌, ℕ, zero, suc, ◌<◌, ◌^◌, List, [], ◌∷◌, length, get_or, ℤ, pos, ◌≤ℤ◌}
use Rattle.std.specs.List.{All}
use Rattle.data_theory.specs.Terms.{Sort, boolean, positive, natural, integer, list, named, Operation, add, subtract, multiply, divide, modulo, power, minimum, maximum, absolute, successor, predecessor, to_positive, to_natural, Symbol, truth, falsity, negation, conjunction, disjunction, implication, equality, inequality, conditional, comparison, arithmetic, minus, upcast, empty, cons, snoc, concatenation, size, element_at, head, rhead, tail, rtail, membership, function, Term, Terms, variable, numeral, unknown, application, none, more, apply}
use Rattle.data_theory.specs.Arithmetic.{magnitude}

-- what a declared function is: a constructor, the projection of a constructor's place, the recogniser of a constructor, or
-- a mapping; constructors go by their numbers as functions, and places count from 0
pub data Role : Type 0 where
  constructor : Role
  projection : ℕ → ℕ → Role
  recogniser : ℕ → Role
  mapping : Role

pub record DeclaredFunction : Type 0 where
  pub arguments : List Sort
  pub result : Sort
  pub role : Role

-- a declared sort has no constructors, has them from `cons` declarations, or is a `struct`
pub data Construction : Type 0 where
  without_constructors : Construction
  by_declarations : Construction
  structured : Construction

-- the declared sorts and functions, each at its number
pub record Data : Type 0 where
  pub sorts : List Construction
  pub functions : List DeclaredFunction

abbrev pub function_at : Data → ℕ → DeclaredFunction
function_at g k = get_or g.functions k (record { arguments = []; result = boolean; role = mapping })

abbrev pub sort_at : Data → ℕ → Construction
sort_at g d = get_or g.sorts d by_declarations

-- a sort over the declared ones
abbrev pub IsSort : Data → Sort → Type 0
IsSort g boolean = Unit {0}
IsSort g positive = Unit {0}
IsSort g natural = Unit {0}
IsSort g integer = Unit {0}
IsSort g (list s) = IsSort g s
IsSort g (named d) = d < length g.sorts

pub data IsNumberSort : Sort → Type 0 where
  positives : IsNumberSort positive
  naturals : IsNumberSort natural
  integers : IsNumberSort integer

-- Pos2Nat, Nat2Int and Pos2Int
pub data IsUpcast : Sort → Sort → Type 0 where
  pos2nat : IsUpcast positive natural
  nat2int : IsUpcast natural integer
  pos2int : IsUpcast positive integer

-- the signatures of the operations on numbers
pub data IsOperation : Operation → List Sort → Sort → Type 0 where
  add_pos_pos : IsOperation add (positive ∷ positive ∷ []) positive
  add_pos_nat : IsOperation add (positive ∷ natural ∷ []) positive
  add_nat_pos : IsOperation add (natural ∷ positive ∷ []) positive
  add_nat_nat : IsOperation add (natural ∷ natural ∷ []) natural
  add_int_int : IsOperation add (integer ∷ integer ∷ []) integer
  subtract_pos : IsOperation subtract (positive ∷ positive ∷ []) integer
  subtract_nat : IsOperation subtract (natural ∷ natural ∷ []) integer
  subtract_int : IsOperation subtract (integer ∷ integer ∷ []) integer
  multiply_pos : IsOperation multiply (positive ∷ positive ∷ []) positive
  multiply_nat : IsOperation multiply (natural ∷ natural ∷ []) natural
  multiply_int : IsOperation multiply (integer ∷ integer ∷ []) integer
  div_nat : IsOperation divide (natural ∷ positive ∷ []) natural
  div_int : IsOperation divide (integer ∷ positive ∷ []) integer
  mod_nat : IsOperation modulo (natural ∷ positive ∷ []) natural
  mod_int : IsOperation modulo (integer ∷ positive ∷ []) natural
  exp_pos : IsOperation power (positive ∷ natural ∷ []) positive
  exp_nat : IsOperation power (natural ∷ natural ∷ []) natural
  exp_int : IsOperation power (integer ∷ natural ∷ []) integer
  min_pos : IsOperation minimum (positive ∷ positive ∷ []) positive
  min_nat : IsOperation minimum (natural ∷ natural ∷ []) natural
  min_int : IsOperation minimum (integer ∷ integer ∷ []) integer
  max_pos : IsOperation maximum (positive ∷ positive ∷ []) positive
  max_nat : IsOperation maximum (natural ∷ natural ∷ []) natural
  max_int : IsOperation maximum (integer ∷ integer ∷ []) integer
  abs_int : IsOperation absolute (integer ∷ []) natural
  succ_pos : IsOperation successor (positive ∷ []) positive
  succ_nat : IsOperation successor (natural ∷ []) positive
  succ_int : IsOperation successor (integer ∷ []) integer
  pred_pos : IsOperation predecessor (positive ∷ []) natural
  pred_nat : IsOperation predecessor (natural ∷ []) integer
  pred_int : IsOperation predecessor (integer ∷ []) integer
  nat2pos : IsOperation to_positive (natural ∷ []) positive
  int2nat : IsOperation to_natural (integer ∷ []) natural
  int2pos : IsOperation to_positive (integer ∷ []) positive

-- the sorts of a symbol's arguments
abbrev pub argument_sorts : Data → Symbol → List Sort
argument_sorts g truth = []
argument_sorts g falsity = []
argument_sorts g negation = boolean ∷ []
argument_sorts g conjunction = boolean ∷ boolean ∷ []
argument_sorts g disjunction = boolean ∷ boolean ∷ []
argument_sorts g implication = boolean ∷ boolean ∷ []
argument_sorts g (equality s) = s ∷ s ∷ []
argument_sorts g (inequality s) = s ∷ s ∷ []
argument_sorts g (conditional s) = boolean ∷ s ∷ s ∷ []
argument_sorts g (comparison c s) = s ∷ s ∷ []
argument_sorts g (arithmetic op ss to) = ss
argument_sorts g (minus s) = s ∷ []
argument_sorts g (upcast s to) = s ∷ []
argument_sorts g (empty s) = []
argument_sorts g (cons s) = s ∷ list s ∷ []
argument_sorts g (snoc s) = list s ∷ s ∷ []
argument_sorts g (concatenation s) = list s ∷ list s ∷ []
argument_sorts g (size s) = list s ∷ []
argument_sorts g (element_at s) = list s ∷ natural ∷ []
argument_sorts g (head s) = list s ∷ []
argument_sorts g (rhead s) = list s ∷ []
argument_sorts g (tail s) = list s ∷ []
argument_sorts g (rtail s) = list s ∷ []
argument_sorts g (membership s) = s ∷ list s ∷ []
argument_sorts g (function k) = (function_at g k).arguments

-- the sort of a symbol's result
abbrev pub result_sort : Data → Symbol → Sort
result_sort g (conditional s) = s
result_sort g (arithmetic op ss to) = to
result_sort g (minus s) = integer
result_sort g (upcast s to) = to
result_sort g (empty s) = list s
result_sort g (cons s) = list s
result_sort g (snoc s) = list s
result_sort g (concatenation s) = list s
result_sort g (size s) = natural
result_sort g (element_at s) = s
result_sort g (head s) = s
result_sort g (rhead s) = s
result_sort g (tail s) = list s
result_sort g (rtail s) = list s
result_sort g (function k) = (function_at g k).result
result_sort g _ = boolean

-- which symbols there are: the built-in ones over any sort, and the declared functions
abbrev pub IsSymbol : Data → Symbol → Type 0
IsSymbol g truth = Unit {0}
IsSymbol g falsity = Unit {0}
IsSymbol g negation = Unit {0}
IsSymbol g conjunction = Unit {0}
IsSymbol g disjunction = Unit {0}
IsSymbol g implication = Unit {0}
IsSymbol g (equality s) = IsSort g s
IsSymbol g (inequality s) = IsSort g s
IsSymbol g (conditional s) = IsSort g s
IsSymbol g (comparison c s) = IsNumberSort s
IsSymbol g (arithmetic op ss to) = IsOperation op ss to
IsSymbol g (minus s) = IsNumberSort s
IsSymbol g (upcast s to) = IsUpcast s to
IsSymbol g (empty s) = IsSort g s
IsSymbol g (cons s) = IsSort g s
IsSymbol g (snoc s) = IsSort g s
IsSymbol g (concatenation s) = IsSort g s
IsSymbol g (size s) = IsSort g s
IsSymbol g (element_at s) = IsSort g s
IsSymbol g (head s) = IsSort g s
IsSymbol g (rhead s) = IsSort g s
IsSymbol g (tail s) = IsSort g s
IsSymbol g (rtail s) = IsSort g s
IsSymbol g (membership s) = IsSort g s
IsSymbol g (function k) = k < length g.functions

-- the numbers of Pos, Nat and Int
abbrev pub IsNumberOf : Sort → ℤ → Type 0
IsNumberOf positive z = pos 1 ≤ℤ z
IsNumberOf natural z = pos 0 ≤ℤ z
IsNumberOf integer z = Unit {0}
IsNumberOf _ z = ⊥

-- which numbers have a numeral of the sort: those of the sort whose magnitude is at most 2^128 - 1
abbrev pub HasNumeral : Sort → ℤ → Type 0
HasNumeral s z = IsNumberOf s z × (magnitude z < 2 ^ 128)

-- the variable with this number has the sort, by a list of the variables' sorts
abbrev pub Declares : List Sort → ℕ → Sort → Type 0
Declares [] v s = ⊥
Declares (a ∷ vs) zero s = a ≡ s
Declares (a ∷ vs) (suc v) s = Declares vs v s

-- the symbol applied to these terms merges with none of them
abbrev pub StandsUnmerged : Symbol → Terms → Type 0
StandsUnmerged f ts = apply f ts ≡ application f ts

-- A term of a sort, over variables of these sorts. Over no variables, `HasSort g []`, it is a closed term of the sort.
abbrev mutual
  pub HasSort : Data → List Sort → Term → Sort → Type 0
  HasSort g vs (variable v) s = Declares vs v s
  HasSort g vs (numeral a z) s = (a ≡ s) × HasNumeral s z
  HasSort g vs (unknown d k) s = (s ≡ named d) × (d < length g.sorts) × (sort_at g d ≡ without_constructors)
  HasSort g vs (application f ts) s = IsSymbol g f × HaveSorts g vs ts (argument_sorts g f) × (result_sort g f ≡ s) × StandsUnmerged f ts

  pub HaveSorts : Data → List Sort → Terms → List Sort → Type 0
  HaveSorts g vs none [] = Unit {0}
  HaveSorts g vs none (s ∷ ss) = ⊥
  HaveSorts g vs (more t ts) [] = ⊥
  HaveSorts g vs (more t ts) (s ∷ ss) = HasSort g vs t s × HaveSorts g vs ts ss

-- what a declared function's role asks of its sorts; only a `struct` has projections and recognisers
abbrev pub FitsRole : Data → DeclaredFunction → Role → Type 0
FitsRole g f constructor = (d : ℕ) × (f.result ≡ named d)
FitsRole g f (projection c i) = (d : ℕ) × (f.arguments ≡ named d ∷ []) × ((function_at g c).role ≡ constructor) × ((function_at g c).result ≡ named d) × (i < length (function_at g c).arguments) × (f.result ≡ get_or (function_at g c).arguments i boolean) × (sort_at g d ≡ structured)
FitsRole g f (recogniser c) = (d : ℕ) × (f.arguments ≡ named d ∷ []) × ((function_at g c).role ≡ constructor) × ((function_at g c).result ≡ named d) × (f.result ≡ boolean) × (sort_at g d ≡ structured)
FitsRole g f mapping = Unit {0}

-- each function's role fits its sorts, and its result and its arguments have sorts of the data
pub record IsData (g : Data) : Type 0 where
  pub roles : (k : ℕ) → k < length g.functions → FitsRole g (function_at g k) (function_at g k).role
  pub results : (k : ℕ) → k < length g.functions → IsSort g (function_at g k).result
  pub arguments : (k : ℕ) → k < length g.functions → All (IsSort g) (function_at g k).arguments

-- a term of constructors, numerals and unknown elements, where `true`, `false`, `[]` and `|>` count as constructors
abbrev mutual
  pub IsConstructed : Data → Term → Type 0
  IsConstructed g (variable v) = ⊥
  IsConstructed g (numeral a z) = Unit {0}
  IsConstructed g (unknown d k) = Unit {0}
  IsConstructed g (application truth ts) = Unit {0}
  IsConstructed g (application falsity ts) = Unit {0}
  IsConstructed g (application (empty s) ts) = Unit {0}
  IsConstructed g (application (cons s) ts) = AreConstructed g ts
  IsConstructed g (application (function k) ts) = ((function_at g k).role ≡ constructor) × AreConstructed g ts
  IsConstructed g (application _ ts) = ⊥

  pub AreConstructed : Data → Terms → Type 0
  AreConstructed g none = Unit {0}
  AreConstructed g (more t ts) = IsConstructed g t × AreConstructed g ts

-- no declared sort is empty: each has a closed term of constructors, numerals and unknown elements
abbrev pub NoSortIsEmpty : Data → Type 0
NoSortIsEmpty g = (d : ℕ) → d < length g.sorts → (t : Term) × (IsConstructed g t × HasSort g [] t (named d))
