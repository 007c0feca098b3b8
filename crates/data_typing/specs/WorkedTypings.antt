-- Worked typings.
use Rattle.std.specs.Prelude.{◌≡◌, [], ◌∷◌, None, codes, pos, negsuc}
use Rattle.data_theory.specs.Terms.{Sort, boolean, positive, natural, integer, list, named, add, power, maximum, Symbol, conditional, arithmetic, upcast, head, function, Term, variable, none, more, application}
use Rattle.data_theory.specs.Terms as terms
use Rattle.data_theory.specs.Declarations.{mapping, without_constructors}
use Rattle.data_theory.specs.Equations.{consᵗ, emptyᵗ}
use Rattle.sort_table.specs.Expressions.{Name, Expression, Expressions, numeral, listed, word, one, two}
use Rattle.sort_table.specs.Expressions as expressions
use Rattle.sort_table.specs.Vocabularies.{Vocabulary}
use Rattle.data_typing.specs.Meanings.{Scope, typing_in, Infers, ChecksAs}

-- sort D; map f: Nat -> Nat; f: Int -> Bool; head: D -> Bool; d: D; n: Bool;
abbrev pub small : Vocabulary
small = record {
  tables = record {
    sorts = without_constructors ∷ [];
    functions =
        record { arguments = natural ∷ []; result = natural; role = mapping }
        ∷ record { arguments = integer ∷ []; result = boolean; role = mapping }
        ∷ record { arguments = named 0 ∷ []; result = boolean; role = mapping }
        ∷ record { arguments = []; result = named 0; role = mapping }
        ∷ record { arguments = []; result = boolean; role = mapping }
        ∷ [];
  };
  sort_names = (codes "D", named 0) ∷ [];
  function_names = (codes "f", 0) ∷ (codes "f", 1) ∷ (codes "head", 2) ∷ (codes "d", 3) ∷ (codes "n", 4) ∷ [];
  actions = [];
}

-- map if: Bool # List(Nat) # List(Bool) -> List(Pos);
abbrev pub with_own_if : Vocabulary
with_own_if = record {
  tables = record {
    sorts = [];
    functions = record { arguments = boolean ∷ list natural ∷ list boolean ∷ []; result = list positive; role = mapping } ∷ [];
  };
  sort_names = [];
  function_names = (codes "if", 0) ∷ [];
  actions = [];
}

-- b: Bool, n: Nat, i: Int
abbrev pub small_scope : Scope
small_scope =
    record { name = codes "b"; number = 0; sort = boolean }
    ∷ record { name = codes "n"; number = 1; sort = natural }
    ∷ record { name = codes "i"; number = 2; sort = integer }
    ∷ []

-- ---- expressions
abbrev pub name : Name → Expression
name f = word f expressions.none

abbrev pub pair : Expression → Expression → Expressions
pair d e = expressions.more d (expressions.more e expressions.none)

abbrev pub choice : Expression → Expression → Expression → Expression
choice c d e = word (codes "if") (expressions.more c (pair d e))

abbrev pub single : Expression → Expression
single d = listed (expressions.more d expressions.none)

abbrev pub b : Expression
b = name (codes "b")

abbrev pub n : Expression
n = name (codes "n")

abbrev pub i : Expression
i = name (codes "i")

abbrev pub no_elements : Expression
no_elements = listed expressions.none

abbrev pub one_or_n : Expression
one_or_n = choice b (numeral 1) n

-- ---- terms
abbrev pub bᵗ : Term
bᵗ = variable 0

abbrev pub nᵗ : Term
nᵗ = variable 1

abbrev pub iᵗ : Term
iᵗ = variable 2

abbrev pub numeralᵗ : Sort → Term
numeralᵗ s = terms.numeral s (pos 1)

abbrev pub oneᵗ : Symbol → Term → Term
oneᵗ f t = application f (more t none)

abbrev pub twoᵗ : Symbol → Term → Term → Term
twoᵗ f t u = application f (more t (more u none))

abbrev pub ifᵗ : Sort → Term → Term → Term → Term
ifᵗ s c t u = application (conditional s) (more c (more t (more u none)))

-- ---- what they infer and check as
abbrev pub Gives : Expression → Term → Sort → Type 0
Gives = Infers small small_scope

abbrev pub Checks : Expression → Sort → Term → Type 0
Checks = ChecksAs small small_scope

abbrev pub GivesNothing : Expression → Type 0
GivesNothing e = (typing_in small small_scope e).infers ≡ None

abbrev pub ChecksNotAt : Expression → Sort → Type 0
ChecksNotAt e s = (typing_in small small_scope e).checks s ≡ None

pub record TheseAreTyped : Type 0 where
  -- n + 1, and i + n where no signature is exact
  pub exact_sum : Gives (two (codes "+") n (numeral 1)) (twoᵗ (arithmetic add (natural ∷ positive ∷ []) positive) nᵗ (numeralᵗ positive)) positive
  pub fitting_sum : Gives (two (codes "+") i n) (twoᵗ (arithmetic add (integer ∷ integer ∷ []) integer) iᵗ (oneᵗ (upcast natural integer) nᵗ)) integer
  -- if(b, 1, n): the first sort at which both check; and where an Int is wanted
  pub choice_inferred : Gives one_or_n (ifᵗ natural bᵗ (numeralᵗ natural) nᵗ) natural
  pub choice_checked : Checks one_or_n integer (ifᵗ integer bᵗ (numeralᵗ integer) (oneᵗ (upcast natural integer) nᵗ))
  -- [1, n], [], and 1 |> [], also where a List(Int) is wanted
  pub list_inferred : Gives (listed (pair (numeral 1) n)) (consᵗ natural (numeralᵗ natural) (consᵗ natural nᵗ (emptyᵗ natural))) (list natural)
  pub nothing_inferred : GivesNothing no_elements
  pub nothing_checked : Checks no_elements (list boolean) (emptyᵗ boolean)
  pub chain_inferred : Gives (two (codes "|>") (numeral 1) no_elements) (consᵗ positive (numeralᵗ positive) (emptyᵗ positive)) (list positive)
  pub chain_checked : Checks (two (codes "|>") (numeral 1) no_elements) (list integer) (consᵗ integer (numeralᵗ integer) (emptyᵗ integer))
  -- [[1], [n]] infers nothing, since no list sort embeds in another
  pub lists_differ : GivesNothing (listed (pair (single (numeral 1)) (single n)))
  pub lists_checked : Checks (listed (pair (single (numeral 1)) (single n))) (list (list natural)) (consᵗ (list natural) (consᵗ natural (numeralᵗ natural) (emptyᵗ natural)) (consᵗ (list natural) (consᵗ natural nᵗ (emptyᵗ natural)) (emptyᵗ (list natural))))
  -- #[] and head([])
  pub size_of_nothing : GivesNothing (one (codes "#") no_elements)
  pub head_of_nothing : ChecksNotAt (one (codes "head") no_elements) natural
  -- -5, exp(2, n) and max(1, -1)
  pub negative : Gives (one (codes "-") (numeral 5)) (terms.numeral integer (negsuc 4)) integer
  pub power_of_two : Gives (word (codes "exp") (pair (numeral 2) n)) (twoᵗ (arithmetic power (positive ∷ natural ∷ []) positive) (terms.numeral positive (pos 2)) nᵗ) positive
  pub greatest : Gives (word (codes "max") (pair (numeral 1) (one (codes "-") (numeral 1)))) (twoᵗ (arithmetic maximum (integer ∷ integer ∷ []) integer) (numeralᵗ integer) (terms.numeral integer (negsuc 0))) integer
  -- f(1) and f(i): the first at which 1 checks, and the one that has exactly the sort of i
  pub first_overload : Gives (one (codes "f") (numeral 1)) (oneᵗ (function 0) (numeralᵗ natural)) natural
  pub exact_overload : Gives (one (codes "f") i) (oneᵗ (function 1) iᵗ) boolean
  -- head(d) is declared, and head([1]) is built in
  pub declared_head : Gives (one (codes "head") (name (codes "d"))) (oneᵗ (function 2) (application (function 3) none)) boolean
  pub built_in_head : Gives (one (codes "head") (single (numeral 1))) (oneᵗ (head positive) (consᵗ positive (numeralᵗ positive) (emptyᵗ positive))) positive
  -- the variable n hides the function n, isn't a Pos, and takes no arguments
  pub hidden : Gives n nᵗ natural
  pub no_narrower : ChecksNotAt n positive
  pub no_function : GivesNothing (one (codes "n") b)
  -- With a declared `if`, if(b, [], []) infers List(Pos) by the declared function, and checks at List(Pos) by the built-in one.
  pub own_choice_inferred : Infers with_own_if small_scope (choice b no_elements no_elements) (application (function 0) (more bᵗ (more (emptyᵗ natural) (more (emptyᵗ boolean) none)))) (list positive)
  pub own_choice_checked : ChecksAs with_own_if small_scope (choice b no_elements no_elements) (list positive) (ifᵗ (list positive) bᵗ (emptyᵗ positive) (emptyᵗ positive))
