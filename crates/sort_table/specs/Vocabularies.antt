-- What a text declares, behind numbers.
use Rattle.std.specs.Prelude.{◌≡◌, ◌<◌, ◌↔◌, ℕ, List, [], ◌∷◌, length, map, Option, Some, option_map, option_and_then}
use Rattle.std.specs.List.{Contains}
use Rattle.data_theory.specs.Terms.{Sort, boolean, positive, natural, integer, list, named}
use Rattle.data_theory.specs.Declarations as theory
use Rattle.data_theory.specs.Declarations.{Role, Construction, Data, function_at, sort_at}
use Rattle.data_theory.specs.Places.{HaveOnePlace}
use Rattle.sort_table.specs.Expressions.{Name}
use Rattle.sort_table.specs.NamedLists.{all_named, first_named}
use Rattle.sort_table.specs.BareSorts.{SortExpression, truth_values, positives, naturals, integers, lists_of, a_name}
use Rattle.sort_table.specs.SortMeanings.{alone, a_struct, equal_to, UnderNames, StandsFor}
use Rattle.sort_table.specs.TextFunctions as text
use Rattle.sort_table.specs.TextFunctions.{TextRole, TextFunction}

-- The sorts and functions behind their numbers, the names of sorts with their sorts, the names of functions with their numbers
-- and the actions with their sorts. A name's functions stand in the order of the text, and so do its actions.
pub record Vocabulary : Type 0 where
  pub tables : Data
  pub sort_names : List (Name × Sort)
  pub function_names : List (Name × ℕ)
  pub actions : List (Name × List Sort)

-- the sort of an expression, by the sorts of the names
abbrev pub sort_in : List (Name × Sort) → SortExpression → Option Sort
sort_in ns truth_values = Some boolean
sort_in ns positives = Some positive
sort_in ns naturals = Some natural
sort_in ns integers = Some integer
sort_in ns (lists_of e) = option_map list (sort_in ns e)
sort_in ns (a_name n) = first_named n ns

abbrev pub sorts_in : List (Name × Sort) → List SortExpression → Option (List Sort)
sorts_in ns [] = Some []
sorts_in ns (e ∷ es) = option_and_then (λ s. option_map (λ ss. s ∷ ss) (sorts_in ns es)) (sort_in ns e)

-- ---- sorts
-- a `cons` declares a constructor of the sort with this name
abbrev pub HasConstructor : UnderNames → Name → Type 0
HasConstructor u n = (c : Name) × (f : TextFunction) × Contains (u.functions c) f × (f.role ≡ text.declared_constructor) × StandsFor u f.result (a_name n)

-- how a sort that is no alias is declared
pub data IsConstruction (u : UnderNames) (n : Name) : Construction → Type 0 where
  by_struct : u.sort n ≡ Some a_struct → IsConstruction u n theory.structured
  by_cons : u.sort n ≡ Some alone → HasConstructor u n → IsConstruction u n theory.by_declarations
  by_none : u.sort n ≡ Some alone → ¬ (HasConstructor u n) → IsConstruction u n theory.without_constructors

-- a name that is no alias
pub data IsOwn (u : UnderNames) (n : Name) : Type 0 where
  declared_alone : u.sort n ≡ Some alone → IsOwn u n
  declared_as_struct : u.sort n ≡ Some a_struct → IsOwn u n

-- this name has the sort of the tables with this number
abbrev pub IsSortNamed : UnderNames → Vocabulary → Name → ℕ → Type 0
IsSortNamed u v n d = (first_named n v.sort_names ≡ Some (named d)) × (d < length v.tables.sorts) × IsConstruction u n (sort_at v.tables d)

-- A name has a sort where it stands for one. An alias has the sort of its expression. Each other name has a number of its own, and
-- each number has such a name.
pub record HasSorts (u : UnderNames) (v : Vocabulary) : Type 0 where
  pub named : (n : Name) → ((s : Sort) × (first_named n v.sort_names ≡ Some s)) ↔ ((e : SortExpression) × StandsFor u (a_name n) e)
  pub aliases : (n : Name) (e : SortExpression) → u.sort n ≡ Some (equal_to e) → first_named n v.sort_names ≡ sort_in v.sort_names e
  pub others : (n : Name) → IsOwn u n → (d : ℕ) × IsSortNamed u v n d
  pub different : (n m : Name) (d : ℕ) → IsOwn u n → IsOwn u m → IsSortNamed u v n d → IsSortNamed u v m d → n ≡ m
  pub no_more : (d : ℕ) → d < length v.tables.sorts → (n : Name) × IsOwn u n × IsSortNamed u v n d

-- ---- functions
-- the function with this name and these arguments has this number
abbrev pub HasNumber : Vocabulary → Name → List SortExpression → ℕ → Type 0
HasNumber v f es k = Contains v.function_names (f, k) × (k < length v.tables.functions) × (sorts_in v.sort_names es ≡ Some (function_at v.tables k).arguments)

-- a sort that is declared alone is the result
abbrev pub GivesPlain : UnderNames → SortExpression → Type 0
GivesPlain u e = (n : Name) × (u.sort n ≡ Some alone) × StandsFor u e (a_name n)

-- The role of a function with this result. What a `cons` declares into any other sort than one declared alone is ill typed, and no
-- constructor.
pub data IsRole (u : UnderNames) (v : Vocabulary) (to : SortExpression) : TextRole → Role → Type 0 where
  of_struct : IsRole u v to text.struct_constructor theory.constructor
  of_cons : GivesPlain u to → IsRole u v to text.declared_constructor theory.constructor
  of_no_cons : ¬ (GivesPlain u to) → IsRole u v to text.declared_constructor theory.mapping
  of_place : (c : Name) (es : List SortExpression) (i k : ℕ) → HasNumber v c es k → IsRole u v to (text.projection c es i) (theory.projection k i)
  of_test : (c : Name) (es : List SortExpression) (k : ℕ) → HasNumber v c es k → IsRole u v to (text.recogniser c es) (theory.recogniser k)
  of_map : IsRole u v to text.mapping theory.mapping

pub record IsFunction (u : UnderNames) (v : Vocabulary) (f : TextFunction) (k : ℕ) : Type 0 where
  pub within : k < length v.tables.functions
  pub arguments : sorts_in v.sort_names f.arguments ≡ Some (function_at v.tables k).arguments
  pub result : sort_in v.sort_names f.result ≡ Some (function_at v.tables k).result
  pub role : IsRole u v f.result f.role (function_at v.tables k).role

-- one after the other
abbrev pub EachPair : {A B : Type 0} → (A → B → Type 0) → List A → List B → Type 0
EachPair Q [] [] = Unit {0}
EachPair Q (x ∷ xs) (y ∷ ys) = Q x y × EachPair Q xs ys
EachPair Q _ _ = ⊥

-- A name's functions have numbers in the order of the text; each number is used, and once.
pub record HasFunctions (u : UnderNames) (v : Vocabulary) : Type 0 where
  pub each : (f : Name) → EachPair (IsFunction u v) (u.functions f) (all_named f v.function_names)
  pub no_more : (k : ℕ) → k < length v.tables.functions → (f : Name) × Contains v.function_names (f, k)
  pub once : HaveOnePlace (map (λ (r : Name × ℕ). r.1) v.function_names)

-- these are the sorts of the expressions
abbrev pub AreSortsOf : Vocabulary → List SortExpression → List Sort → Type 0
AreSortsOf v es ss = sorts_in v.sort_names es ≡ Some ss

-- The vocabulary has what is declared and nothing else, each sort and each function under any number. A name's actions stand in the
-- order of the text.
pub record IsVocabularyOf (u : UnderNames) (v : Vocabulary) : Type 0 where
  pub sorts : HasSorts u v
  pub functions : HasFunctions u v
  pub actions : (a : Name) → EachPair (AreSortsOf v) (u.actions a) (all_named a v.actions)
