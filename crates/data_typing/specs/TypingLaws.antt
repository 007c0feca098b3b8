-- What the laws of typing say.
use Rattle.std.specs.Prelude.{◌≡◌, ◌<◌, ◌^◌, ◌⊎◌, ℕ, false, List, [], ◌∷◌, length, Option, Some, bytes_eq, pos}
use Rattle.std.specs.List.{AllByRecursion}
use Rattle.data_theory.specs.Terms.{Sort, Symbol, empty, cons, Term, Terms, variable, apply}
use Rattle.data_theory.specs.Terms as terms
use Rattle.data_theory.specs.Declarations.{Data, IsSort, IsData, Declares, HasSort}
use Rattle.sort_table.specs.Expressions.{Name, Expression, Expressions, numeral, listed, word, none, more}
use Rattle.sort_table.specs.Vocabularies.{Vocabulary}
use Rattle.sort_table.specs.Growth.{More, with_more}
use Rattle.data_typing.specs.Typings.{Inferred, Typing, Signature, Scheme, Meaning, bound, functions, typing, upcast_to}
use Rattle.data_typing.specs.Meanings.{Scope, typing_in, Infers, ChecksAs}

-- An expression infers one term of one sort at most, and checks as one term at most at each sort.
pub record OneTermAtMost : Type 0 where
  pub inferred : (v : Vocabulary) (scope : Scope) (e : Expression) (t u : Term) (s r : Sort) → Infers v scope e t s → Infers v scope e u r → (t ≡ u) × (s ≡ r)
  pub checked : (v : Vocabulary) (scope : Scope) (e : Expression) (s : Sort) (t u : Term) → ChecksAs v scope e s t → ChecksAs v scope e s u → t ≡ u

-- ---- words and numerals
abbrev mutual
  -- what holds of each word and of each numeral that stands in an expression
  pub EachPart : (Name → Type 0) → (ℕ → Type 0) → Expression → Type 0
  EachPart P Q (numeral n) = Q n
  EachPart P Q (listed es) = EachPartOf P Q es
  EachPart P Q (word f es) = P f × EachPartOf P Q es

  pub EachPartOf : (Name → Type 0) → (ℕ → Type 0) → Expressions → Type 0
  EachPartOf P Q none = Unit {0}
  EachPartOf P Q (more e es) = EachPart P Q e × EachPartOf P Q es

abbrev pub EachWord : (Name → Type 0) → Expression → Type 0
EachWord P = EachPart P (λ n. Unit {0})

-- numerals are at most 2^128 - 1
abbrev pub HasSmallNumerals : Expression → Type 0
HasSmallNumerals = EachPart (λ f. Unit {0}) (λ n. n < 2 ^ 128)

-- ---- sorts
-- the names of functions have numbers of the tables, and these are data
pub record IsOverData (v : Vocabulary) : Type 0 where
  pub data_are : IsData v.tables
  pub numbers : AllByRecursion (λ r. r.1 < length v.tables.functions) v.function_names

-- each variable in scope has its sort, by the list of the variables' sorts
abbrev pub IsScope : Data → List Sort → Scope → Type 0
IsScope g vs scope = AllByRecursion (λ b. Declares vs b.number b.sort × IsSort g b.sort) scope

abbrev pub InferredTermsHaveTheirSorts : Type 0
InferredTermsHaveTheirSorts =
    (v : Vocabulary) (vs : List Sort) (scope : Scope) → IsOverData v → IsScope v.tables vs scope
    → (e : Expression) → HasSmallNumerals e → (t : Term) (s : Sort) → Infers v scope e t s → IsSort v.tables s × HasSort v.tables vs t s

abbrev pub CheckedTermsHaveTheSort : Type 0
CheckedTermsHaveTheSort =
    (v : Vocabulary) (vs : List Sort) (scope : Scope) → IsOverData v → IsScope v.tables vs scope
    → (e : Expression) → HasSmallNumerals e → (s : Sort) (t : Term) → IsSort v.tables s → ChecksAs v scope e s t → HasSort v.tables vs t s

-- ---- names
-- where each of its words means the same, an expression has the same typing
abbrev pub TypingHangsOnItsWords : Type 0
TypingHangsOnItsWords = (m k : Name → Meaning) (e : Expression) → EachWord (λ f. m f ≡ k f) e → typing m e ≡ typing k e

abbrev pub StandsNotAmong : List (Name × ℕ) → Name → Type 0
StandsNotAmong rs f = AllByRecursion (λ r. bytes_eq r.0 f ≡ false) rs

-- sorts, actions, and functions under names that don't stand in an expression, change nothing in its typing
abbrev pub OtherNamesChangeNothing : Type 0
OtherNamesChangeNothing =
    (v : Vocabulary) (m : More) (scope : Scope) (e : Expression) → IsOverData v → EachWord (StandsNotAmong m.function_names) e → typing_in (with_more v m) scope e ≡ typing_in v scope e

-- ---- readings
abbrev pub IsAmong : {A : Type 0} → A → List A → Type 0
IsAmong x [] = ⊥
IsAmong x (y ∷ ys) = (x ≡ y) ⊎ IsAmong x ys

-- A term reads an expression: numerals and variables stand for themselves, each word for a function of its name, each list in
-- brackets for `|>` and `[]`, and an upcast may stand before any part. What can merge has merged.
mutual
  pub data Reads (m : Name → Meaning) : Expression → Term → Type 0 where
    a_numeral : (n : ℕ) (s : Sort) → Reads m (numeral n) (terms.numeral s (pos n))
    a_variable : (f : Name) (v : ℕ) (s : Sort) → m f ≡ bound v s → Reads m (word f none) (variable v)
    a_call : (f : Name) (es : Expressions) (fs : List Signature) (c : Option Scheme) (g : Signature) (us : Terms) → m f ≡ functions fs c → IsAmong g fs → ReadEach m es us → Reads m (word f es) (apply g.symbol us)
    a_call_over : (f : Name) (es : Expressions) (fs : List Signature) (c : Scheme) (s : Sort) (us : Terms) → m f ≡ functions fs (Some c) → ReadEach m es us → Reads m (word f es) (apply (c.symbol s) us)
    a_list : (es : Expressions) (s : Sort) (t : Term) → ReadList m es s t → Reads m (listed es) t
    upcast_before : (e : Expression) (t : Term) (s to : Sort) (f : Symbol) → upcast_to s to ≡ Some f → Reads m e t → Reads m e (apply f (terms.more t terms.none))

  pub data ReadEach (m : Name → Meaning) : Expressions → Terms → Type 0 where
    no_more : ReadEach m none terms.none
    one_more : (e : Expression) (es : Expressions) (t : Term) (ts : Terms) → Reads m e t → ReadEach m es ts → ReadEach m (more e es) (terms.more t ts)

  pub data ReadList (m : Name → Meaning) : Expressions → Sort → Term → Type 0 where
    no_element : (s : Sort) → ReadList m none s (apply (empty s) terms.none)
    one_element : (e : Expression) (es : Expressions) (s : Sort) (t u : Term) → Reads m e t → ReadList m es s u → ReadList m (more e es) s (apply (cons s) (terms.more t (terms.more u terms.none)))

pub record TypingReads (m : Name → Meaning) (e : Expression) (t : Typing) : Type 0 where
  pub infers : (i : Inferred) → t.infers ≡ Some i → Reads m e i.term
  pub checks : (s : Sort) (u : Term) → t.checks s ≡ Some u → Reads m e u

-- what an expression infers and what it checks as are readings of it
abbrev pub TypingReadsTheExpression : Type 0
TypingReadsTheExpression = (m : Name → Meaning) (e : Expression) → TypingReads m e (typing m e)
