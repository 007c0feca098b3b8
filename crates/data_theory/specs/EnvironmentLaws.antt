-- What the laws of environments say.
use Rattle.std.specs.Prelude.{◌≡◌, ℕ, List, [], ◌++◌, map, length, Contains}
use Rattle.data_theory.specs.Terms.{Sort, Symbol, Term, Terms, variable, apply, put, put_all, IsClosed}
use Rattle.data_theory.specs.Declarations.{Data, Declares, IsSymbol, argument_sorts, result_sort, HasSort, HaveSorts}
use Rattle.data_theory.specs.Provable.{Equation, ProvablyEqual, PlacesEqual}
use Rattle.data_theory.specs.EqualityLaws.{EnvironmentsEqual}
use Rattle.data_theory.specs.Environments.{Environment, term_in, bound, bound_variables, terms_of, list_of, IsOver, AreOver, Agree, Apart, AreDistinct}

-- ---- joined environments
abbrev pub TheFrontIsRead : Type 0
TheFrontIsRead = (d e : Environment) (v : ℕ) → Contains (bound_variables d) v → term_in (d ++ e) v ≡ term_in d v

abbrev pub TheFrontIsSkipped : Type 0
TheFrontIsSkipped = (d e : Environment) (v : ℕ) → (Contains (bound_variables d) v → ⊥) → term_in (d ++ e) v ≡ term_in e v

abbrev pub TheMiddleIsSkipped : Type 0
TheMiddleIsSkipped = (d a e : Environment) (v : ℕ) → (Contains (bound_variables a) v → ⊥) → term_in (d ++ (a ++ e)) v ≡ term_in (d ++ e) v

abbrev pub TheUnboundStay : Type 0
TheUnboundStay = (e : Environment) (v : ℕ) → (Contains (bound_variables e) v → ⊥) → term_in e v ≡ variable v

-- ---- bindings of parameters
abbrev pub BoundTogether : Type 0
BoundTogether = (xs ys : List ℕ) (ts us : List Term) → length ts ≡ length xs → bound (xs ++ ys) (ts ++ us) ≡ bound xs ts ++ bound ys us

abbrev pub BoundAreTheParameters : Type 0
BoundAreTheParameters = (xs : List ℕ) (ts : List Term) → length ts ≡ length xs → bound_variables (bound xs ts) ≡ xs

abbrev pub ParametersReadBack : Type 0
ParametersReadBack =
    (d e : Environment) (xs : List ℕ) (ts : List Term) → length ts ≡ length xs → Apart (bound_variables d) xs → AreDistinct xs
    → map (put (term_in (d ++ (bound xs ts ++ e)))) (map variable xs) ≡ ts

-- ---- environments that agree on the variables of a term
abbrev pub AgreeingGiveTheSameTerm : Type 0
AgreeingGiveTheSameTerm = (xs : List ℕ) (d e : ℕ → Term) → Agree xs d e → (t : Term) → IsOver xs t → put d t ≡ put e t

abbrev pub AgreeingGiveTheSameTerms : Type 0
AgreeingGiveTheSameTerms = (xs : List ℕ) (d e : ℕ → Term) → Agree xs d e → (ts : List Term) → AreOver xs (terms_of ts) → map (put d) ts ≡ map (put e) ts

-- ---- putting in twice
abbrev pub PuttingInTwice : Type 0
PuttingInTwice = (d e : ℕ → Term) (t : Term) → put e (put d t) ≡ put (λ v. put e (d v)) t

-- arguments put in for the parameters xs, and then an environment: the arguments' terms are bound from the start
abbrev pub ArgumentsPutInFirst : Type 0
ArgumentsPutInFirst =
    (xs : List ℕ) (ts : List Term) (e : Environment) → length ts ≡ length xs → (t : Term) → IsOver xs t
    → put (term_in e) (put (term_in (bound xs ts)) t) ≡ put (term_in (bound xs (map (put (term_in e)) ts))) t

-- the same behind bindings of sum variables, which are apart from the parameters and from the arguments' variables
abbrev pub ArgumentsPutInBehindSums : Type 0
ArgumentsPutInBehindSums =
    (sums e : Environment) (scope xs : List ℕ) (ts : List Term) → length ts ≡ length xs → AreOver scope (terms_of ts)
    → Apart (bound_variables sums) scope → Apart (bound_variables sums) xs → (t : Term) → IsOver (bound_variables sums ++ xs) t
    → put (term_in (sums ++ e)) (put (term_in (bound xs ts)) t) ≡ put (term_in (sums ++ bound xs (map (put (term_in e)) ts))) t

-- ---- provably equal environments
abbrev pub EqualArgumentsGiveEqualEnvironments : Type 0
EqualArgumentsGiveEqualEnvironments =
    (g : Data) (own : List Equation) (xs : List ℕ) (ts us : List Term) (d e : Environment) → PlacesEqual g own (terms_of ts) (terms_of us)
    → EnvironmentsEqual g own (term_in d) (term_in e) → EnvironmentsEqual g own (term_in (bound xs ts ++ d)) (term_in (bound xs us ++ e))

abbrev pub EqualEnvironmentsGiveEqualLists : Type 0
EqualEnvironmentsGiveEqualLists =
    (g : Data) (own : List Equation) (d e : ℕ → Term) → EnvironmentsEqual g own d e → (ts : List Term)
    → PlacesEqual g own (terms_of (map (put d) ts)) (terms_of (map (put e) ts))

-- it is enough that they agree so on the variables of what they are put into
abbrev pub EqualOnTheVariablesGiveEqualTerms : Type 0
EqualOnTheVariablesGiveEqualTerms =
    (g : Data) (own : List Equation) (xs : List ℕ) (d e : ℕ → Term) → ((v : ℕ) → Contains xs v → ProvablyEqual g own (d v) (e v))
    → (t : Term) → IsOver xs t → ProvablyEqual g own (put d t) (put e t)

abbrev pub EqualOnTheVariablesGiveEqualLists : Type 0
EqualOnTheVariablesGiveEqualLists =
    (g : Data) (own : List Equation) (xs : List ℕ) (d e : ℕ → Term) → ((v : ℕ) → Contains xs v → ProvablyEqual g own (d v) (e v))
    → (ts : List Term) → AreOver xs (terms_of ts) → PlacesEqual g own (terms_of (map (put d) ts)) (terms_of (map (put e) ts))

-- ---- lists of terms
abbrev pub ListsOfTerms : Type 0
ListsOfTerms = (ts : List Term) → list_of (terms_of ts) ≡ ts

abbrev pub TermsOfLists : Type 0
TermsOfLists = (ts : Terms) → terms_of (list_of ts) ≡ ts

abbrev pub PuttingInGoesThroughLists : Type 0
PuttingInGoesThroughLists = (e : ℕ → Term) (ts : List Term) → put_all e (terms_of ts) ≡ terms_of (map (put e) ts)

-- ---- sorts
abbrev pub ApplicationsHaveSorts : Type 0
ApplicationsHaveSorts = (g : Data) (vs : List Sort) (f : Symbol) (ts : Terms) → IsSymbol g f → HaveSorts g vs ts (argument_sorts g f) → HasSort g vs (apply f ts) (result_sort g f)

abbrev pub PuttingInKeepsSorts : Type 0
PuttingInKeepsSorts =
    (g : Data) (vs us : List Sort) (e : ℕ → Term) → ((v : ℕ) (s : Sort) → Declares vs v s → HasSort g us (e v) s)
    → (t : Term) (s : Sort) → HasSort g vs t s → HasSort g us (put e t) s

abbrev pub WellSortedOverNothingIsClosed : Type 0
WellSortedOverNothingIsClosed = (g : Data) (t : Term) (s : Sort) → HasSort g [] t s → IsClosed t

-- a term of a sort over some variables that has none of them has the sort over no variables
abbrev pub ClosedTermsNeedNoVariables : Type 0
ClosedTermsNeedNoVariables = (g : Data) (vs : List Sort) (t : Term) (s : Sort) → IsClosed t → HasSort g vs t s → HasSort g [] t s

abbrev pub ClosedTermsStay : Type 0
ClosedTermsStay = (g : Data) (e : ℕ → Term) (t : Term) (s : Sort) → HasSort g [] t s → put e t ≡ t

abbrev pub ClosedTermsFitAnywhere : Type 0
ClosedTermsFitAnywhere = (g : Data) (vs : List Sort) (t : Term) (s : Sort) → HasSort g [] t s → HasSort g vs t s
