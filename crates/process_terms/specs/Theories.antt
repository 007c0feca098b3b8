-- The theory of a text, and provable equality over it.
use Rattle.std.specs.Prelude.{List, [], ◌∷◌}
use Rattle.data_theory.specs.Terms.{Sort, Term}
use Rattle.data_theory.specs.Declarations.{Data, HasSort, HaveSorts}
use Rattle.data_theory.specs.Provable.{Equation, ProvablyEqual, ProvablyTrue, ProvablyFalse, Consistent}
use Rattle.data_theory.specs.Environments.{terms_of}

-- what is declared, and the written equations
pub record Theory : Type 0 where
  pub declared : Data
  pub equations : List Equation

abbrev pub Equal : Theory → Term → Term → Type 0
Equal th t u = ProvablyEqual th.declared th.equations t u

abbrev pub IsTrue : Theory → Term → Type 0
IsTrue th t = ProvablyTrue th.declared th.equations t

abbrev pub IsFalse : Theory → Term → Type 0
IsFalse th t = ProvablyFalse th.declared th.equations t

abbrev pub IsConsistent : Theory → Type 0
IsConsistent th = Consistent th.declared th.equations

-- a closed term of the sort, and closed terms of these sorts
abbrev pub IsOfSort : Theory → Sort → Term → Type 0
IsOfSort th s t = HasSort th.declared [] t s

abbrev pub AreOfSorts : Theory → List Sort → List Term → Type 0
AreOfSorts th ss ts = HaveSorts th.declared [] (terms_of ts) ss

-- lists of terms, provably equal place by place
pub data Equals (th : Theory) : List Term → List Term → Type 0 where
  no_terms : Equals th [] []
  more_terms : {t u : Term} {ts us : List Term} → Equal th t u → Equals th ts us → Equals th (t ∷ ts) (u ∷ us)

-- each of these terms is provably true
pub data AllTrue (th : Theory) : List Term → Type 0 where
  none_left : AllTrue th []
  true_and_more : {t : Term} {ts : List Term} → IsTrue th t → AllTrue th ts → AllTrue th (t ∷ ts)
