-- Conditions as lists of parts.
use Rattle.std.specs.Prelude.{◌↔◌, ℕ, List, [], ◌∷◌, ◌++◌, map, if◌then◌else◌}
use Rattle.std.specs.List.{AllByRecursion}
use Rattle.data_theory.specs.Terms.{Sort, boolean, Term, conjunction, application, none, more, put}
use Rattle.data_theory.specs.Declarations.{Data, HasSort}
use Rattle.data_theory.specs.Environments.{IsOver}
use Rattle.process_terms.specs.Theories.{Theory, IsTrue, AllTrue}
use Rattle.process_terms.specs.Communication.{conjunction_of}
use Rattle.bisim_laws.specs.LinearProcesses.{is_true}

-- the parts of `x && y` are x and those of y
abbrev pub parts : Term → List Term
parts (application conjunction (more x (more y none))) = x ∷ parts y
parts c = c ∷ []

abbrev pub all_parts : List Term → List Term
all_parts [] = []
all_parts (c ∷ cs) = parts c ++ all_parts cs

abbrev pub without_true : List Term → List Term
without_true [] = []
without_true (c ∷ cs) = if is_true c then without_true cs else c ∷ without_true cs

-- one right-nested chain of these, without `true`
abbrev pub conjoined : List Term → Term
conjoined cs = conjunction_of (without_true cs)

-- one chain of the parts of these conditions
abbrev pub joined : List Term → Term
joined cs = conjoined (all_parts cs)

-- a term of sort Bool over variables that have their sorts in a list
pub record IsCondition (g : Data) (vs : List Sort) (xs : List ℕ) (c : Term) : Type 0 where
  pub over : IsOver xs c
  pub sorted : HasSort g vs c boolean

pub data AreConditions (g : Data) (vs : List Sort) (xs : List ℕ) : List Term → Type 0 where
  no_conditions : AreConditions g vs xs []
  more_conditions : {c : Term} {cs : List Term} → IsCondition g vs xs c → AreConditions g vs xs cs → AreConditions g vs xs (c ∷ cs)

-- each of these is a closed condition once terms are put in
abbrev pub AreConditionsOnce : Data → (ℕ → Term) → List Term → Type 0
AreConditionsOnce g e cs = AllByRecursion (λ c. HasSort g [] (put e c) boolean) cs

-- ---- laws
-- the chain is provably true exactly where each of the conditions is
abbrev pub JoinedConditionsAreTrue : Type 0
JoinedConditionsAreTrue = (th : Theory) (e : ℕ → Term) (cs : List Term) → AreConditionsOnce th.declared e cs → AllTrue th (map (put e) cs) ↔ IsTrue th (put e (joined cs))

-- the chain is a condition over the same variables
abbrev pub JoinedConditionsAreConditions : Type 0
JoinedConditionsAreConditions = (g : Data) (vs : List Sort) (xs : List ℕ) (cs : List Term) → AreConditions g vs xs cs → IsCondition g vs xs (joined cs)

abbrev pub JoinedConditionsAreSorted : Type 0
JoinedConditionsAreSorted = (g : Data) (vs : List Sort) (cs : List Term) → AllByRecursion (λ c. HasSort g vs c boolean) cs → HasSort g vs (joined cs) boolean

abbrev pub JoinedConditionsAreOver : Type 0
JoinedConditionsAreOver = (xs : List ℕ) (cs : List Term) → AllByRecursion (IsOver xs) cs → IsOver xs (joined cs)
