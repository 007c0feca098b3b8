-- Places where an invariant has to be shown, with what may be assumed there.
use Rattle.std.specs.Prelude.{ℕ, List, [], ◌∷◌, ◌++◌, ◌⊎◌, map, Option, Some, None, Contains}
use Rattle.data_theory.specs.Terms.{Sort, Term, put}
use Rattle.data_theory.specs.Environments.{Binding, term_in, bound}
use Rattle.data_theory.specs.Rewriting.{Closes}
use Rattle.process_terms.specs.Theories.{Theory, IsTrue, IsFalse}
use Rattle.process_terms.specs.Processes.{Bound}
use Rattle.bisim_laws.specs.LinearProcesses.{Summand, variables}
use Rattle.lps_core.specs.Conditions.{parts}
use Rattle.lps_sumelm.specs.Solutions.{IsFirst, NoneGives}

-- what is assumed, and what is to be shown
pub record Place : Type 0 where
  pub hypotheses : List Term
  pub goals : List Term

-- the parts of the invariant with these terms for the parameters
abbrev pub parts_at : List Bound → Term → List Term → List Term
parts_at params inv ts = map (put (term_in (bound (variables params) ts))) (parts inv)

-- at the start nothing is assumed
abbrev pub first_place : List Bound → Term → List Term → Place
first_place params inv init = record { hypotheses = []; goals = parts_at params inv init }

-- a summand without next terms has no goals
abbrev pub next_goals : List Bound → Term → Option (List Term) → List Term
next_goals params inv None = []
next_goals params inv (Some ts) = parts_at params inv ts

-- where a summand fires the invariant and its condition hold
abbrev pub summand_place : List Bound → Term → Summand → Place
summand_place params inv s = record { hypotheses = parts inv ++ parts s.condition; goals = next_goals params inv s.next }

-- a term for a variable, everywhere
abbrev pub put_each : Binding → List Term → List Term
put_each b ts = map (put (term_in (b ∷ []))) ts

-- As long as a hypothesis gives a term for one of these variables, the first such one is taken away and the term is put in.
pub data IsSolvedPlace (xs : List ℕ) : Place → Place → Type 0 where
  nothing_to_solve : {p : Place} → NoneGives xs p.hypotheses → IsSolvedPlace xs p p
  one_solved : {p q : Place} {b : Binding} {rest : List Term} → IsFirst xs p.hypotheses b rest → IsSolvedPlace xs (record { hypotheses = put_each b rest; goals = put_each b p.goals }) q → IsSolvedPlace xs p q

-- all variables of a summand of a process with these parameters
abbrev pub summand_variables : List Bound → Summand → List ℕ
summand_variables params s = variables s.sums ++ variables params

-- ---- what decisions tell
-- provably true in every closed instance, by the sorts of the variables
abbrev pub IsAlwaysTrue : Theory → List Sort → Term → Type 0
IsAlwaysTrue th vs t = (e : ℕ → Term) → Closes th.declared vs e → IsTrue th (put e t)

abbrev pub IsAlwaysFalse : Theory → List Sort → Term → Type 0
IsAlwaysFalse th vs t = (e : ℕ → Term) → Closes th.declared vs e → IsFalse th (put e t)

-- some hypothesis is always false
pub record IsContradictory (th : Theory) (vs : List Sort) (p : Place) : Type 0 where
  pub hypothesis : Term
  pub among : Contains p.hypotheses hypothesis
  pub never : IsAlwaysFalse th vs hypothesis

-- each goal is a hypothesis, or always true
abbrev pub IsShown : Theory → List Sort → Place → Type 0
IsShown th vs p = (t : Term) → Contains p.goals t → Contains p.hypotheses t ⊎ IsAlwaysTrue th vs t

-- a summand's place, once it is solved, of which this holds
pub record SolvedPlaceIs (P : Place → Type 0) (params : List Bound) (inv : Term) (s : Summand) : Type 0 where
  pub place : Place
  pub solved : IsSolvedPlace (summand_variables params s) (summand_place params inv s) place
  pub is : P place

-- the summands that stay, of these: the goals are shown at those that stay, and those that are left out are contradictory
pub data AreJudged (Shown Contradictory : Place → Type 0) (params : List Bound) (inv : Term) : List Summand → List Summand → Type 0 where
  none_to_judge : AreJudged Shown Contradictory params inv [] []
  it_stays : {s : Summand} {ss ts : List Summand} → SolvedPlaceIs Shown params inv s → AreJudged Shown Contradictory params inv ss ts → AreJudged Shown Contradictory params inv (s ∷ ss) (s ∷ ts)
  it_is_left_out : {s : Summand} {ss ts : List Summand} → SolvedPlaceIs Contradictory params inv s → AreJudged Shown Contradictory params inv ss ts → AreJudged Shown Contradictory params inv (s ∷ ss) ts
