-- What the laws of solved sums say.
use Rattle.std.specs.Prelude.{◌≡◌, ℕ, List, None, Some, Contains}
use Rattle.data_theory.specs.Terms.{Sort, Term, variables_of}
use Rattle.data_theory.specs.Declarations.{Data}
use Rattle.data_theory.specs.Environments.{Environment, Binding, term_in}
use Rattle.data_theory.specs.Terms as terms
use Rattle.process_terms.specs.Theories.{Theory, IsTrue, AreOfSorts}
use Rattle.process_terms.specs.Labels.{put_label, AgreeInOrder}
use Rattle.process_terms.specs.Processes.{Bound}
use Rattle.bisim_laws.specs.LinearProcesses.{Summand, variables, sorts, reading, put_next, NextEquals, AreBound, IsSummand, SummandIsSorted, AreDeclared}
use Rattle.lps_core.specs.Conditions.{parts}
use Rattle.lps_sumelm.specs.Solutions.{IsSolvable, solution, IsFirst}
use Rattle.lps_sumelm.specs.Solving.{solve, conditions_of, summand_variables}

-- ---- summands that do alike at the same arguments
-- an environment in which the summand t does what s does in e
pub record DoesAlike (th : Theory) (params : List Bound) (s t : Summand) (e : Environment) : Type 0 where
  pub environment : Environment
  pub reads : reading environment (variables params) ≡ reading e (variables params)
  pub bound : AreBound th t.sums environment
  pub holds : IsTrue th (terms.put (term_in environment) t.condition)
  pub label : AgreeInOrder th (put_label e s.label) (put_label environment t.label)
  pub next : NextEquals th (put_next e s.next) (put_next environment t.next)

abbrev pub IsAnswered : Theory → List Bound → Summand → Summand → Type 0
IsAnswered th params s t = (e : Environment) → AreBound th s.sums e → AreOfSorts th (sorts params) (reading e (variables params)) → IsTrue th (terms.put (term_in e) s.condition) → DoesAlike th params s t e

-- whatever one does the other does, at the same arguments
pub record AnswerEachOther (th : Theory) (params : List Bound) (s t : Summand) : Type 0 where
  pub forth : IsAnswered th params s t
  pub back : IsAnswered th params t s

-- ---- laws
-- what a part gives is solvable, and where it gives nothing it isn't
abbrev pub WhatIsGivenIsSolvable : Type 0
WhatIsGivenIsSolvable = (xs : List ℕ) (p : Term) (b : Binding) → solution xs p ≡ Some b → IsSolvable xs p b

abbrev pub WhatGivesNothingIsNotSolvable : Type 0
WhatGivesNothingIsNotSolvable = (xs : List ℕ) (p : Term) (b : Binding) → solution xs p ≡ None → IsSolvable xs p b → ⊥

-- a step keeps the shape and the sorts of the summand, and what it does
abbrev pub StepsKeepTheShape : Type 0
StepsKeepTheShape = (params : List Bound) (s : Summand) (b : Binding) (rest : List Term) → IsSummand params s → IsFirst (variables s.sums) (conditions_of s) b rest → IsSummand params (solve b rest s)

abbrev pub StepsKeepTheSorts : Type 0
StepsKeepTheSorts =
    (g : Data) (vs : List Sort) (params : List Bound) (s : Summand) (b : Binding) (rest : List Term) → SummandIsSorted g vs params s → IsFirst (variables s.sums) (conditions_of s) b rest
    → SummandIsSorted g vs params (solve b rest s)

abbrev pub StepsAnswer : Type 0
StepsAnswer =
    (th : Theory) (vs : List Sort) (params : List Bound) (s : Summand) (b : Binding) (rest : List Term) → IsSummand params s → SummandIsSorted th.declared vs params s → AreDeclared vs params
    → IsFirst (variables s.sums) (conditions_of s) b rest → AnswerEachOther th params s (solve b rest s)

-- ---- what is reached
-- no part is solvable for a sum
abbrev pub HasNoSolution : Summand → Type 0
HasNoSolution s = (p : Term) (b : Binding) → Contains (parts s.condition) p → IsSolvable (variables s.sums) p b → ⊥

-- each sum occurs
abbrev pub HasNoUnused : Summand → Type 0
HasNoUnused s = (x : Bound) → Contains s.sums x → Contains (summand_variables s) x.var
