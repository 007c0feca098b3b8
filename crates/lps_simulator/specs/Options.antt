-- What a linear process can do in a state, over terms.
use Rattle.std.specs.Prelude.{◌≡◌, ℕ, suc, Bool, true, false, List, [], ◌∷◌, ◌++◌, map, cond, Option, Some, None}
use Rattle.std.specs.List.{AllZip}
use Rattle.data_theory.specs.declared.ids.VarId.{VarId}
use Rattle.data_theory.specs.Terms.{Term, put}
use Rattle.data_theory.specs.Declarations.{Data}
use Rattle.data_theory.specs.Environments.{Environment, term_in, bound}
use Rattle.data_theory.specs.Provable.{Equation}
use Rattle.data_theory.specs.Rewriting.{Decision, yes_decided, no_decided, stuck, spent, IsDecided}
use Rattle.data_theory.specs.Signature.{Sig}
use Rattle.data_theory.specs.IdData.{data_meant}
use Rattle.process_terms.specs.Labels.{Label, put_label}
use Rattle.bisim_laws.specs.LinearProcesses.{Summand, Linear, variables, put_next}
use Rattle.lps_simulator.specs.declared.options.Open.{Open}
use Rattle.lps_simulator.specs.Combinations.{combinations}
use Rattle.lps_simulator.specs.Rewritten.{LabelIsRewritten, NextIsRewritten}
use Rattle.lps_simulator.specs.SumValues.{Listed, AreListedFor, terms_of_each, is_cut}

-- ---- one combination
-- the sums with the terms of a combination, in front of the parameters with those of a state
abbrev pub environment_at : Linear → Summand → List Term → List Term → Environment
environment_at l s state combination = bound (variables s.sums) combination ++ bound (variables l.params) state

-- what a summand does for one combination: a label and next terms, or nothing, or it isn't decided, maybe since the fuel was spent
pub data Answer : Type 0 where
  it_does : Label → Option (List Term) → Answer
  it_does_nothing : Answer
  it_is_open : Bool → Answer

abbrev pub open_decision : Bool → Decision
open_decision true = spent
open_decision false = stuck

-- in this environment, by the decision of the condition
abbrev pub IsAnswer : Data → List Equation → ℕ → Summand → Environment → Answer → Type 0
IsAnswer g own fuel s e (it_does m next) = IsDecided g own fuel (put (term_in e) s.condition) yes_decided × LabelIsRewritten g own fuel (put_label e s.label) m × NextIsRewritten g own fuel (put_next e s.next) next
IsAnswer g own fuel s e it_does_nothing = IsDecided g own fuel (put (term_in e) s.condition) no_decided
IsAnswer g own fuel s e (it_is_open by_fuel) = IsDecided g own fuel (put (term_in e) s.condition) (open_decision by_fuel)

-- ---- one summand
-- what it does for each combination of the listed values of its sums, and whether a sum has other values
pub record Tried : Type 0 where
  pub answers : List Answer
  pub cut : Bool

pub record IsTried (g : Sig) (own : List Equation) (fuel bound : ℕ) (l : Linear) (state : List Term) (xs : List VarId) (s : Summand) (t : Tried) : Type 0 where
  pub listed : List Listed
  pub values : AllZip (AreListedFor g bound) xs listed
  pub answers : AllZip (λ (c : List Term). IsAnswer (data_meant g) own fuel s (environment_at l s state c)) (combinations (terms_of_each listed)) t.answers
  pub cut : t.cut ≡ is_cut listed

-- ---- all summands, by their numbers
pub record TermMove : Type 0 where
  pub summand : ℕ
  pub label : Label
  pub next : Option (List Term)

abbrev pub moves_of : ℕ → List Answer → List TermMove
moves_of k [] = []
moves_of k (it_does m next ∷ rest) = record { summand = k; label = m; next = next } ∷ moves_of k rest
moves_of k (it_does_nothing ∷ rest) = moves_of k rest
moves_of k (it_is_open by_fuel ∷ rest) = moves_of k rest

-- the first combination that isn't decided tells why
abbrev pub first_open : List Answer → Option Bool
first_open [] = None
first_open (it_does m next ∷ rest) = first_open rest
first_open (it_does_nothing ∷ rest) = first_open rest
first_open (it_is_open by_fuel ∷ rest) = Some by_fuel

abbrev pub open_with : ℕ → Option Bool → List Open
open_with k None = []
open_with k (Some by_fuel) = record { summand = k; spent = by_fuel } ∷ []

abbrev pub cut_with : ℕ → Bool → List ℕ
cut_with k b = cond b (k ∷ []) []

abbrev pub moves_from : ℕ → List Tried → List TermMove
moves_from k [] = []
moves_from k (t ∷ ts) = moves_of k t.answers ++ moves_from (suc k) ts

abbrev pub opens_from : ℕ → List Tried → List Open
opens_from k [] = []
opens_from k (t ∷ ts) = open_with k (first_open t.answers) ++ opens_from (suc k) ts

abbrev pub cuts_from : ℕ → List Tried → List ℕ
cuts_from k [] = []
cuts_from k (t ∷ ts) = cut_with k t.cut ++ cuts_from (suc k) ts
