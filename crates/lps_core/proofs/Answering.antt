-- From answers on arguments to a bisimulation.
use Rattle.std.proofs.Common.{List, Option, sym, subst}
use Rattle.data_theory.specs.Terms.{Term}
use Rattle.process_terms.specs.Theories.{Theory, Equals}
use Rattle.process_terms.specs.Labels.{Label}
use Rattle.process_terms.specs.Processes.{Process}
use Rattle.process_terms.specs.Steps.{Outcome, Step}
use Rattle.process_terms.proofs.AgreeingLabels.{equals_sym}
use Rattle.bisim_laws.specs.Sameness.{Alike, by_data, equal_call}
use Rattle.bisim_laws.specs.Bisimulations.{Lands, both_end as ends, both_go_on as goes, Answer, Flipped, Bisimulation, UpTo, up_to, Progress}
use Rattle.bisim_laws.specs.LinearProcesses.{Linear, linear_table, state_of, outcome_of, IsLinear}
use Rattle.bisim_laws.specs.Links.{Link, IsBase, States, Pairs}
use Rattle.bisim_laws.proofs.PuttingEqualData.{tables_refl}
use Rattle.bisim_laws.proofs.AlikeProcesses.{answer_weaken}
use Rattle.bisim_laws.proofs.Firing.{fired, fire}
use Rattle.bisim_laws.proofs.ComposedLinks.{up_to_enough}
use Rattle.lps_core.specs.Progressing.{Paired, paired, NextPaired, both_end, both_go_on, FiresProgress, Turned}

pub state_alike : (th : Theory) (l : Linear) {ts us : List Term} → Equals th ts us → Alike th (state_of l ts) (state_of l us)
state_alike th l h = by_data (equal_call (tables_refl th (linear_table l)) h)

module _ (th : Theory) (R : List Term → List Term → Type 0) (l k : Linear) (left : IsLinear l) (right : IsLinear k) (f : FiresProgress th R l k) where
  abbrev U : Process → Process → Type 0
  U = UpTo th (Paired R l k)

  lands_forth : {o q : Option (List Term)} → NextPaired th R o q → Lands U (outcome_of l o) (outcome_of k q)
  lands_forth both_end = ends
  lands_forth (both_go_on e h g) = goes (up_to (state_alike th l e) (paired h) (state_alike th k g))

  lands_back : {o q : Option (List Term)} → NextPaired th (Turned R) o q → Lands (Flipped U) (outcome_of k o) (outcome_of l q)
  lands_back both_end = ends
  lands_back (both_go_on e h g) = goes (up_to (state_alike th l (equals_sym g)) (paired h) (state_alike th k (equals_sym e)))

  forth : (p q : Process) (m : Label) (r : Outcome) → Paired R l k p q → Step th p m r → Answer th U q m r
  forth p q m r (paired {ts = ts} {us = us} h) s =
      let d = fired th l ts m r left s in
      let a = f.forth ts us m d.0 h d.1.0 in
      record { label = a.label; outcome = outcome_of k a.onward; step = fire th k us a.label a.onward right a.fires; agree = a.agree; lands = subst (λ z. Lands U z (outcome_of k a.onward)) (sym d.1.1) (lands_forth a.lands) }

  back : (p q : Process) (m : Label) (r : Outcome) → Paired R l k q p → Step th p m r → Answer th (Flipped U) q m r
  back p q m r (paired {ts = ts} {us = us} h) s =
      let d = fired th k us m r right s in
      let a = f.back us ts m d.0 h d.1.0 in
      record { label = a.label; outcome = outcome_of l a.onward; step = fire th l ts a.label a.onward left a.fires; agree = a.agree; lands = subst (λ z. Lands (Flipped U) z (outcome_of l a.onward)) (sym d.1.1) (lands_back a.lands) }

  pub linear_progress : Progress th (Paired R l k)
  linear_progress = record { forth = forth; back = back }

-- the same pairs of states
pub record SamePairs (R S : Process → Process → Type 0) : Type 0 where
  pub forth : (p q : Process) → R p q → S p q
  pub back : (p q : Process) → S p q → R p q

up_to_along : (th : Theory) {R S : Process → Process → Type 0} → SamePairs R S → (p q : Process) → UpTo th R p q → UpTo th S p q
up_to_along th w p q (up_to {x = x} {y = y} a h b) = up_to a (w.forth x y h) b

pub progress_along : (th : Theory) {R S : Process → Process → Type 0} → SamePairs R S → Progress th R → Progress th S
progress_along th {R} {S} w f = record {
  forth = λ p q m r h s. answer_weaken (up_to_along th w) (f.forth p q m r (w.back p q h) s);
  back = λ p q m r h s. answer_weaken (λ x y i. up_to_along th w y x i) (f.back p q m r (w.back q p h) s);
}

-- a base link that pairs these states and no others
pub link_of_answers : (th : Theory) (j : Link) (R : List Term → List Term → Type 0) (l k : Linear) → IsBase j → IsLinear l → IsLinear k → SamePairs (Paired R l k) (States th j) → FiresProgress th R l k → Bisimulation th (Pairs th j)
link_of_answers th j R l k base left right w f = up_to_enough th j base (progress_along th w (linear_progress th R l k left right f))
