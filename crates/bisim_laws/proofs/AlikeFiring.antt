-- Provably equal arguments fire alike.
use Rattle.std.proofs.Common.{◌≡◌, ℕ, ⊎_elim, List, [], ◌∷◌, length, refl, sym, ap, ◌∙◌, subst, Option, Some}
use Rattle.std.specs.Prelude.{Contains}
use Rattle.std.proofs.lemmas.List.Elements.{Contains-append_cases}
use Rattle.data_theory.specs.Terms.{Sort, Term}
use Rattle.data_theory.specs.Provable.{reflexive}
use Rattle.data_theory.specs.Environments.{Environment, term_in, bound, Agree}
use Rattle.data_theory.proofs.EnvironmentLemmas.{contains_nothing, contains_cases as number_cases}
use Rattle.process_terms.specs.Theories.{Theory, Equal, Equals, more_terms, AreOfSorts}
use Rattle.process_terms.specs.Labels.{Label, put_label}
use Rattle.process_terms.specs.Processes.{Process}
use Rattle.process_terms.specs.Steps.{Outcome, Step}
use Rattle.process_terms.proofs.AgreeingLabels.{equals_refl, equals_sym}
use Rattle.bisim_laws.specs.Sameness.{turned}
use Rattle.bisim_laws.specs.Bisimulations.{Lands, both_end, both_go_on, Answer, Answers, Flipped, UpTo, up_to, Progress}
use Rattle.bisim_laws.specs.LinearProcesses.{Linear, variables, sorts, state_of, IsLinear, IsWellSorted, reading, beside_reading, put_next, NextEquals, both_without, both_with, outcome_of, Fires}
use Rattle.bisim_laws.specs.BaseStates.{SolvedState, solved_state}
use Rattle.bisim_laws.specs.LinkLaws.{EqualArgumentsFireAlike}
use Rattle.bisim_laws.specs.LinkChecks.{SolvedWithItselfIsGood}
use Rattle.bisim_laws.proofs.AlikeProcesses.{alike_refl, answer_weaken}
use Rattle.bisim_laws.proofs.ComposedLinks.{up_to_bisimulation}
use Rattle.bisim_laws.proofs.PuttingEqualData.{equals_long}
use Rattle.bisim_laws.proofs.Firing.{reading_long, fired, fire}
use Rattle.bisim_laws.proofs.EqualFiring.{does_equal}
use Rattle.bisim_laws.proofs.SideBySide.{in_front_agree, reads_behind, bound_along}
use Rattle.bisim_laws.proofs.SortedFiring.{firings_keep}

-- readings that are provably equal
pub equal_at : (th : Theory) (xs : List ℕ) (d e : Environment) → Equals th (reading d xs) (reading e xs) → (v : ℕ) → Contains xs v → Equal th (term_in d v) (term_in e v)
equal_at th [] d e h v i = absurd (contains_nothing v i)
equal_at th (x ∷ xs) d e (more_terms h k) v i = ⊎_elim (λ q. subst (λ z. Equal th (term_in d z) (term_in e z)) q h) (λ j. equal_at th xs d e k v j) (number_cases x v xs i)

pub fire_alike : EqualArgumentsFireAlike
fire_alike th l ts us m next is h k =
    let s = k.summand in
    let f = is.summands s k.among in
    let ps : List ℕ = variables l.params in
    let vs : List ℕ = variables s.sums in
    let e : Environment = beside_reading k.environment vs (bound ps us) in
    let long : length us ≡ length ps = sym (equals_long h) ∙ ap length (sym k.reads) ∙ reading_long k.environment ps in
    let front : Agree vs (term_in e) (term_in k.environment) = in_front_agree k.environment (bound ps us) vs f.distinct in
    let reads : reading e ps ≡ us = reads_behind k.environment vs ps us f.apart is.distinct long in
    let equal : Equals th (reading k.environment ps) (reading e ps) = subst (λ xs. Equals th xs (reading e ps)) (sym k.reads) (subst (λ xs. Equals th ts xs) (sym reads) h) in
    let r = does_equal th l.params s k.environment e m next f
    (λ v i. ⊎_elim (λ j. subst (λ t. Equal th (term_in k.environment v) t) (sym (front v j)) reflexive) (λ j. equal_at th ps k.environment e equal v j) (Contains-append_cases vs ps v i))
    k.does in
    record {
      label = put_label e s.label;
      onward = put_next e s.next;
      fires = record {
        summand = s;
        among = k.among;
        environment = e;
        reads = reads;
        bound = bound_along th s.sums e k.environment front k.bound;
        does = r.does;
      };
      agree = r.agree;
      equal = r.onward;
    }

-- ---- a linear process with itself
solved_lands : (th : Theory) (l : Linear) (next onward : Option (List Term)) → ((us : List Term) → next ≡ Some us → AreOfSorts th (sorts l.params) us) → ((us : List Term) → onward ≡ Some us → AreOfSorts th (sorts l.params) us)
    → NextEquals th next onward → Lands (UpTo th (SolvedState th l l)) (outcome_of l next) (outcome_of l onward)
solved_lands th l _ _ f g both_without = both_end
solved_lands th l _ _ f g (both_with {ts = ts} {us = us} h) = both_go_on (up_to (alike_refl th (state_of l ts)) (solved_state (f ts refl) (g us refl) h) (alike_refl th (state_of l us)))

solved_answer : (th : Theory) (vs : List Sort) (l : Linear) → IsLinear l → IsWellSorted th.declared vs l → (ts us : List Term) → AreOfSorts th (sorts l.params) ts → AreOfSorts th (sorts l.params) us → Equals th ts us
    → (m : Label) (r : Outcome) → Step th (state_of l ts) m r → Answer th (UpTo th (SolvedState th l l)) (state_of l us) m r
solved_answer th vs l is sorted ts us a b h m r s =
    let f = fired th l ts m r is s in
    let k = fire_alike th l ts us m f.0 is h f.1.0 in
    subst (λ o. Answer th (UpTo th (SolvedState th l l)) (state_of l us) m o) (sym f.1.1)
    (record {
      label = k.label;
      outcome = outcome_of l k.onward;
      step = fire th l us k.label k.onward is k.fires;
      agree = k.agree;
      lands = solved_lands th l f.0 k.onward
          (λ vs' q. firings_keep th vs l ts vs' m is sorted a (subst (λ n. Fires th l ts m n) q f.1.0))
          (λ vs' q. firings_keep th vs l us vs' k.label is sorted b (subst (λ n. Fires th l us k.label n) q k.fires))
          k.equal;
    })

solved_answers : (th : Theory) (vs : List Sort) (l : Linear) → IsLinear l → IsWellSorted th.declared vs l → Answers th (SolvedState th l l) (UpTo th (SolvedState th l l))
solved_answers th vs l is sorted p q m r (solved_state {ts = ts} {us = us} a b h) s = solved_answer th vs l is sorted ts us a b h m r s

solved_flip : (th : Theory) (l : Linear) (p q : Process) → SolvedState th l l p q → SolvedState th l l q p
solved_flip th l p q (solved_state a b h) = solved_state b a (equals_sym h)

up_to_flip : (th : Theory) (l : Linear) (p q : Process) → UpTo th (SolvedState th l l) p q → Flipped (UpTo th (SolvedState th l l)) p q
up_to_flip th l p q (up_to {x = x} {y = y} h s k) = up_to (turned k) (solved_flip th l x y s) (turned h)

solved_progress : (th : Theory) (vs : List Sort) (l : Linear) → IsLinear l → IsWellSorted th.declared vs l → Progress th (SolvedState th l l)
solved_progress th vs l is sorted = record {
  forth = solved_answers th vs l is sorted;
  back = λ p q m r h s. answer_weaken (up_to_flip th l) (solved_answers th vs l is sorted p q m r (solved_flip th l q p h) s);
}

pub solved_good : SolvedWithItselfIsGood
solved_good th vs l ts is sorted a = record {
  starts = up_to (alike_refl th (state_of l ts)) (solved_state a a (equals_refl th ts)) (alike_refl th (state_of l ts));
  follows = up_to_bisimulation (solved_progress th vs l is sorted);
}
