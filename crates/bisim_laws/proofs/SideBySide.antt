-- Environments side by side.
use Rattle.std.proofs.Common.{◌≡◌, ℕ, List, length, sym, ◌∙◌, subst}
use Rattle.std.specs.Prelude.{Contains}
use Rattle.data_theory.specs.Terms.{Term}
use Rattle.data_theory.specs.Environments.{Environment, term_in, bound, Apart, AreDistinct, Agree}
use Rattle.data_theory.proofs.EnvironmentLemmas.{front_is_read, front_is_skipped, bound_are_the_parameters}
use Rattle.process_terms.specs.Theories.{Theory, IsOfSort}
use Rattle.process_terms.specs.Processes.{Bound}
use Rattle.bisim_laws.specs.LinearProcesses.{variables, reading, beside_reading, AreBound}
use Rattle.bisim_laws.proofs.Firing.{variable_among, reading_same, reading_agrees, reading_long, bound_reads}

pub in_front_agree : (e d : Environment) (xs : List ℕ) → AreDistinct xs → Agree xs (term_in (beside_reading e xs d)) (term_in e)
in_front_agree e d xs n v i =
    front_is_read (bound xs (reading e xs)) d v (subst (λ z. Contains z v) (sym (bound_are_the_parameters xs (reading e xs) (reading_long e xs))) i)
    ∙ reading_agrees xs (bound xs (reading e xs)) e (bound_reads xs (reading e xs) (reading_long e xs) n) v i

pub behind_agree : (e d : Environment) (xs ys : List ℕ) → Apart xs ys → Agree ys (term_in (beside_reading e xs d)) (term_in d)
behind_agree e d xs ys n v i = front_is_skipped (bound xs (reading e xs)) d v (λ j. n v (subst (λ z. Contains z v) (bound_are_the_parameters xs (reading e xs) (reading_long e xs)) j) i)

-- behind the sums, the parameters are read as they are bound
pub reads_behind : (e : Environment) (xs ps : List ℕ) (ts : List Term) → Apart xs ps → AreDistinct ps → length ts ≡ length ps → reading (beside_reading e xs (bound ps ts)) ps ≡ ts
reads_behind e xs ps ts n d l = reading_same ps (beside_reading e xs (bound ps ts)) (bound ps ts) (behind_agree e (bound ps ts) xs ps n) ∙ bound_reads ps ts l d

-- terms of the sorts stay so where the environments agree
pub bound_along : (th : Theory) (xs : List Bound) (d e : Environment) → Agree (variables xs) (term_in d) (term_in e) → AreBound th xs e → AreBound th xs d
bound_along th xs d e g h x i = subst (λ t. IsOfSort th x.sort t) (sym (g x.var (variable_among xs x i))) (h x i)
