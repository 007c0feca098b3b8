-- `Same` doesn't look at the names of variables.
use Rattle.std.proofs.Common.{◌≡◌, ℕ, zero, suc, List, [], ◌∷◌, length, refl, sym, subst, arith}
use Rattle.std.specs.Prelude.{slice_get}
use Rattle.data_theory.specs.Terms.{Sort, Term, variable}
use Rattle.data_theory.specs.Provable.{reflexive}
use Rattle.data_theory.specs.Environments.{Environment, term_in, bound}
use Rattle.process_terms.specs.Theories.{Theory, Equal, Equals, no_terms, more_terms}
use Rattle.process_terms.specs.Labels.{Action, put_label, equal_args, AgreeInOrder, both_silent, next_agree}
use Rattle.process_terms.specs.Processes.{written_act}
use Rattle.bisim_laws.specs.Sameness.{SameBody, same_act, SameDefinition, both_missing, both_there, SameTables, equal_act, equal_sum, equal_call, by_data, EqualData}
use Rattle.bisim_laws.specs.LinkChecks.{one_action, NamesOfParametersDoNotCount, one_sum, NamesOfSumsDoNotCount}
use Rattle.bisim_laws.proofs.Firing.{read_now}

-- the label with one variable that stands for a term
pub one_argument : (th : Theory) (a : Action) (x y : ℕ) (t u : Term) (d e : Environment) → Equal th t u
    → AgreeInOrder th (put_label (record { var = x; term = t } ∷ d) (record { name = a.name; sorts = a.sorts; args = variable x ∷ [] } ∷ [])) (put_label (record { var = y; term = u } ∷ e) (record { name = a.name; sorts = a.sorts; args = variable y ∷ [] } ∷ []))
one_argument th a x y t u d e h =
    next_agree (equal_args (more_terms (subst (λ w. Equal th w (term_in (record { var = y; term = u } ∷ e) y)) (sym (read_now x t d)) (subst (λ w. Equal th t w) (sym (read_now y u e)) h)) no_terms)) both_silent

same_with_one : (th : Theory) (a : Action) (x y : ℕ) (ts us : List Term) → length ts ≡ 1 → Equals th ts us
    → SameBody th (bound (x ∷ []) ts) (written_act (record { name = a.name; sorts = a.sorts; args = variable x ∷ [] } ∷ [])) (bound (y ∷ []) us) (written_act (record { name = a.name; sorts = a.sorts; args = variable y ∷ [] } ∷ []))
same_with_one th a x y [] us l h = absurd (omega (arith, l))
same_with_one th a x y (t ∷ ts) _ l (more_terms {u = u} h k) = same_act (one_argument th a x y t u [] [] h)

tables_same : (th : Theory) (a : Action) (x y : ℕ) → SameTables th (one_action a x) (one_action a y)
tables_same th a x y = record { at = λ z. at z }
  where
    at : (z : ℕ) → SameDefinition th (slice_get (one_action a x) z) (slice_get (one_action a y) z)
    at zero = both_there refl (λ ts us l h. same_with_one th a x y ts us l h)
    at (suc z) = both_missing

pub parameters_free : NamesOfParametersDoNotCount
parameters_free th a x y t = by_data (equal_call (tables_same th a x y) (more_terms reflexive no_terms))

sums_free_at : (th : Theory) (a : Action) (x y : ℕ) (s r : Sort) → s ≡ r → EqualData th (one_sum a (record { var = x; sort = s })) (one_sum a (record { var = y; sort = r }))
sums_free_at th a x y s r q = subst (λ z. EqualData th (one_sum a (record { var = x; sort = s })) (one_sum a (record { var = y; sort = z }))) q (equal_sum (λ t. equal_act (one_argument th a x y t t [] [] reflexive)))

pub sums_free : NamesOfSumsDoNotCount
sums_free th a x y q = by_data (sums_free_at th a x.var y.var x.sort y.sort q)
