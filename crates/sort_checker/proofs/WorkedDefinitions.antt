-- The worked definition, process term and equation, step by step.
use Rattle.std.proofs.Common.{◌≡◌, ℕ, Bool, true, false, [], ◌∷◌, refl, ap, ⊎_elim, arith}
use Rattle.std.specs.Prelude.{codes}
use Rattle.std.specs.List.{Contains}
use Rattle.data_theory.specs.Table.{language_table, truth_rows, sort_rows, comparison_rows, sum_rows, first_rows, quotient_rows, extreme_rows, step_rows, list_rows}
use Rattle.data_theory.specs.Terms.{natural, boolean, Term, variable, application}
use Rattle.data_theory.proofs.EnvironmentLemmas.{contains_nothing, contains_cases}
use Rattle.sort_checker.specs.Scopes.{binds_none, binds_more}
use Rattle.sort_checker.specs.Elaborations.{Elaborates, ElaboratesDefinition, ElaboratesEquation, label, call_in_order, one_by_one, call_by_name, in_sequence, for_each, where_true, all_done, one_and_more}
use Rattle.sort_checker.specs.WorkedFaults.{small}
use Rattle.sort_checker.specs.WorkedElaborations.{p, p_elaborated, at_once, at_once_elaborated, f_is_one, f_is_one_elaborated, TheseElaborate}

zero_not_three : Contains {X = ℕ} (3 ∷ []) 0 → ⊥
zero_not_three h = ⊎_elim (λ (e : ◌≡◌ {A = ℕ} 3 0). omega (arith, e)) (λ k. contains_nothing 0 k) (contains_cases 3 0 [] h)

eight_is_new : Contains {X = ℕ} (0 ∷ 3 ∷ []) 8 → ⊥
eight_is_new h = ⊎_elim (λ (e : ◌≡◌ {A = ℕ} 0 8). omega (arith, e)) (λ k. ⊎_elim (λ (e : ◌≡◌ {A = ℕ} 3 8). omega (arith, e)) (λ l. contains_nothing 8 l) (contains_cases 3 8 [] k)) (contains_cases 0 8 (3 ∷ []) h)

zero_not_one : Contains {X = ℕ} (1 ∷ []) 0 → ⊥
zero_not_one h = ⊎_elim (λ (e : ◌≡◌ {A = ℕ} 1 0). omega (arith, e)) (λ k. contains_nothing 0 k) (contains_cases 1 0 [] h)

p_elaborates : ElaboratesDefinition small p p_elaborated
unfolding language_table truth_rows sort_rows comparison_rows sum_rows first_rows quotient_rows extreme_rows step_rows list_rows
p_elaborates = record {
  scope = record { name = codes "q"; number = 0; sort = boolean } ∷ record { name = codes "n"; number = 3; sort = natural } ∷ [];
  bounds = record { var = 3; sort = natural } ∷ record { var = 0; sort = boolean } ∷ [];
  binds = binds_more refl (contains_nothing 3) (binds_more refl zero_not_three binds_none);
  params = refl;
  body =
      for_each (binds_more {n = 8} refl eight_is_new binds_none)
      (where_true refl (in_sequence (one_and_more (label refl) (one_and_more (call_by_name refl refl refl) all_done))));
}

at_once_elaborates : Elaborates small [] at_once at_once_elaborated
unfolding language_table truth_rows sort_rows comparison_rows sum_rows first_rows quotient_rows extreme_rows step_rows list_rows
at_once_elaborates = one_by_one refl (one_and_more (label refl) (one_and_more (call_in_order refl refl) all_done))

is_application : Term → Bool
is_application (application f ts) = true
is_application _ = false

never_a_variable : (n : ℕ) → f_is_one_elaborated.left ≡ variable n → ⊥
unfolding is_application
never_a_variable n e = let c : true ≡ false = ap is_application e in cc

f_is_one_elaborates : ElaboratesEquation small f_is_one f_is_one_elaborated
unfolding language_table truth_rows sort_rows comparison_rows sum_rows first_rows quotient_rows extreme_rows step_rows list_rows
f_is_one_elaborates = record {
  scope = record { name = codes "y"; number = 0; sort = natural } ∷ record { name = codes "x"; number = 1; sort = natural } ∷ [];
  bounds = record { var = 1; sort = natural } ∷ record { var = 0; sort = natural } ∷ [];
  binds = binds_more refl (contains_nothing 1) (binds_more refl zero_not_one binds_none);
  sorts = ((λ c. refl), ((λ c. refl), tt));
  sort = natural;
  left = refl;
  right = refl;
  condition = refl;
  no_variable = never_a_variable;
  no_other = λ n c. absurd (contains_nothing n c);
}

pub these_elaborate : TheseElaborate
these_elaborate = record { definition = p_elaborates; term = at_once_elaborates; equation = f_is_one_elaborates }
