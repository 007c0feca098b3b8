-- The summands of an encoding.
use Rattle.std.proofs.Common.{◌≡◌, ◌+◌, ℕ, zero, suc, List, [], ◌∷◌, map, length, refl, sym, ap, ◌∙◌, subst, arith, ⊎_elim, Some}
use Rattle.std.specs.Prelude.{Contains, slice_get}
use Rattle.std.proofs.lemmas.List.Elements.{Contains-append_cases, Contains-append_left, Contains-append_right}
use Rattle.process_terms.specs.Processes.{Bound}
use Rattle.bisim_laws.specs.LinearProcesses.{Summand, variables}
use Rattle.bisim_laws.specs.BaseStates.{Columns}
use Rattle.bisim_laws.proofs.Firing.{contains_first, contains_later, contains_none, variable_among}
use Rattle.data_theory.proofs.EnvironmentLemmas.{contains_nothing, contains_cases as number_cases}
use Rattle.greibach.specs.Forms.{FormSummand, FormEquation, Form}
use Rattle.lps_core.proofs.Members.{map_contains, contains_map}
use Rattle.lps_core.proofs.Renewing.{same_long}
use Rattle.regular_encoder.specs.Encoding.{control_params, encoded_summand, encoded_from, encoded_params, IsPlace}

-- ---- lists
pub variables_among : (xs ys : List Bound) → ((y : Bound) → Contains xs y → Contains ys y) → (v : ℕ) → Contains (variables xs) v → Contains (variables ys) v
variables_among [] ys w v i = absurd (contains_nothing v i)
variables_among (x ∷ xs) ys w v i = ⊎_elim
    (λ q. subst (λ z. Contains (variables ys) z) q (variable_among ys x (w x (contains_first x xs))))
    (λ j. variables_among xs ys (λ y k. w y (contains_later x y xs k)) v j)
    (number_cases x.var v (variables xs) i)

-- ---- where a summand comes from
pub record From (c : Columns) (v i : ℕ) (qs : List FormEquation) (y : Summand) : Type 0 where
  pub place : ℕ
  pub equation : FormEquation
  pub summand : FormSummand
  pub at : slice_get qs place ≡ Some equation
  pub among : Contains equation.summands summand
  pub is : y ≡ encoded_summand c v (place + i) equation summand

comes_from : (c : Columns) (v i : ℕ) (qs : List FormEquation) (y : Summand) → Contains (encoded_from c v i qs) y → From c v i qs y
comes_from c v i [] y h = absurd (contains_none y h)
comes_from c v i (q ∷ qs) y h = ⊎_elim
    (λ j. let r = contains_map (encoded_summand c v i q) q.summands y j in record { place = 0; equation = q; summand = r.0; at = refl; among = r.1.0; is = r.1.1 ∙ ap (λ z. encoded_summand c v z q r.0) (omega arith) })
    (λ j. let r = comes_from c v (suc i) qs y j in record { place = suc r.place; equation = r.equation; summand = r.summand; at = r.at; among = r.among; is = r.is ∙ ap (λ z. encoded_summand c v z r.equation r.summand) (omega arith) })
    (Contains-append_cases (map (encoded_summand c v i q) q.summands) (encoded_from c v (suc i) qs) y h)

goes_into : (c : Columns) (v i : ℕ) (qs : List FormEquation) (k : ℕ) (q : FormEquation) (s : FormSummand) → slice_get qs k ≡ Some q → Contains q.summands s → Contains (encoded_from c v i qs) (encoded_summand c v (k + i) q s)
goes_into c v i [] k q s e h = cc
goes_into c v i (p ∷ qs) zero q s e h =
    let same : p ≡ q = cc in
    Contains-append_left (map (encoded_summand c v i p) p.summands) (encoded_from c v (suc i) qs) (encoded_summand c v (0 + i) q s)
    (subst (λ z. Contains (map (encoded_summand c v i z) z.summands) (encoded_summand c v (0 + i) q s)) (sym same)
    (subst (λ z. Contains (map (encoded_summand c v i q) q.summands) (encoded_summand c v z q s)) (let n : i ≡ 0 + i = omega arith in n) (map_contains (encoded_summand c v i q) q.summands s h)))
goes_into c v i (p ∷ qs) (suc k) q s e h =
    Contains-append_right (map (encoded_summand c v i p) p.summands) (encoded_from c v (suc i) qs) (encoded_summand c v (suc k + i) q s)
    (subst (λ z. Contains (encoded_from c v (suc i) qs) (encoded_summand c v z q s)) (let n : k + suc i ≡ suc k + i = omega arith in n) (goes_into c v (suc i) qs k q s e h))

-- from the first equation on
pub record Among (c : Columns) (v : ℕ) (form : Form) (y : Summand) : Type 0 where
  pub place : ℕ
  pub equation : FormEquation
  pub summand : FormSummand
  pub at : slice_get form place ≡ Some equation
  pub among : Contains equation.summands summand
  pub is : y ≡ encoded_summand c v place equation summand

pub is_among : (c : Columns) (v : ℕ) (form : Form) (y : Summand) → Contains (encoded_from c v 0 form) y → Among c v form y
is_among c v form y h =
    let r = comes_from c v 0 form y h in
    record { place = r.place; equation = r.equation; summand = r.summand; at = r.at; among = r.among; is = r.is ∙ ap (λ z. encoded_summand c v z r.equation r.summand) (let n : r.place + 0 ≡ r.place = omega arith in n) }

pub stands_among : (c : Columns) (v : ℕ) (form : Form) (i : ℕ) (q : FormEquation) (s : FormSummand) → slice_get form i ≡ Some q → Contains q.summands s → Contains (encoded_from c v 0 form) (encoded_summand c v i q s)
stands_among c v form i q s at h = subst (λ z. Contains (encoded_from c v 0 form) (encoded_summand c v z q s)) (let n : i + 0 ≡ i = omega arith in n) (goes_into c v 0 form i q s at h)

-- ---- places
pub place_long : (c : Columns) (q : FormEquation) (place : List ℕ) → IsPlace c q place → length place ≡ length (variables q.params)
place_long c q place p = ap length p.is ∙ same_long p.same

pub place_among : (c : Columns) (q : FormEquation) (place : List ℕ) → IsPlace c q place → (u : ℕ) → Contains place u → Contains (variables c.columns) u
place_among c q place p u i = variables_among p.bounds c.columns p.among u (subst (λ z. Contains z u) p.is i)

pub columns_among : (c : Columns) (v u : ℕ) → Contains (variables c.columns) u → Contains (variables (encoded_params c v)) u
columns_among c v u i = variables_among c.columns (encoded_params c v) (λ y j. Contains-append_right (control_params c.control v) c.columns y j) u i
