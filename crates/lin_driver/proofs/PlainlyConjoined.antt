-- Parts of conditions in lists, and their conjunction.
use Rattle.std.proofs.Common.{⊎_elim, true, false, if◌then◌else◌, List, [], ◌∷◌, ◌++◌, subst}
use Rattle.std.specs.Prelude.{Contains}
use Rattle.std.specs.List.{AllByRecursion}
use Rattle.data_theory.specs.Terms.{Term}
use Rattle.data_theory.specs.Equations.{trueᵗ}
use Rattle.process_terms.specs.Communication.{conjunction_of}
use Rattle.process_terms.specs.Processes.{Bound}
use Rattle.bisim_laws.specs.LinearProcesses.{is_true}
use Rattle.bisim_laws.proofs.Firing.{contains_first, contains_later, contains_cases}
use Rattle.lps_core.specs.Conditions.{parts, without_true, conjoined}
use Rattle.lps_core.specs.MadeTerms.{Origin, AreMade, none_made, more_made, IsPlainPart, true_part, HasPlainParts}
use Rattle.greibach.proofs.PlainParts.{parts_are_plain}

-- ---- lists
pub each_of : {A : Type 0} (P : A → Type 0) (xs : List A) → ((x : A) → Contains xs x → P x) → AllByRecursion P xs
each_of P [] h = tt
each_of P (x ∷ xs) h = (h x (contains_first x xs), each_of P xs (λ y i. h y (contains_later x y xs i)))

pub both_of : {A : Type 0} (P : A → Type 0) (xs ys : List A) → AllByRecursion P xs → AllByRecursion P ys → AllByRecursion P (xs ++ ys)
both_of P [] ys h k = k
both_of P (x ∷ xs) ys h k = (h.0, both_of P xs ys h.1 k)

pub both_made : (o : Origin) (ps xs : List Bound) (ts us : List Term) → AreMade o ps xs ts → AreMade o ps xs us → AreMade o ps xs (ts ++ us)
both_made o ps xs _ us none_made k = k
both_made o ps xs _ us (more_made {ts = ts} m ms) k = more_made m (both_made o ps xs ts us ms k)

-- ---- chains
module _ (o : Origin) (added ps xs : List Bound) where
  fewer_are_plain : (cs : List Term) → AllByRecursion (IsPlainPart o added ps xs) cs → AllByRecursion (IsPlainPart o added ps xs) (without_true cs)
  fewer_are_plain [] h = tt
  fewer_are_plain (c ∷ cs) h = elim (is_true c) as (λ b. AllByRecursion (IsPlainPart o added ps xs) (if b then without_true cs else c ∷ without_true cs)) [ true ↦ fewer_are_plain cs h.1 | false ↦ (h.0, fewer_are_plain cs h.1) ]

  pub chain_is_plain : (cs : List Term) → AllByRecursion (IsPlainPart o added ps xs) cs → HasPlainParts o added ps xs (conjunction_of cs)
  chain_is_plain [] h q j = parts_are_plain o added ps xs trueᵗ true_part q j
  chain_is_plain (c ∷ []) h q j = parts_are_plain o added ps xs c h.0 q j
  chain_is_plain (c ∷ d ∷ cs) h q j = ⊎_elim (λ same. subst (λ z. IsPlainPart o added ps xs z) same h.0) (λ k. chain_is_plain (d ∷ cs) h.1 q k) (contains_cases c q (parts (conjunction_of (d ∷ cs))) j)

  pub conjoined_plain : (cs : List Term) → AllByRecursion (IsPlainPart o added ps xs) cs → HasPlainParts o added ps xs (conjoined cs)
  conjoined_plain cs h = chain_is_plain (without_true cs) (fewer_are_plain cs h)
