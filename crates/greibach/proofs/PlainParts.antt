-- Parts of plain conditions, and conditions that are joined.
use Rattle.std.proofs.Common.{⊎_elim, true, false, if◌then◌else◌, List, [], ◌∷◌, ◌++◌, subst}
use Rattle.std.specs.Prelude.{Contains}
use Rattle.std.specs.List.{AllByRecursion}
use Rattle.data_theory.specs.Terms.{Term, conjunction, application, none, more}
use Rattle.data_theory.specs.Equations.{trueᵗ}
use Rattle.process_terms.specs.Communication.{conjunction_of}
use Rattle.process_terms.specs.Processes.{Bound}
use Rattle.bisim_laws.specs.LinearProcesses.{is_true}
use Rattle.bisim_laws.proofs.Firing.{contains_first, contains_later, contains_cases, contains_none}
use Rattle.lps_core.specs.Conditions.{parts, all_parts, without_true, joined}
use Rattle.lps_core.specs.MadeTerms.{Origin, StandsIn, on_the_left, on_the_right, IsPlainPart, true_part, plain_part, HasPlainParts}

parts_stand : (c p q : Term) → StandsIn c p → Contains (parts p) q → StandsIn c q
parts_stand c (application conjunction (more x (more y none))) q s i = ⊎_elim (λ same. subst (λ z. StandsIn c z) same (on_the_left s)) (λ k. parts_stand c y q (on_the_right s) k) (contains_cases x q (parts y) i)
parts_stand c p q s i = ⊎_elim (λ same. subst (λ z. StandsIn c z) same s) (λ k. absurd (contains_none q k)) (contains_cases p q [] i)

pub parts_are_plain : (o : Origin) (added ps xs : List Bound) (p : Term) → IsPlainPart o added ps xs p → HasPlainParts o added ps xs p
parts_are_plain o added ps xs _ true_part q j = ⊎_elim (λ same. subst (λ z. IsPlainPart o added ps xs z) same true_part) (λ k. absurd (contains_none q k)) (contains_cases trueᵗ q [] j)
parts_are_plain o added ps xs _ (plain_part {c = c} {p = p} w s) q j = plain_part w (parts_stand c p q s j)

module _ (o : Origin) (added ps xs : List Bound) where
  all_parts_plain : (cs : List Term) → AllByRecursion (HasPlainParts o added ps xs) cs → AllByRecursion (IsPlainPart o added ps xs) (all_parts cs)
  all_parts_plain [] h = tt
  all_parts_plain (c ∷ cs) h = each_then (parts c) (all_parts cs) h.0 (all_parts_plain cs h.1)
    where
      each_then : (ts us : List Term) → ((p : Term) → Contains ts p → IsPlainPart o added ps xs p) → AllByRecursion (IsPlainPart o added ps xs) us → AllByRecursion (IsPlainPart o added ps xs) (ts ++ us)
      each_then [] us f k = k
      each_then (t ∷ ts) us f k = (f t (contains_first t ts), each_then ts us (λ p i. f p (contains_later t p ts i)) k)

  fewer_plain : (cs : List Term) → AllByRecursion (IsPlainPart o added ps xs) cs → AllByRecursion (IsPlainPart o added ps xs) (without_true cs)
  fewer_plain [] h = tt
  fewer_plain (c ∷ cs) h = elim (is_true c) as (λ b. AllByRecursion (IsPlainPart o added ps xs) (if b then without_true cs else c ∷ without_true cs)) [ true ↦ fewer_plain cs h.1 | false ↦ (h.0, fewer_plain cs h.1) ]

  chain_plain : (cs : List Term) → AllByRecursion (IsPlainPart o added ps xs) cs → HasPlainParts o added ps xs (conjunction_of cs)
  chain_plain [] h q j = parts_are_plain o added ps xs trueᵗ true_part q j
  chain_plain (c ∷ []) h q j = parts_are_plain o added ps xs c h.0 q j
  chain_plain (c ∷ d ∷ cs) h q j = ⊎_elim (λ same. subst (λ z. IsPlainPart o added ps xs z) same h.0) (λ k. chain_plain (d ∷ cs) h.1 q k) (contains_cases c q (parts (conjunction_of (d ∷ cs))) j)

  pub joined_plain : (cs : List Term) → AllByRecursion (HasPlainParts o added ps xs) cs → HasPlainParts o added ps xs (joined cs)
  joined_plain cs h = chain_plain (without_true (all_parts cs)) (fewer_plain (all_parts cs) (all_parts_plain cs h))
