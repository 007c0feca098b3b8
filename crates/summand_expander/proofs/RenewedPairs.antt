-- Summands of a product with other variables.
use Rattle.std.proofs.Common.{◌≡◌, ℕ, List, [], ◌∷◌, ◌++◌, map, refl, sym, ap, ap₂, ◌∙◌, Option, Some, None}
use Rattle.std.specs.Prelude.{option_map}
use Rattle.std.proofs.lemmas.List.{map-append}
use Rattle.data_theory.specs.Terms.{Term, variable}
use Rattle.data_theory.specs.Equations.{ !ᵗ◌}
use Rattle.process_terms.specs.Labels.{Action, Label}
use Rattle.process_terms.specs.Processes.{Bound}
use Rattle.bisim_laws.specs.LinearProcesses.{Summand}
use Rattle.bisim_laws.specs.BaseStates.{Side}
use Rattle.lps_core.specs.Columns.{as_terms}
use Rattle.lps_core.specs.Conditions.{parts, conjoined}
use Rattle.summand_expander.specs.Product.{flag_of, columns, running_part, set, onward, guarded, alone, together, pair}
use Rattle.summand_expander.specs.Renewing.{renewed_bounds, renewed_terms, renewed_label, renewed_next, renewed_summand, renewed}
use Rattle.summand_expander.proofs.RenewedTerms.{renewed_term, renewed_parts, renewed_conjoined, by_fields}
use Rattle.summand_expander.proofs.Numberings.{bounds_append}

module _ (r : ℕ → ℕ) where
  abbrev pub renewed_side : Side → Side
  renewed_side a = record { process = renewed r a.process; flag = option_map r a.flag }

  terms_append : (ts us : List Term) → renewed_terms r (ts ++ us) ≡ renewed_terms r ts ++ renewed_terms r us
  terms_append ts us = map-append (renewed_term r) ts us

  pub terms_renewed : (xs : List Bound) → renewed_terms r (as_terms xs) ≡ as_terms (renewed_bounds r xs)
  terms_renewed [] = refl
  terms_renewed (x ∷ xs) = ap (λ l. variable (r x.var) ∷ l) (terms_renewed xs)

  flag_renewed : (f : Option ℕ) → renewed_bounds r (flag_of f) ≡ flag_of (option_map r f)
  flag_renewed None = refl
  flag_renewed (Some f) = refl

  running_renewed : (f : Option ℕ) → renewed_terms r (running_part f) ≡ running_part (option_map r f)
  running_renewed None = refl
  running_renewed (Some f) = refl

  set_renewed : (f : Option ℕ) → renewed_terms r (set (flag_of f)) ≡ set (flag_of (option_map r f))
  set_renewed None = refl
  set_renewed (Some f) = refl

  pub columns_renewed : (a : Side) → renewed_bounds r (columns a) ≡ columns (renewed_side a)
  columns_renewed a = bounds_append r a.process.params (flag_of a.flag) ∙ ap (λ l. renewed_bounds r a.process.params ++ l) (flag_renewed a.flag)

  onward_renewed : (a : Side) (n : Option (List Term)) → renewed_terms r (onward a n) ≡ onward (renewed_side a) (renewed_next r n)
  onward_renewed a None = terms_append (as_terms a.process.params) (set (flag_of a.flag)) ∙ ap₂ (λ k l. k ++ l) (terms_renewed a.process.params) (set_renewed a.flag)
  onward_renewed a (Some ts) = terms_append ts (as_terms (flag_of a.flag)) ∙ ap (λ l. renewed_terms r ts ++ l) (terms_renewed (flag_of a.flag) ∙ ap as_terms (flag_renewed a.flag))

  guarded_renewed : (ps qs : List Term) (s : Summand) (n m : Option (List Term)) → renewed_terms r ps ≡ qs → renewed_next r n ≡ m → renewed_summand r (guarded ps s n) ≡ guarded qs (renewed_summand r s) m
  guarded_renewed ps qs s n m e w =
      by_fields refl
      (renewed_conjoined r (ps ++ parts s.condition) ∙ ap conjoined (map-append (renewed_term r) ps (parts s.condition) ∙ ap₂ (λ k l. k ++ l) e (sym (renewed_parts r s.condition))))
      refl w

  -- a place for the columns of both sides
  abbrev pub IsPlace : (List Term → List Term → List Term) → Type 0
  IsPlace place = (us ts : List Term) → renewed_terms r (place us ts) ≡ place (renewed_terms r us) (renewed_terms r ts)

  placed : (place : List Term → List Term → List Term) → IsPlace place → (a : Side) (others : List Term) (n : Option (List Term)) → renewed_next r (Some (place (onward a n) others)) ≡ Some (place (onward (renewed_side a) (renewed_next r n)) (renewed_terms r others))
  placed place k a others n = ap Some (k (onward a n) others ∙ ap (λ us. place us (renewed_terms r others)) (onward_renewed a n))

  pub alone_renewed : (place : List Term → List Term → List Term) → IsPlace place → (a : Side) (others : List Term) (s : Summand) (n : Option (List Term)) (g : Option ℕ)
      → map (renewed_summand r) (alone place a others s n g) ≡ alone place (renewed_side a) (renewed_terms r others) (renewed_summand r s) (renewed_next r n) (option_map r g)
  alone_renewed place k a others s (Some ts) g = ap (λ z. z ∷ []) (guarded_renewed (running_part a.flag) _ s (Some (place (onward a (Some ts)) others)) _ (running_renewed a.flag) (placed place k a others (Some ts)))
  alone_renewed place k a others s None None = ap (λ z. z ∷ []) (guarded_renewed (running_part a.flag) _ s (Some (place (onward a None) others)) _ (running_renewed a.flag) (placed place k a others None))
  alone_renewed place k a others s None (Some g) = ap₂ (λ y z. y ∷ z ∷ [])
      (guarded_renewed (running_part a.flag ++ ((!ᵗ (variable g)) ∷ [])) _ s (Some (place (onward a None) others)) _ (terms_append (running_part a.flag) ((!ᵗ (variable g)) ∷ []) ∙ ap (λ l. l ++ ((!ᵗ (variable (r g))) ∷ [])) (running_renewed a.flag)) (placed place k a others None))
      (guarded_renewed (running_part a.flag ++ (variable g ∷ [])) _ s None None (terms_append (running_part a.flag) (variable g ∷ []) ∙ ap (λ l. l ++ (variable (r g) ∷ [])) (running_renewed a.flag)) refl)

  label_append : (m n : Label) → renewed_label r (m ++ n) ≡ renewed_label r m ++ renewed_label r n
  label_append m n = map-append (λ (a : Action). record { name = a.name; sorts = a.sorts; args = renewed_terms r a.args }) m n

  both_onward : (a b : Side) (n o : Option (List Term)) → renewed_terms r (onward a n ++ onward b o) ≡ onward (renewed_side a) (renewed_next r n) ++ onward (renewed_side b) (renewed_next r o)
  both_onward a b n o = terms_append (onward a n) (onward b o) ∙ ap₂ (λ k l. k ++ l) (onward_renewed a n) (onward_renewed b o)

  together_renewed : (a b : Side) (n o : Option (List Term)) → renewed_next r (together a b n o) ≡ together (renewed_side a) (renewed_side b) (renewed_next r n) (renewed_next r o)
  together_renewed a b None None = refl
  together_renewed a b None (Some us) = ap Some (both_onward a b None (Some us))
  together_renewed a b (Some ts) None = ap Some (both_onward a b (Some ts) None)
  together_renewed a b (Some ts) (Some us) = ap Some (both_onward a b (Some ts) (Some us))

  pub pair_renewed : (a b : Side) (s t : Summand) → renewed_summand r (pair a b s t) ≡ pair (renewed_side a) (renewed_side b) (renewed_summand r s) (renewed_summand r t)
  pair_renewed a b s t =
      by_fields (bounds_append r s.sums t.sums)
      (renewed_conjoined r ((running_part a.flag ++ running_part b.flag) ++ (parts s.condition ++ parts t.condition))
      ∙ ap conjoined (terms_append (running_part a.flag ++ running_part b.flag) (parts s.condition ++ parts t.condition)
      ∙ ap₂ (λ k l. k ++ l)
      (terms_append (running_part a.flag) (running_part b.flag) ∙ ap₂ (λ k l. k ++ l) (running_renewed a.flag) (running_renewed b.flag))
      (terms_append (parts s.condition) (parts t.condition) ∙ ap₂ (λ k l. k ++ l) (sym (renewed_parts r s.condition)) (sym (renewed_parts r t.condition)))))
      (label_append s.label t.label) (together_renewed a b s.next t.next)
