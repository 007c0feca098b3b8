-- Whether a linear process can end, in code and in what it means.
use Rattle.std.proofs.Common.{◌≡◌, ◌||◌, Bool, true, false, List, [], ◌∷◌, map, refl, sym, ap, ap₂, ◌∙◌, ⊎_elim, Option, Some, None}
use Rattle.std.specs.Prelude.{option_map, is_none, Vec}
use Rattle.std.specs.Global.{Global}
use Rattle.std.specs.List.{Contains, list_any}
use Rattle.data_theory.specs.declared.ids.TermId.{TermId}
use Rattle.process_terms.specs.Meanings.{Entries, term_at}
use Rattle.bisim_laws.specs.LinearProcesses as theory
use Rattle.bisim_laws.proofs.Firing.{contains_none, contains_cases}
use Rattle.lps_core.specs.declared.linears.Summand.{Summand}
use Rattle.lps_core.specs.PlainLinears.{PlainSummand, PlainLinear, plain_next, plain_summand, ends, can_end, summand_of, linear_of}
use Rattle.lps_core.specs.Sealing.{NeverEnds}

-- as `Linear::can_end` says it
pub plain_ends : (items : List Summand) → list_any (λ (s : PlainSummand). is_none s.next) (map plain_summand items) ≡ list_any ends items
plain_ends [] = refl
plain_ends (s ∷ items) = ap₂ (λ a b. a || b) (by_next s.next) (plain_ends items)
  where
    by_next : (n : Option (Vec TermId Global)) → is_none (plain_next n) ≡ is_none n
    by_next None = refl
    by_next (Some v) = refl

goes_on_there : (e : Entries) (s : PlainSummand) → is_none s.next ≡ false → (summand_of e s).next ≡ None → ⊥
goes_on_there e s q h = by_next s.next q h
  where
    by_next : (n : Option (List TermId)) → is_none n ≡ false → option_map (map (term_at e)) n ≡ None → ⊥
    by_next None q h = cc
    by_next (Some v) q h = cc

none_ends : (e : Entries) (ss : List PlainSummand) → list_any (λ (s : PlainSummand). is_none s.next) ss ≡ false → (t : theory.Summand) → Contains (map (summand_of e) ss) t → t.next ≡ None → ⊥
none_ends e [] q t i h = contains_none t i
none_ends e (s ∷ ss) q t i h = by_test (is_none s.next) refl (λ w j. none_ends e ss w t j h)
  where
    rest : Bool
    rest = list_any (λ (s : PlainSummand). is_none s.next) ss

    by_test : (b : Bool) → is_none s.next ≡ b → (rest ≡ false → Contains (map (summand_of e) ss) t → ⊥) → ⊥
    by_test true r again = let k : (true || rest) ≡ false = ap (λ b. b || rest) (sym r) ∙ q in cc
    by_test false r again = ⊎_elim
        (λ p. goes_on_there e s r (ap (λ (z : theory.Summand). z.next) p ∙ h))
        (λ j. again (sym (ap (λ b. b || rest) r) ∙ q) j)
        (contains_cases (summand_of e s) t (map (summand_of e) ss) i)

pub what_cannot_end_never_ends : (e : Entries) (l : PlainLinear) → can_end l ≡ false → NeverEnds (linear_of e l)
what_cannot_end_never_ends e l q t i h = none_ends e l.summands q t i h
