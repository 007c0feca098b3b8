-- Calls of places that get their numbers.
use Rattle.std.specs.Prelude.{◌≡◌, ℕ, List, [], ◌∷◌, ◌++◌, map}
use Rattle.data_theory.specs.declared.ids.TermId.{TermId}
use Rattle.greibach.specs.MeetingOrder.{IsNumberOf, Meets}

-- a call has the number of the place, and the same arguments
pub record HasNumber (met : List ℕ) (waiting call : ℕ × List TermId) : Type 0 where
  pub number : IsNumberOf met waiting.0 call.0
  pub args : call.1 ≡ waiting.1

pub data HaveNumbers (met : List ℕ) : List (ℕ × List TermId) → List (ℕ × List TermId) → Type 0 where
  none_numbered : HaveNumbers met [] []
  one_more_numbered : {ws cs : List (ℕ × List TermId)} {w c : ℕ × List TermId} → HaveNumbers met ws cs → HasNumber met w c → HaveNumbers met (ws ++ w ∷ []) (cs ++ c ∷ [])

-- calls of these places were added, with their numbers, in the order in which they are met
pub record AddsNumbered (waiting : List (ℕ × List TermId)) (old new : List ℕ) (before after : List (ℕ × List TermId)) : Type 0 where
  pub added : List (ℕ × List TermId)
  pub is : after ≡ before ++ added
  pub numbered : HaveNumbers new waiting added
  pub met : Meets old (map (λ w. w.0) waiting) new
