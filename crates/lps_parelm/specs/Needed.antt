-- Parameters that are needed.
use Rattle.std.specs.Prelude.{◌≡◌, ◌↔◌, ℕ, List, [], ◌∷◌, Some, slice_get}
use Rattle.std.specs.List.{Contains}
use Rattle.data_theory.specs.Terms.{Term, variables_of}
use Rattle.data_theory.specs.Signature.{Sig}
use Rattle.data_theory.specs.IdTrees.{Tree}
use Rattle.process_terms.specs.Labels.{Action}
use Rattle.process_terms.specs.SignatureEntries.{entries_of}
use Rattle.bisim_laws.specs.LinearProcesses.{Summand, Linear, variables}
use Rattle.bisim_laws.specs.BaseStates.{Fate, kept, constant, not_needed}
use Rattle.bisim_laws.specs.Links.{Dropped}
use Rattle.lps_core.specs.PlainLinears.{PlainLinear, linear_of, linear_state}
use Rattle.lps_core.specs.GoingOn.{IsGoodOver}
use Rattle.lps_parelm.specs.Keeping.{keep, kept_linear}

-- a condition, or an argument of an action
pub data IsShown (l : Linear) : Term → Type 0 where
  a_condition : {s : Summand} → Contains l.summands s → IsShown l s.condition
  an_argument : {s : Summand} {a : Action} {t : Term} → Contains l.summands s → Contains s.label a → Contains a.args t → IsShown l t

-- the next term of the parameter w in one of the summands
pub record IsNextTerm (l : Linear) (w : ℕ) (t : Term) : Type 0 where
  pub place : ℕ
  pub param : slice_get (variables l.params) place ≡ Some w
  pub summand : Summand
  pub among : Contains l.summands summand
  pub terms : List Term
  pub next : summand.next ≡ Some terms
  pub is : slice_get terms place ≡ Some t

-- the parameter v stands in the term
pub record IsParameterIn (l : Linear) (v : ℕ) (t : Term) : Type 0 where
  pub param : Contains (variables l.params) v
  pub inside : Contains (variables_of t) v

-- The least set of parameters that has those in conditions and in the arguments of actions and, with a parameter, those in its next
-- terms.
pub data IsNeeded (l : Linear) : ℕ → Type 0 where
  shown : {v : ℕ} {t : Term} → IsShown l t → IsParameterIn l v t → IsNeeded l v
  handed_on : {v w : ℕ} {t : Term} → IsNeeded l w → IsNextTerm l w t → IsParameterIn l v t → IsNeeded l v

-- one fate for each: it is kept, or not needed
abbrev pub AreKeptOrNotNeeded : List Fate → List ℕ → Type 0
AreKeptOrNotNeeded [] [] = Unit {0}
AreKeptOrNotNeeded [] (x ∷ xs) = ⊥
AreKeptOrNotNeeded (f ∷ fates) [] = ⊥
AreKeptOrNotNeeded (kept ∷ fates) (x ∷ xs) = AreKeptOrNotNeeded fates xs
AreKeptOrNotNeeded (constant t ∷ fates) (x ∷ xs) = ⊥
AreKeptOrNotNeeded (not_needed ∷ fates) (x ∷ xs) = AreKeptOrNotNeeded fates xs

-- exactly the needed ones are kept
pub record KeepTheNeeded (l : Linear) (fates : List Fate) : Type 0 where
  pub each : AreKeptOrNotNeeded fates (variables l.params)
  pub exact : (v : ℕ) → Contains (keep fates (variables l.params)) v ↔ IsNeeded l v

-- The needed parameters are left, in their order. Over every theory that goes on from the signature, nothing else was dropped.
pub record IsWithoutTheUnneeded (g : Sig) (ts : List Tree) (l k : PlainLinear) : Type 0 where
  pub fates : List Fate
  pub needed : KeepTheNeeded (linear_of (entries_of g ts) l) fates
  pub is : k ≡ kept_linear fates l
  pub bisimilar : IsGoodOver g (Dropped fates (linear_of (entries_of g ts) l) (linear_of (entries_of g ts) k)) (linear_state (entries_of g ts) l) (linear_state (entries_of g ts) k)
