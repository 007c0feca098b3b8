-- Linear processes that are the same but for the numbers of their variables, and but for summands that can't be completed.
use Rattle.std.specs.Prelude.{◌≡◌, ℕ, List, [], ◌∷◌, Option, Some, None, Contains}
use Rattle.data_theory.specs.Terms.{Sort}
use Rattle.data_theory.specs.Declarations.{Data}
use Rattle.process_terms.specs.Names.{Name}
use Rattle.process_terms.specs.Labels.{names}
use Rattle.process_terms.specs.Processes.{Bound}
use Rattle.bisim_laws.specs.LinearProcesses.{Summand, Linear, variables, sorts, IsLinear}
use Rattle.bisim_laws.specs.BaseStates.{Side}
use Rattle.summand_expander.specs.Product.{Separate}
use Rattle.summand_expander.specs.Renewing.{renewed_bounds, renewed_summand, renewed}
use Rattle.summand_expander.specs.LeavingOut.{MergeTree, one_process, two_sides, full}

-- The second summand is the first one with other numbers: those of the parameters ps become those of qs, and each sum variable becomes one
-- that is alike, as one of the same name.
pub record HasOtherIds (Alike : ℕ → ℕ → Type 0) (ps qs : List Bound) (s t : Summand) : Type 0 where
  pub to : ℕ → ℕ
  pub params : renewed_bounds to ps ≡ qs
  pub is : t ≡ renewed_summand to s
  pub sums : (v : ℕ) → Contains (variables s.sums) v → Alike v (to v)

-- the second ones are such as the first ones, in their order, without some whose names aren't such
pub data LeavesOutOf (Can : List Name → Type 0) (Same : Summand → Summand → Type 0) : List Summand → List Summand → Type 0 where
  none_there : LeavesOutOf Can Same [] []
  one_stays : {s t : Summand} {ss ts : List Summand} → Same s t → LeavesOutOf Can Same ss ts → LeavesOutOf Can Same (s ∷ ss) (t ∷ ts)
  one_left_out : {s : Summand} {ss ts : List Summand} → (Can (names s.label) → ⊥) → LeavesOutOf Can Same ss ts → LeavesOutOf Can Same (s ∷ ss) ts

-- numbers one to one
pub data AreAlike (Alike : ℕ → ℕ → Type 0) : List ℕ → List ℕ → Type 0 where
  no_numbers : AreAlike Alike [] []
  more_numbers : {v w : ℕ} {vs ws : List ℕ} → Alike v w → AreAlike Alike vs ws → AreAlike Alike (v ∷ vs) (w ∷ ws)

-- parameters of the same sorts that are alike, and summands with other numbers, without some
pub record IsCutWithOtherIds (Can : List Name → Type 0) (Alike : ℕ → ℕ → Type 0) (l k : Linear) : Type 0 where
  pub sorts_same : sorts l.params ≡ sorts k.params
  pub params : AreAlike Alike (variables l.params) (variables k.params)
  pub summands : LeavesOutOf Can (HasOtherIds Alike l.params k.params) l.summands k.summands

-- all summands, one to one
pub data AllWithOtherIds (Alike : ℕ → ℕ → Type 0) (ps qs : List Bound) : List Summand → List Summand → Type 0 where
  no_summands : AllWithOtherIds Alike ps qs [] []
  more_summands : {s t : Summand} {ss ts : List Summand} → HasOtherIds Alike ps qs s t → AllWithOtherIds Alike ps qs ss ts → AllWithOtherIds Alike ps qs (s ∷ ss) (t ∷ ts)

pub record IsSameButIds (Alike : ℕ → ℕ → Type 0) (l k : Linear) : Type 0 where
  pub sorts_same : sorts l.params ≡ sorts k.params
  pub params : AreAlike Alike (variables l.params) (variables k.params)
  pub summands : AllWithOtherIds Alike l.params k.params l.summands k.summands

-- ---- merges
-- the terms of a summand are those that are left where each variable is put in for itself
abbrev pub IsMerged : Summand → Type 0
IsMerged s = renewed_summand (λ v. v) s ≡ s

-- both have a flag, or none has
pub data FlagsAlike (Alike : ℕ → ℕ → Type 0) : Option ℕ → Option ℕ → Type 0 where
  no_flags : FlagsAlike Alike None None
  both_flags : {f g : ℕ} → Alike f g → FlagsAlike Alike (Some f) (Some g)

abbrev pub side_of : Linear → Option ℕ → Side
side_of l f = record { process = l; flag = f }

-- Two merges of the same linear processes, nested alike. Flags and new variables may have other numbers, and are alike. The first one is a
-- product of sides with different variables throughout.
pub data MergesAlike (Alike : ℕ → ℕ → Type 0) (g : Data) (vs : List Sort) : MergeTree → MergeTree → Type 0 where
  same_process : {l : Linear} → IsLinear l → ((s : Summand) → Contains l.summands s → IsMerged s) → AreAlike Alike (variables l.params) (variables l.params)
      → ((s : Summand) (v : ℕ) → Contains l.summands s → Contains (variables s.sums) v → Alike v v) → MergesAlike Alike g vs (one_process l) (one_process l)
  same_merge : {t t' u u' : MergeTree} {e e' f f' : Option ℕ} {r r' : ℕ → ℕ} → MergesAlike Alike g vs t t' → MergesAlike Alike g vs u u' → FlagsAlike Alike e e' → FlagsAlike Alike f f'
      → ((v w : ℕ) → Contains (variables (full u).params) v → Alike v w → Alike (r v) (r' w)) → ((s : Summand) (v w : ℕ) → Contains (full u).summands s → Contains (variables s.sums) v → Alike v w → Alike (r v) (r' w))
      → Separate g vs (side_of (full t) e) (side_of (renewed r (full u)) f) → MergesAlike Alike g vs (two_sides t e r u f) (two_sides t' e' r' u' f')
