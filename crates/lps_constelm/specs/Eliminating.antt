-- Constant parameters that are eliminated, one greatest set after another.
use Rattle.std.specs.Prelude.{◌≡◌, List, []}
use Rattle.data_theory.specs.Terms.{Term}
use Rattle.data_theory.specs.Provable.{Equation}
use Rattle.data_theory.specs.Signature.{Sig}
use Rattle.data_theory.specs.IdTrees.{Tree}
use Rattle.process_terms.specs.SignatureEntries.{entries_of}
use Rattle.bisim_laws.specs.LinearProcesses.{Linear}
use Rattle.bisim_laws.specs.BaseStates.{Fate}
use Rattle.bisim_laws.specs.Links.{Dropped}
use Rattle.lps_core.specs.PlainLinears.{PlainLinear, linear_of, initial_of, linear_state}
use Rattle.lps_core.specs.GoingOn.{IsGoodOverEquations}
use Rattle.lps_core.specs.Moving.{all_kept}
use Rattle.lps_parelm.specs.Keeping.{keep}
use Rattle.lps_constelm.specs.Simplified.{IsSimplerTerm, Becomes, IsAllOf}
use Rattle.lps_constelm.specs.Constants.{members, IsGreatestConstantSet, HasNoConstantSet, without_constants, then_fates}

-- The terms are simplified. Then, as long as this is done, the greatest constant set is removed, which isn't empty, its initial terms
-- are put in, and the terms are simplified again. The fates are those of the parameters of l.
pub data Eliminates (R : Term → Term → Type 0) (l : Linear) (init : List Term) : Linear → List Term → List Fate → Type 0 where
  simplified : {k : Linear} {first : List Term} → Becomes R l init k first → Eliminates R l init k first (all_kept l.params)
  one_more : {m k : Linear} {mid first : List Term} {fates : List Fate} (set : List Fate) → Eliminates R l init m mid fates → IsGreatestConstantSet m mid set → ¬ (members set m ≡ [])
      → Becomes R (without_constants set m) (keep set mid) k first → Eliminates R l init k first (then_fates fates set)

-- No constant set is left but the empty one, each term is simple, and the parameters that were dropped are constant.
pub record IsWithoutConstants (g : Sig) (own : List Equation) (IsSimple : Term → Type 0) (ts : List Tree) (l k : PlainLinear) : Type 0 where
  pub fates : List Fate
  pub eliminated : Eliminates (IsSimplerTerm g own IsSimple) (linear_of (entries_of g ts) l) (initial_of (entries_of g ts) l) (linear_of (entries_of g ts) k) (initial_of (entries_of g ts) k) fates
  pub done : HasNoConstantSet (linear_of (entries_of g ts) k) (initial_of (entries_of g ts) k)
  pub simple : IsAllOf IsSimple (linear_of (entries_of g ts) k) (initial_of (entries_of g ts) k)
  pub bisimilar : IsGoodOverEquations g own (Dropped fates (linear_of (entries_of g ts) l) (linear_of (entries_of g ts) k)) (linear_state (entries_of g ts) l) (linear_state (entries_of g ts) k)
