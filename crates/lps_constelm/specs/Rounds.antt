-- One round of the elimination in code.
use Rattle.std.specs.Prelude.{◌≡◌, Bool, List, length}
use Rattle.data_theory.specs.Provable.{Equation}
use Rattle.data_theory.specs.Signature.{Sig}
use Rattle.data_theory.specs.Terms.{Term}
use Rattle.data_theory.specs.IdTrees.{Tree}
use Rattle.process_terms.specs.SignatureEntries.{entries_of}
use Rattle.lps_core.specs.Fitting.{Fits}
use Rattle.lps_core.specs.PlainLinears.{PlainLinear, linear_of, initial_of}
use Rattle.lps_parelm.specs.Keeping.{keep, fates_of}
use Rattle.lps_constelm.specs.Simplified.{IsSimplerTerm, Becomes}
use Rattle.lps_constelm.specs.Constants.{IsGreatestConstantSet, without_constants}
use Rattle.lps_constelm.specs.Putting.{set_of}

-- exactly the parameters of the greatest constant set are unmarked
pub record MarksTheOthers (g : Sig) (ts : List Tree) (k : PlainLinear) (marks : List Bool) : Type 0 where
  pub fits : Fits g ts k
  pub long : length marks ≡ length k.params
  pub greatest : IsGreatestConstantSet (linear_of (entries_of g ts) k) (initial_of (entries_of g ts) k) (set_of marks (initial_of (entries_of g ts) k))

-- the terms of l are simplified
pub record IsFirstRound (g : Sig) (own : List Equation) (IsSimple : Term → Type 0) (ts us : List Tree) (l k : PlainLinear) (marks : List Bool) : Type 0 where
  pub becomes : Becomes (IsSimplerTerm g own IsSimple) (linear_of (entries_of g ts) l) (initial_of (entries_of g ts) l) (linear_of (entries_of g us) k) (initial_of (entries_of g us) k)
  pub params : k.params ≡ l.params
  pub marked : MarksTheOthers g us k marks

-- the set of the unmarked parameters is removed from l, and then the terms are simplified
pub record IsNextRound (g : Sig) (own : List Equation) (IsSimple : Term → Type 0) (ts us : List Tree) (l : PlainLinear) (old : List Bool) (k : PlainLinear) (marks : List Bool) : Type 0 where
  pub becomes : Becomes (IsSimplerTerm g own IsSimple) (without_constants (set_of old (initial_of (entries_of g ts) l)) (linear_of (entries_of g ts) l)) (keep (set_of old (initial_of (entries_of g ts) l)) (initial_of (entries_of g ts) l))
      (linear_of (entries_of g us) k) (initial_of (entries_of g us) k)
  pub params : k.params ≡ keep (fates_of old) l.params
  pub marked : MarksTheOthers g us k marks
