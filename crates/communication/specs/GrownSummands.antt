-- Summands that are added one behind the other, as a pool grows.
use Rattle.std.specs.Prelude.{◌≡◌, List, ◌++◌, map}
use Rattle.std.specs.List.{All}
use Rattle.data_theory.specs.declared.ids.VarId.{VarId}
use Rattle.data_theory.specs.declared.ids.TermId.{TermId}
use Rattle.data_theory.specs.Signature.{Sig}
use Rattle.data_theory.specs.IdTrees.{Tree}
use Rattle.process_terms.specs.PlainProcesses.{PlainAction}
use Rattle.process_terms.specs.SignatureEntries.{entries_of}
use Rattle.bisim_laws.specs.LinearProcesses.{Summand}
use Rattle.lps_core.specs.PlainLinears.{PlainSummand, summand_of}
use Rattle.lps_core.specs.Fitting.{IsVariable, SummandFits, HasTakenName}

-- a summand with another condition and another label
abbrev pub with_both : PlainSummand → TermId → List PlainAction → PlainSummand
with_both s c m = record { sums = s.sums; condition = c; label = m; next = s.next }

-- a summand of a process with these parameters
pub record SummandServes (g : Sig) (ts : List Tree) (ps : List VarId) (s : PlainSummand) : Type 0 where
  pub params : All (IsVariable g) ps
  pub fits : SummandFits g ts ps s
  pub taken : All (HasTakenName g) s.sums

-- summands of the pool that fit a process with these parameters, and mean these
pub record AreSummands (g : Sig) (ts : List Tree) (ps : List VarId) (ss : List PlainSummand) (meant : List Summand) : Type 0 where
  pub fit : All (SummandFits g ts ps) ss
  pub taken : All (λ (s : PlainSummand). All (HasTakenName g) s.sums) ss
  pub mean : map (summand_of (entries_of g ts)) ss ≡ meant

-- what is new behind the old summands means these
abbrev pub SummandsGrow : Sig → List VarId → List Tree → List PlainSummand → List Tree → List PlainSummand → List Summand → Type 0
SummandsGrow g ps ts old us new added = (meant : List Summand) → AreSummands g ts ps old meant → AreSummands g us ps new (meant ++ added)
