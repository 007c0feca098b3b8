-- What the laws of verdicts say.
use Rattle.std.specs.Prelude.{◌≡◌, ℕ, List, []}
use Rattle.std.specs.List.{All}
use Rattle.data_theory.specs.IdTrees.{Tree}
use Rattle.data_theory.specs.WholeSignatures.{IsSignature}
use Rattle.data_rewriter.specs.Simplifying.{AreLater, AreWellFormed}
use Rattle.process_terms.specs.Processes.{Process}
use Rattle.process_terms.specs.SignatureEntries.{entries_of}
use Rattle.process_terms.specs.Steps.{Outcome}
use Rattle.process_terms.specs.Theories.{Theory, IsConsistent}
use Rattle.bisim_laws.specs.Bisimulations.{Bisimulation}
use Rattle.bisim_laws.specs.Links.{Link, Pairs, IsGood}
use Rattle.lps_core.specs.Fitting.{Fits}
use Rattle.lps_core.specs.PlainLinears.{PlainSummand, PlainLinear, linear_of, linear_state}
use Rattle.aut_check.specs.PlainSystems.{PlainSystem, IsSystem}
use Rattle.trace_replay.specs.Settings.{Setting}
use Rattle.aut_check.specs.SystemBisimulations.{EqualStates, IsShownBy, Through}
use Rattle.aut_check.specs.Systems.{System}
use Rattle.aut_check.specs.Verdicts.{Judges, bisimilar, system_in}

-- no summand has a sum variable
abbrev pub HasNoSums : PlainLinear → Type 0
HasNoSums l = All (λ (x : PlainSummand). x.sums ≡ []) l.summands

-- a linear process without sums that fits, and a file whose labels and states fit as well
pub record AreGiven (s : Setting) (ts : List Tree) (l : PlainLinear) (f : PlainSystem) : Type 0 where
  pub signature : IsSignature s.signature
  pub fine : AreWellFormed s.signature s.equations
  pub fits : Fits s.signature ts l
  pub no_sums : HasNoSums l
  pub system : IsSystem s.signature ts l.params f

-- where nothing fails, the relation of equal states is a strong bisimulation over all later consistent data, and pairs the first state with
-- the initial one
abbrev pub GoodFilesAreBisimilar : Type 0
GoodFilesAreBisimilar =
    (s : Setting) (ts : List Tree) (l : PlainLinear) (f : PlainSystem) → AreGiven s ts l f → Judges s ts l f bisimilar → (th : Theory) → AreLater s.signature s.equations th.declared th.equations → IsConsistent th
    → IsShownBy th (system_in s ts f) (EqualStates th (linear_of (entries_of s.signature ts) l) (system_in s ts f)) (linear_state (entries_of s.signature ts) l)

-- what is bisimilar to a file stays so behind a bisimulation whose labels agree in order
abbrev pub BisimulationsGoThrough : Type 1
BisimulationsGoThrough =
    (th : Theory) (f : System) (R : ℕ → Outcome → Type 0) (S : Process → Process → Type 0) (p q : Process) → Bisimulation th S → S p q → IsShownBy th f R q → IsShownBy th f (Through S R) p

-- and with a good link from a process to the linear one, that process is strongly bisimilar to the file
abbrev pub GoodFilesAreLinked : Type 0
GoodFilesAreLinked =
    (s : Setting) (ts : List Tree) (l : PlainLinear) (f : PlainSystem) → AreGiven s ts l f → Judges s ts l f bisimilar → (th : Theory) → AreLater s.signature s.equations th.declared th.equations → IsConsistent th
    → (k : Link) (p : Process) → IsGood th k p (linear_state (entries_of s.signature ts) l)
    → IsShownBy th (system_in s ts f) (Through (Pairs th k) (EqualStates th (linear_of (entries_of s.signature ts) l) (system_in s ts f))) p
