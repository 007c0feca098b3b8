-- What follows where a linear process in code is answered to hold an invariant.
use Rattle.std.specs.Prelude.{ℕ, List}
use Rattle.data_theory.specs.declared.ids.TermId.{TermId}
use Rattle.data_theory.specs.EqualityLaws.{AreAmong}
use Rattle.data_theory.specs.IdTerms.{variable_sorts}
use Rattle.data_theory.specs.Provable.{Equation}
use Rattle.data_theory.specs.Signature.{Sig}
use Rattle.data_theory.specs.IdTrees.{Tree}
use Rattle.data_theory.specs.WholeSignatures.{IsSignature}
use Rattle.term_pool.specs.Pools.{Extends}
use Rattle.data_rewriter.specs.declared.rewriter.Truth.{Truth}
use Rattle.data_rewriter.specs.Standing.{term_at}
use Rattle.data_rewriter.specs.Simplifying.{AreWellFormed}
use Rattle.process_terms.specs.Theories.{Theory}
use Rattle.process_terms.specs.Labels.{Label}
use Rattle.process_terms.specs.Processes.{Process}
use Rattle.process_terms.specs.Steps.{goes_on}
use Rattle.process_terms.specs.SignatureEntries.{entries_of}
use Rattle.bisim_laws.specs.Runs.{Run}
use Rattle.bisim_laws.specs.Links.{Held}
use Rattle.lps_core.specs.Fitting.{Fits}
use Rattle.lps_core.specs.GoingOn.{GoesOn, IsGoodOverEquations}
use Rattle.lps_core.specs.PlainLinears.{PlainLinear, linear_of, linear_state}
use Rattle.lps_invariant.specs.Places.{IsShown, IsContradictory}
use Rattle.lps_invariant.specs.InvariantLaws.{HoldsIn}
use Rattle.lps_invariant.specs.Judging.{AreSifted, IsInvariantIn, HoldsWith, PlaceOf}

-- Over every theory that goes on from the signature, with the written equations among its own, the invariant holds in every state of every
-- run, also where the data are inconsistent.
abbrev pub HoldsInEveryRun : Sig → List Equation → List Tree → PlainLinear → TermId → Type 0
HoldsInEveryRun g own ts l inv =
    (th : Theory) → GoesOn g th → AreAmong own th.equations → (ms : List Label) (p : Process) → Run th (goes_on (linear_state (entries_of g ts) l)) ms (goes_on p) → HoldsIn th (linear_of (entries_of g ts) l) (term_at g ts inv) p

-- Over every such theory the summands that stay show their goals, and each that is left out has a hypothesis that is provably false in every
-- closed instance.
abbrev pub LeftOutAreContradictory : Sig → List Equation → List Tree → PlainLinear → TermId → PlainLinear → List (List Truth) → Type 0
LeftOutAreContradictory g own ts l inv k truths =
    (th : Theory) → GoesOn g th → AreAmong own th.equations
    → AreSifted (λ s answers. PlaceOf (IsShown th (variable_sorts g)) g ts l inv s) (PlaceOf (IsContradictory th (variable_sorts g)) g ts l inv) l.summands k.summands truths

-- Over every such theory whose data are consistent, what is left is bisimilar.
abbrev pub HoldingIsGood : Sig → List Equation → List Tree → List Tree → PlainLinear → TermId → PlainLinear → Type 0
HoldingIsGood g own ts us l inv k =
    IsGoodOverEquations g own (Held (term_at g ts inv) (linear_of (entries_of g ts) l) (linear_of (entries_of g us) k)) (linear_state (entries_of g ts) l) (linear_state (entries_of g us) k)

-- What is left fits.
pub record HoldsAsAnInvariant (g : Sig) (own : List Equation) (ts us : List Tree) (l : PlainLinear) (inv : TermId) (k : PlainLinear) (truths : List (List Truth)) : Type 0 where
  pub in_every_run : HoldsInEveryRun g own ts l inv
  pub left_out : LeftOutAreContradictory g own ts l inv k truths
  pub good : HoldingIsGood g own ts us l inv k
  pub fits : Fits g us k

abbrev pub WhatHoldsIsAnInvariant : Type 0
WhatHoldsIsAnInvariant =
    (g : Sig) (own : List Equation) (fuel : ℕ) (ts us : List Tree) (l : PlainLinear) (inv : TermId) (k : PlainLinear) (truths : List (List Truth)) → IsSignature g → AreWellFormed g own → Fits g ts l → IsInvariantIn g ts l inv
    → Extends ts us → HoldsWith g own fuel ts us l inv k truths → HoldsAsAnInvariant g own ts us l inv k truths
