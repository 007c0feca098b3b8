-- A linear process with some of its summands, among them all whose labels matter.
use Rattle.std.specs.Prelude.{List, Contains}
use Rattle.data_theory.specs.Terms.{Sort, Term}
use Rattle.data_theory.specs.Declarations.{Data}
use Rattle.process_terms.specs.Names.{Name}
use Rattle.process_terms.specs.Theories.{Theory, AreOfSorts}
use Rattle.process_terms.specs.Labels.{names}
use Rattle.bisim_laws.specs.LinearProcesses.{Summand, Linear, sorts, state_of, IsLinear, IsWellSorted}
use Rattle.bisim_laws.specs.Links.{Solved}
use Rattle.bisim_laws.specs.Within.{IsGoodWithin}
use Rattle.bisim_laws.specs.Scopes.{Scope, Matters}

-- the same parameters with other summands
abbrev pub with_summands : Linear → List Summand → Linear
with_summands l ss = record { params = l.params; summands = ss }

-- these are some of those, and each of those whose names matter is one of these
pub record AreEnough (Can : List Name → Type 0) (all some : List Summand) : Type 0 where
  pub among : (s : Summand) → Contains some s → Contains all s
  pub there : (s : Summand) → Contains all s → Can (names s.label) → Contains some s

-- ---- the laws
abbrev pub SomeSummandsAreLinear : Type 0
SomeSummandsAreLinear =
    (g : Data) (vs : List Sort) (w : Scope) (l : Linear) (ss : List Summand) → AreEnough (Matters w) l.summands ss → IsLinear l → IsWellSorted g vs l
    → IsLinear (with_summands l ss) × IsWellSorted g vs (with_summands l ss)

-- they are enough for the steps that matter
abbrev pub SomeSummandsAreGoodWithin : Type 0
SomeSummandsAreGoodWithin =
    (th : Theory) (vs : List Sort) (w : Scope) (l : Linear) (ss : List Summand) → AreEnough (Matters w) l.summands ss → IsLinear l → IsWellSorted th.declared vs l
    → (ts : List Term) → AreOfSorts th (sorts l.params) ts → IsGoodWithin th (Matters w) (Solved l (with_summands l ss)) (state_of l ts) (state_of (with_summands l ss) ts)
