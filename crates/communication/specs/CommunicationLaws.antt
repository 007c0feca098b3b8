-- What the law of communication says.
use Rattle.std.specs.Prelude.{List}
use Rattle.data_theory.specs.Terms.{Sort, Term}
use Rattle.data_theory.specs.Declarations.{Data, IsData}
use Rattle.process_terms.specs.Theories.{Theory, IsConsistent, AreOfSorts}
use Rattle.process_terms.specs.Communication.{Rule}
use Rattle.process_terms.specs.Processes.{comm, around}
use Rattle.bisim_laws.specs.LinearProcesses.{Linear, sorts, state_of, IsLinear, IsWellSorted}
use Rattle.bisim_laws.specs.Links.{Wrapped, IsGood}
use Rattle.communication.specs.Communicated.{communicating}

-- the result is a linear process, and well sorted
abbrev pub CommunicatingIsLinear : Type 0
CommunicatingIsLinear = (g : Data) → IsData g → (vs : List Sort) (rules : List Rule) (l : Linear) → IsLinear l → IsWellSorted g vs l → IsLinear (communicating rules l) × IsWellSorted g vs (communicating rules l)

-- over consistent data it does, from any arguments of their sorts, what the process does under `comm`
abbrev pub CommunicatingIsGood : Type 0
CommunicatingIsGood =
    (th : Theory) → IsConsistent th → IsData th.declared → (vs : List Sort) (rules : List Rule) (l : Linear) → IsLinear l → IsWellSorted th.declared vs l
    → (ts : List Term) → AreOfSorts th (sorts l.params) ts → IsGood th (Wrapped (comm rules) l (communicating rules l)) (around (comm rules) (state_of l ts)) (state_of (communicating rules l) ts)
