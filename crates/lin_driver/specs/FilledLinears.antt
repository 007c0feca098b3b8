-- With constants in the place of empty lists a linear process is equal to itself, where each constant has its equation.
use Rattle.std.specs.Prelude.{true, List, []}
use Rattle.data_theory.specs.Terms.{Sort, Term}
use Rattle.data_theory.specs.Environments.{terms_of}
use Rattle.data_theory.specs.Declarations.{HaveSorts}
use Rattle.process_terms.specs.Theories.{Theory, Equals}
use Rattle.bisim_laws.specs.LinearProcesses.{Linear, sorts, IsWellSorted}
use Rattle.lps_printer.specs.FilledLinears.{Constants, filled_terms, filled_linear, HasEquations}
use Rattle.lps_printer.specs.WrittenProcesses.{TextNames}
use Rattle.lin_driver.specs.EqualLinears.{AreEqualLinears}

pub record Serves (th : Theory) (c : Constants) (n : TextNames) (l : Linear) (ts : List Term) : Type 0 where
  pub equal : AreEqualLinears th l (filled_linear c n l)
  pub starts : Equals th ts (filled_terms c n true ts)

abbrev pub FilledLinearsServe : Type 0
FilledLinearsServe =
    (th : Theory) (c : Constants) (n : TextNames) (vs : List Sort) (l : Linear) (ts : List Term) → HasEquations th c → IsWellSorted th.declared vs l
    → HaveSorts th.declared [] (terms_of ts) (sorts l.params) → HaveSorts th.declared [] (terms_of (filled_terms c n true ts)) (sorts l.params) → Serves th c n l ts
