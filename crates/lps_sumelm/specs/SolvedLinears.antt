-- Linear processes whose sums were solved.
use Rattle.std.specs.Prelude.{List}
use Rattle.data_theory.specs.Provable.{Equation}
use Rattle.data_theory.specs.Signature.{Sig}
use Rattle.data_theory.specs.IdTrees.{Tree}
use Rattle.process_terms.specs.SignatureEntries.{entries_of}
use Rattle.bisim_laws.specs.Links.{Solved}
use Rattle.lps_core.specs.GoingOn.{IsGoodOverEquations}
use Rattle.lps_core.specs.PlainLinears.{PlainLinear, linear_of, linear_state}

-- the link leads from the one process, over the first trees, to the other, over the second ones
abbrev pub SolvingIsGood : Sig → List Equation → List Tree → List Tree → PlainLinear → PlainLinear → Type 0
SolvingIsGood g own ts us l k = IsGoodOverEquations g own (Solved (linear_of (entries_of g ts) l) (linear_of (entries_of g us) k)) (linear_state (entries_of g ts) l) (linear_state (entries_of g us) k)
