-- What is printed for a text stands for it.
use Rattle.std.specs.Prelude.{ℕ, List}
use Rattle.data_theory.specs.declared.ids.NameId.{NameId}
use Rattle.data_theory.specs.IdTrees.{Tree}
use Rattle.data_theory.specs.Signature.{Sig}
use Rattle.data_theory.specs.WholeSignatures.{IsSignature}
use Rattle.mcrl2_syntax.specs.Declarations.{PlainSpec}
use Rattle.process_terms.specs.PlainProcesses.{PlainEquation}
use Rattle.lps_core.specs.PlainLinears.{PlainLinear}
use Rattle.lps_printer.specs.PrintedLinears.{IsPrinted}
use Rattle.lin_driver.specs.Headline.{StandsFor}
use Rattle.lin_driver.specs.Linearised.{IsMadeOf}
use Rattle.lin_driver.specs.ReadingBack.{CanBePrinted}
use Rattle.lin_driver.specs.declared.ending.Ending.{Ending}

-- what is made of a text can be printed
abbrev pub WhatIsMadeCanBePrinted : Type 0
WhatIsMadeCanBePrinted = (ending : Ending) (text : List ℕ) (spec : PlainSpec) (h : Sig) (us : List Tree) (equations : List PlainEquation) (x : NameId) (l : PlainLinear) → IsMadeOf ending text spec h us equations x l → CanBePrinted ending spec h us x l

-- and what is printed for it, where the signature g becomes h, stands for the text
abbrev pub WhatIsPrintedForATextStandsForIt : Type 0
WhatIsPrintedForATextStandsForIt =
    (ending : Ending) (text printed : List ℕ) (spec : PlainSpec) (g h : Sig) (us : List Tree) (equations : List PlainEquation) (x : NameId) (l : PlainLinear) → IsMadeOf ending text spec g us equations x l → IsSignature h → IsPrinted spec g h us x l printed
    → StandsFor ending text printed
