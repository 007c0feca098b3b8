-- What is left of a process that never ends never ends.
use Rattle.std.specs.Prelude.{ℕ, List}
use Rattle.data_theory.specs.declared.ids.TermId.{TermId}
use Rattle.data_theory.specs.Provable.{Equation}
use Rattle.data_theory.specs.Signature.{Sig}
use Rattle.data_theory.specs.IdTrees.{Tree}
use Rattle.data_rewriter.specs.declared.rewriter.Truth.{Truth}
use Rattle.process_terms.specs.Meanings.{Entries}
use Rattle.lps_core.specs.PlainLinears.{PlainLinear, linear_of}
use Rattle.lps_core.specs.Sealing.{NeverEnds}
use Rattle.lps_invariant.specs.Judging.{HoldsWith}

-- under whatever entries
abbrev pub WhatHoldsMakesNoEnd : Type 0
WhatHoldsMakesNoEnd =
    (e : Entries) (g : Sig) (own : List Equation) (fuel : ℕ) (ts us : List Tree) (l : PlainLinear) (inv : TermId) (k : PlainLinear) (truths : List (List Truth)) → HoldsWith g own fuel ts us l inv k truths → NeverEnds (linear_of e l)
    → NeverEnds (linear_of e k)
