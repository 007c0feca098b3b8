-- Conditions that say nothing needless.
use Rattle.std.specs.Prelude.{◌≤◌, List, length, Contains}
use Rattle.std.specs.List.{All}
use Rattle.data_theory.specs.Terms.{Term}
use Rattle.data_theory.specs.Equations.{trueᵗ}
use Rattle.data_theory.specs.Signature.{Sig}
use Rattle.data_theory.specs.IdTrees.{Tree}
use Rattle.process_terms.specs.Meanings.{term_at}
use Rattle.process_terms.specs.SignatureEntries.{entries_of}
use Rattle.lps_core.specs.Conditions.{parts}
use Rattle.lps_core.specs.PlainLinears.{PlainSummand, PlainLinear}

-- no condition of two or more parts has the part `true`
abbrev pub HasNoNeedlessTrue : Term → Type 0
HasNoNeedlessTrue c = 2 ≤ length (parts c) → ¬ (Contains (parts c) trueᵗ)

-- of a linear process in code, each condition
abbrev pub HaveNoNeedlessTrue : Sig → List Tree → PlainLinear → Type 0
HaveNoNeedlessTrue g ts l = All (λ (s : PlainSummand). HasNoNeedlessTrue (term_at (entries_of g ts) s.condition)) l.summands
