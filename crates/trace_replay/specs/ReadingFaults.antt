-- Why a line or a trace gets no labels.
use Rattle.std.specs.Prelude.{◌≡◌, ℕ, List}
use Rattle.data_theory.specs.Signature.{Sig}
use Rattle.trace_replay.specs.declared.replaying.ReplayFault.{ReplayFault}
use Rattle.trace_replay.specs.declared.replaying.ReplayFault.TheVariants.{BadTrace, NoMemory}
use Rattle.trace_replay.specs.Traces.{IsGoodLine, IsBadTrace}

-- the line with this number isn't good; want of memory is free
abbrev pub IsLineFault : Sig → ℕ → List ℕ → ReplayFault → Type 0
IsLineFault g k line (BadTrace n) = (n ≡ k) × ¬ (IsGoodLine g line)
IsLineFault g k line NoMemory = Unit {0}

-- this is the first line that isn't good; want of memory is free
abbrev pub IsTraceFault : Sig → List ℕ → ReplayFault → Type 0
IsTraceFault g text (BadTrace k) = IsBadTrace g text k
IsTraceFault g text NoMemory = Unit {0}
