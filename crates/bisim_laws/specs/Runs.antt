-- Runs of processes.
use Rattle.std.specs.Prelude.{List, [], ◌∷◌}
use Rattle.process_terms.specs.Theories.{Theory}
use Rattle.process_terms.specs.Labels.{Label}
use Rattle.process_terms.specs.Processes.{Process}
use Rattle.process_terms.specs.Steps.{Outcome, goes_on, Step}

-- Run th p ms r: from p the labels are done one after the other, each by a step from where the one before led, and the last leads to r.
pub data Run (th : Theory) : Outcome → List Label → Outcome → Type 0 where
  no_step : {p : Outcome} → Run th p [] p
  one_step : {p : Process} {q r : Outcome} {m : Label} {ms : List Label} → Step th p m q → Run th q ms r → Run th (goes_on p) (m ∷ ms) r
