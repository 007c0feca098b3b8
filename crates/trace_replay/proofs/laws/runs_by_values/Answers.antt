use Rattle.trace_replay.proofs.VerdictLaws.{runs_by_values_are_runs, runs_without_sums_are_by_values}
use Rattle.trace_replay.proofs.laws.runs_by_values.Goals as goal

pub returns : goal.returns
returns c = record { runs = runs_by_values_are_runs; without_sums = runs_without_sums_are_by_values }
