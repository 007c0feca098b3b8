use Rattle.trace_replay.proofs.VerdictLaws.{rejected_traces_are_no_runs}
use Rattle.trace_replay.proofs.laws.rejected_traces_are_no_runs.Goals as goal

pub returns : goal.returns
returns c = rejected_traces_are_no_runs
