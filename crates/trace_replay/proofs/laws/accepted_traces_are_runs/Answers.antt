use Rattle.trace_replay.proofs.VerdictLaws.{accepted_traces_are_runs}
use Rattle.trace_replay.proofs.laws.accepted_traces_are_runs.Goals as goal

pub returns : goal.returns
returns c = accepted_traces_are_runs
