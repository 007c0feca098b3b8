use Rattle.bisim_laws.proofs.TerminatingLinks.{what_ends, stopping_not_terminating, deadlock_not_terminating, again_not_terminating}
use Rattle.bisim_laws.proofs.checks.terminating_is_not_ending.Goals as goal

pub returns : goal.returns
returns c = record { ends = what_ends; stops = stopping_not_terminating; deadlock = deadlock_not_terminating; again = again_not_terminating }
