use Rattle.std.proofs.Common.{map}
use Rattle.aut_check.specs.Matchings.{plain_trial, rows, AddsTrials}
use Rattle.aut_check.proofs.matchings.add_trials.Given as goal

abbrev pub invariant-loop-place : goal.invariant-loop-place
invariant-loop-place l = AddsTrials (rows l.marks) l.row l.order l.trial.loose l.place l.fn.moved.items l.moved.items (map plain_trial l.fn.waiting.items) (map plain_trial l.waiting.items)
