use Rattle.std.proofs.Common.{◌+◌, length, map}
use Rattle.aut_check.specs.Matchings.{plain_trial, rows, unmoved_count}
use Rattle.aut_check.proofs.Trials.{IsSearch}
use Rattle.aut_check.proofs.matchings.with_row.Given as goal

abbrev pub invariant-loop-trial : goal.invariant-loop-trial
invariant-loop-trial l = IsSearch (rows l.marks) l.row l.order l.moved.items (map plain_trial l.waiting.items)

abbrev pub decreases-loop-trial : goal.decreases-loop-trial
decreases-loop-trial l = unmoved_count l.moved.items + length l.waiting.items
