use Rattle.std.proofs.Common.{◌≡◌, map, drop}
use Rattle.communication.specs.Places.{placed, plain_draft}
use Rattle.communication.specs.Rounds.{grown_by}
use Rattle.communication.proofs.starts.grown_by.Given as goal

abbrev pub invariant-loop-next : goal.invariant-loop-next
invariant-loop-next l = grown_by placed l.first (drop l.next-index l.later) (map plain_draft l.found.items) ≡ grown_by placed l.first l.later (map plain_draft l.fn.drafts.items)
