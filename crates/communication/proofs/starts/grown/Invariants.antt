use Rattle.std.proofs.Common.{◌≡◌, map, take}
use Rattle.std.specs.Prelude.{flat_map}
use Rattle.communication.specs.Places.{placed, plain_draft}
use Rattle.communication.specs.Rounds.{grown}
use Rattle.communication.proofs.starts.grown.Given as goal

abbrev pub invariant-loop-draft : goal.invariant-loop-draft
invariant-loop-draft l = map plain_draft l.found.items ≡ flat_map (grown placed l.first l.next) (map plain_draft (take l.draft-index l.drafts))
