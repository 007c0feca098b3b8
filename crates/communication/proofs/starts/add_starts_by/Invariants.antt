use Rattle.std.proofs.Common.{◌≡◌, ◌++◌, map, take}
use Rattle.std.specs.Prelude.{flat_map}
use Rattle.communication.specs.Places.{plain_draft, plain_start}
use Rattle.communication.specs.Rounds.{if_whole}
use Rattle.communication.proofs.starts.add_starts_by.Given as goal

abbrev pub invariant-loop-draft : goal.invariant-loop-draft
invariant-loop-draft l = map plain_start l.found.items ≡ map plain_start l.fn.found.items ++ flat_map (if_whole l.rule.result l.first) (map plain_draft (take l.draft-index l.draft-items))
