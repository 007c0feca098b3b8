use Rattle.std.proofs.Common.{◌≡◌, map, [], ◌∷◌}
use Rattle.communication.specs.Places.{joining_of, placed, plain_way}
use Rattle.communication.specs.Rounds.{rounds}
use Rattle.communication.proofs.ways.rounds_of.Given as goal

abbrev pub invariant-loop-round : goal.invariant-loop-round
invariant-loop-round l = map plain_way l.found.items ≡ rounds placed (map joining_of l.rules) l._round (record { items = []; waiting = l.fn.places.items } ∷ [])
