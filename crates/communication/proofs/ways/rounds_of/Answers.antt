use Rattle.std.proofs.Common.{◌+◌, [], ◌∷◌, map, ap, ◌∙◌, arith}
use Rattle.std.specs.Prelude.{flat_map}
use Rattle.communication.specs.Places.{joining_of, placed, plain_way}
use Rattle.communication.specs.Rounds.{continued, items_of}
use Rattle.communication.specs.Ways.{ways}
use Rattle.communication.proofs.Rounds.{rounds_are_ways, rounds_go_on}
use Rattle.communication.proofs.ways.rounds_of.Goals as goal

pub loop-round-preserved : goal.loop-round-preserved
loop-round-preserved c =
    c.in_ok-found.ensures
    ∙ ap (λ l. flat_map (continued placed (map joining_of c.args.rules.now)) (map plain_way l)) c.as_slice.ensures.value
    ∙ ap (λ l. flat_map (continued placed (map joining_of c.args.rules.now)) l) c.loop-round.invariant
    ∙ rounds_go_on placed (map joining_of c.args.rules.now) c.loop-round._round (c.loop-round._round + 1) (record { items = []; waiting = c.args.places.items } ∷ []) (omega arith)

pub returns : goal.returns
returns c =
    ap (map items_of) c.loop-round.invariant
    ∙ rounds_are_ways placed (map joining_of c.args.rules.now) c.loop-round._round c.args.places.items
    ∙ ap (λ k. ways placed (map joining_of c.args.rules.now) k c.args.places.items) (omega (arith, c.loop-round-test.false, c.loop-round.auto._round-end, c.len-count.ensures))
