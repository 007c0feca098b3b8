use Rattle.std.proofs.Common.{◌≡◌, ◌+◌, ◌++◌, ◌∷◌, map, take}
use Rattle.value_enum.specs.Levels.{plain_tuples}
use Rattle.value_enum.proofs.levels.add_in_front.Given as goal

abbrev pub invariant-loop-rest : goal.invariant-loop-rest
invariant-loop-rest l = plain_tuples l.tuples.items ≡ take (l.bound + 1) (plain_tuples l.fn.tuples.items ++ map (λ ids. l.first ∷ ids) (take l.rest-index (plain_tuples l.rests)))
