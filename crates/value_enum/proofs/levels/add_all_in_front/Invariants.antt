use Rattle.std.proofs.Common.{◌≡◌, ◌+◌, ◌++◌, ◌∷◌, take}
use Rattle.value_enum.specs.Levels.{plain_tuples, in_front_of_all}
use Rattle.value_enum.proofs.levels.add_all_in_front.Given as goal

abbrev pub invariant-loop-first : goal.invariant-loop-first
invariant-loop-first l = plain_tuples l.tuples.items ≡ take (l.bound + 1) (plain_tuples l.fn.tuples.items ++ in_front_of_all (λ id ids. id ∷ ids) (take l.first-index l.firsts) (plain_tuples l.rests))
