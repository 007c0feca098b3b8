use Rattle.std.proofs.Common.{◌≡◌, ◌+◌, ◌∷◌, take, length}
use Rattle.value_enum.specs.Levels.{plain_tuples, weighing_up_to, values_at, tuples_at}
use Rattle.value_enum.proofs.levels.tuples_weighing.Given as goal

abbrev pub invariant-loop-less : goal.invariant-loop-less
invariant-loop-less l = plain_tuples l.found.items ≡ take (l.bound + 1) (weighing_up_to (λ id ids. id ∷ ids) (λ w. values_at l.values w l.sort) (λ w. plain_tuples (tuples_at l.tuples w l.rest)) (length l.tuples) l.less)
