use Rattle.value_enum.proofs.GrowingSorts.{IsSumming, IsSummingUp}
use Rattle.value_enum.proofs.exhausting.makes_heavier.Given as goal

abbrev pub invariant-loop-place : goal.invariant-loop-place
invariant-loop-place l = IsSumming l.arguments l.heaviest l.unbounded l.first l.place l.total × IsSummingUp l.arguments l.heaviest l.unbounded l.first l.place l.total
