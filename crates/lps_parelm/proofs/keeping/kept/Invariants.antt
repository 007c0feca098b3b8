use Rattle.lps_parelm.proofs.KeptPlaces.{IsKeeping}
use Rattle.lps_parelm.proofs.keeping.kept.Given as goal

abbrev pub invariant-loop-place : goal.invariant-loop-place
invariant-loop-place g l = IsKeeping _ l.marks l.items l.place l.left.items
