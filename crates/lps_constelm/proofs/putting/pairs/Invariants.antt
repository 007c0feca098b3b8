use Rattle.std.proofs.Common.{◌≡◌, take}
use Rattle.lps_constelm.specs.Putting.{pairs_of}
use Rattle.lps_constelm.proofs.putting.pairs.Given as goal

abbrev pub invariant-loop-place : goal.invariant-loop-place
invariant-loop-place l = l.by.items ≡ pairs_of (take l.place l.vars) (take l.place l.terms)
