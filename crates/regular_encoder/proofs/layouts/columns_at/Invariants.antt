use Rattle.std.proofs.Common.{take}
use Rattle.regular_encoder.proofs.FoundKinds.{AreAt}
use Rattle.regular_encoder.proofs.layouts.columns_at.Given as goal

abbrev pub invariant-loop-place : goal.invariant-loop-place
invariant-loop-place l = AreAt l.columns (take l.place-index l.places) l.found.items
