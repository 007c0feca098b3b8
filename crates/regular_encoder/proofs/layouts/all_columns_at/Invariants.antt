use Rattle.std.proofs.Common.{map, take}
use Rattle.regular_encoder.specs.TreeEncoding.{plain_place}
use Rattle.regular_encoder.specs.FormColumns.{places_in}
use Rattle.regular_encoder.proofs.FoundKinds.{AreAllAt}
use Rattle.regular_encoder.proofs.layouts.all_columns_at.Given as goal

abbrev pub invariant-loop-at : goal.invariant-loop-at
invariant-loop-at l = AreAllAt l.columns (places_in (take l.at-index l.places)) (map plain_place l.found.items)
