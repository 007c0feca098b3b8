use Rattle.std.proofs.Common.{◌≡◌, ◌<◌, length}
use Rattle.data_theory.specs.declared.ids.FunId.{FunId}
use Rattle.data_rewriter.proofs.HeadNumbers.{HasItsPlaces}
use Rattle.data_rewriter.proofs.building.places_of.Given as goal

abbrev pub invariant-loop-number : goal.invariant-loop-number
invariant-loop-number l = (length l.places.items ≡ l.number) × ((f : FunId) → f.0 < l.number → HasItsPlaces l.sig l.places.items f)
