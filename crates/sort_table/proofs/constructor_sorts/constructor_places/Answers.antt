use Rattle.std.proofs.Common.{◌≡◌, ◌∙◌, ℕ, length, subst, arith}
use Rattle.sort_table.specs.ConstructorMarks.{ArePlaces}
use Rattle.sort_table.proofs.ConstructorPlaces.{none_placed}
use Rattle.sort_table.proofs.constructor_sorts.constructor_places.Goals as goal

pub loop-place-init : goal.loop-place-init
loop-place-init c = none_placed c.args.signature.now c.args.marks.now c.in_ok-places.places.items (c.in_ok-places.ensures.size ∙ c.next_sort.ensures.number) c.in_ok-places.ensures.none

pub returns : goal.returns
returns c =
    let end : c.loop-place.place ≡ length c.args.marks.now = omega arith in
    subst (λ (n : ℕ). ArePlaces c.args.signature.now c.args.marks.now n c.loop-place.places.items) end c.loop-place.invariant
