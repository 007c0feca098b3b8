use Rattle.std.proofs.Common.{◌<◌, ◌+◌, map, length, get_or, sym, subst, ap, ◌∙◌, arith, cond, not}
use Rattle.std.specs.Prelude.{Some, bytes_eq, is_some}
use Rattle.std.proofs.lemmas.List.{length-map}
use Rattle.mcrl2_syntax.specs.declared.process_tree.Assignment.{Assignment}
use Rattle.sort_table.specs.Expressions.{Name}
use Rattle.sort_checker.specs.AssignedTrees.{assigned_value}
use Rattle.sort_checker.specs.NameNumbers.{number_under}
use Rattle.sort_checker.proofs.AssignedLists.{HasPlacesUpTo, no_places, place_known, place_put, all_places, value_read}
use Rattle.sort_checker.proofs.ReadLists.{same_there}
use Rattle.sort_checker.proofs.assigned_terms.assigned_places.Goals as goal
use Rattle.sort_checker.proofs.assigned_terms.assigned_places.Goals.{then-is_none+in_ok-put, else-is_none}

pub loop-place-init : goal.loop-place-init
loop-place-init c = no_places (map assigned_value c.args.assignments.now) c.new-places.result c.new-places.ensures

pub loop-place-preserved : goal.loop-place-preserved
loop-place-preserved c =
    let ds = map assigned_value c.args.assignments.now in
    let old = c.loop-place.places in
    let as_ = c.args.assignments.now in
    let l : c.loop-place.place < length as_ = omega (arith, c.loop-place-test.true) in
    let a : Assignment = get_or as_ c.loop-place.place c.index-assignments-place.result in
    let d = assigned_value a in
    let r = value_read as_ c.loop-place.place a l (same_there as_ c.loop-place.place c.index-assignments-place.result a l) in
    let named = c.as_slice-name.ensures.value in
    elim c.if-is_none.branch [
      | then-is_none+in_ok-put w ↦ subst (HasPlacesUpTo ds (c.loop-place.place + 1)) (sym w.places-is)
          (place_put ds c.loop-place.place d r.0 r.1 old w.put.new.self c.loop-place.invariant
          (ap (λ (y : Name). is_some (number_under old y)) (sym named) ∙ (ap is_some (sym c.get.ensures) ∙ (c.is_none.ensures ∙ ap not w.if-is_none.true)))
          (λ x. w.in_ok-put.ensures.put x ∙ ap (λ (y : Name). cond (bytes_eq y x) (Some c.loop-place.place) (number_under old x)) named))
      | else-is_none w ↦ subst (HasPlacesUpTo ds (c.loop-place.place + 1)) (sym w.places-is)
          (place_known ds c.loop-place.place d r.0 r.1 old c.loop-place.invariant
          (ap (λ (y : Name). is_some (number_under old y)) (sym named) ∙ (ap is_some (sym c.get.ensures) ∙ (c.is_none.ensures ∙ ap not w.if-is_none.false))))
    ]

pub returns : goal.returns
returns c =
    let same = length-map c.args.assignments.now assigned_value in
    all_places (map assigned_value c.args.assignments.now) c.loop-place.place c.loop-place.places (omega (arith, same, c.loop-place-test.false)) (omega (arith, same, c.loop-place.auto.place-end)) c.loop-place.invariant
