use Rattle.std.proofs.Common.{◌∙◌, List, false, length, get_or, ap, arith}
use Rattle.std.specs.Prelude.{Some}
use Rattle.std.proofs.lemmas.Option.{slice_get-get_or}
use Rattle.data_theory.specs.declared.ids.FunId.{FunId}
use Rattle.sort_table.proofs.EnteredNames.{own_default}
use Rattle.sort_table.proofs.ConstructorPlaces.{unmarked_place, marked_function, function_placed}
use Rattle.sort_table.proofs.constructor_sorts.put_function.Goals as goal

abbrev first : FunId
first = record { 0 = 0 }

pub returns-then-not-marks-place : goal.returns-then-not-marks-place
returns-then-not-marks-place c =
    unmarked_place c.args.signature.now c.args.marks.now c.args.place c.args.places.now.items c.requires.so_far
    (slice_get-get_or c.args.marks.now c.args.place false c.requires.within ∙ ap Some c.if-not-marks-place.true)

pub put_place-requires : goal.put_place-requires
put_place-requires c =
    let i : FunId = get_or c.funs.result.now c.args.place first in
    let is = marked_function c.args.signature.now c.args.marks.now c.args.place i c.sort_of-sort.result c.names.ensures.stands c.requires.marks c.requires.within
    (own_default c.funs.result.now c.args.place first i (omega (arith, c.requires.within, c.requires.marks, ap length c.funs.ensures)) ∙ ap (λ (l : List FunId). get_or l c.args.place i) c.funs.ensures) c.sort_of-sort.ensures in
    omega (arith, is.within, c.requires.so_far.size)

pub returns : goal.returns
returns c =
    let i : FunId = get_or c.funs.result.now c.args.place first in
    let is = marked_function c.args.signature.now c.args.marks.now c.args.place i c.sort_of-sort.result c.names.ensures.stands c.requires.marks c.requires.within
    (own_default c.funs.result.now c.args.place first i (omega (arith, c.requires.within, c.requires.marks, ap length c.funs.ensures)) ∙ ap (λ (l : List FunId). get_or l c.args.place i) c.funs.ensures) c.sort_of-sort.ensures in
    function_placed c.args.signature.now c.args.marks.now c.args.place c.args.places.now.items c.put_place.new.places.items i c.sort_of-sort.result c.put_place.result c.requires.so_far is (slice_get-get_or c.args.marks.now c.args.place false c.requires.within ∙ ap Some c.if-not-marks-place.false)
    c.put_place.ensures.size c.put_place.ensures.here c.put_place.ensures.others
