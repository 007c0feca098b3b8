use Rattle.std.proofs.Common.{◌≡◌, ◌∙◌, Some, None, sym, ap}
use Rattle.std.specs.Prelude.{slice_get}
use Rattle.value_enum.proofs.RowReads.{list_read, list_missing, tuples_row, tuples_no_row, got, missed}
use Rattle.value_enum.proofs.levels.tuples_of_weight.Goals as goal

pub returns-in_default : goal.returns-in_default
returns-in_default c = sym (tuples_no_row c.args.rows.now c.args.weight c.args.place (missed c.args.rows.now c.args.weight c.in_default.ensures.lookup.3))

pub returns-in_default-get : goal.returns-in_default-get
returns-in_default-get c =
    let e = got c.args.rows.now c.args.weight c.in-Some.row.now c.in-Some.ensures.lookup.3.0 c.in-Some.ensures.lookup.3.1 in
    let d : slice_get c.in-Some.row.now.by_place.items c.args.place ≡ None = ap (λ l. slice_get l c.args.place) (sym c.deref.ensures.value) ∙ missed c.deref.result.now c.args.place c.in_default-get.ensures.lookup.3 in
    sym (tuples_row c.args.rows.now c.args.weight c.args.place c.in-Some.row.now e ∙ list_missing c.in-Some.row.now.by_place.items c.args.place d)

pub returns : goal.returns
returns c =
    let e = got c.args.rows.now c.args.weight c.in-Some.row.now c.in-Some.ensures.lookup.3.0 c.in-Some.ensures.lookup.3.1 in
    let d : slice_get c.in-Some.row.now.by_place.items c.args.place ≡ Some c.in-Some-get.tuples.now = ap (λ l. slice_get l c.args.place) (sym c.deref.ensures.value) ∙ got c.deref.result.now c.args.place c.in-Some-get.tuples.now c.in-Some-get.ensures.lookup.3.0 c.in-Some-get.ensures.lookup.3.1 in
    c.as_slice.ensures.value ∙ sym (tuples_row c.args.rows.now c.args.weight c.args.place c.in-Some.row.now e ∙ list_read c.in-Some.row.now.by_place.items c.args.place c.in-Some-get.tuples.now d)
