use Rattle.std.proofs.Common.{◌≡◌, ◌∙◌, Some, None, sym, ap}
use Rattle.std.specs.Prelude.{slice_get}
use Rattle.value_enum.proofs.RowReads.{list_read, list_missing, values_row, values_no_row, got, missed}
use Rattle.value_enum.proofs.levels.values_of_weight.Goals as goal

pub returns-in_default : goal.returns-in_default
returns-in_default c = sym (values_no_row c.args.rows.now c.args.weight c.args.sort (missed c.args.rows.now c.args.weight c.in_default.ensures.lookup.3))

pub returns-in_default-get : goal.returns-in_default-get
returns-in_default-get c =
    let e = got c.args.rows.now c.args.weight c.in-Some.row.now c.in-Some.ensures.lookup.3.0 c.in-Some.ensures.lookup.3.1 in
    let d : slice_get c.in-Some.row.now.by_sort.items c.args.sort.0 ≡ None = ap (λ l. slice_get l c.args.sort.0) (sym c.deref.ensures.value) ∙ missed c.deref.result.now c.args.sort.0 c.in_default-get.ensures.lookup.3 in
    sym (values_row c.args.rows.now c.args.weight c.args.sort c.in-Some.row.now e ∙ list_missing c.in-Some.row.now.by_sort.items c.args.sort.0 d)

pub returns : goal.returns
returns c =
    let e = got c.args.rows.now c.args.weight c.in-Some.row.now c.in-Some.ensures.lookup.3.0 c.in-Some.ensures.lookup.3.1 in
    let d : slice_get c.in-Some.row.now.by_sort.items c.args.sort.0 ≡ Some c.in-Some-get.values.now = ap (λ l. slice_get l c.args.sort.0) (sym c.deref.ensures.value) ∙ got c.deref.result.now c.args.sort.0 c.in-Some-get.values.now c.in-Some-get.ensures.lookup.3.0 c.in-Some-get.ensures.lookup.3.1 in
    c.as_slice.ensures.value ∙ sym (values_row c.args.rows.now c.args.weight c.args.sort c.in-Some.row.now e ∙ list_read c.in-Some.row.now.by_sort.items c.args.sort.0 c.in-Some-get.values.now d)
