use Rattle.std.proofs.Common.{◌≡◌, ◌∙◌, Some, None, sym, ap}
use Rattle.std.specs.Prelude.{slice_get}
use Rattle.value_enum.proofs.RowReads.{list_read, list_missing, got, missed}
use Rattle.value_enum.proofs.shapes.constructors_at.Goals as goal

pub returns-in_default : goal.returns-in_default
returns-in_default c =
    let d : slice_get c.args.shapes.now.constructors.items c.args.sort ≡ None = ap (λ l. slice_get l c.args.sort) (sym c.deref.ensures.value) ∙ missed c.deref.result.now c.args.sort c.in_default.ensures.lookup.3 in
    sym (list_missing c.args.shapes.now.constructors.items c.args.sort d)

pub returns : goal.returns
returns c =
    let d : slice_get c.args.shapes.now.constructors.items c.args.sort ≡ Some c.in-Some.constructors.now = ap (λ l. slice_get l c.args.sort) (sym c.deref.ensures.value) ∙ got c.deref.result.now c.args.sort c.in-Some.constructors.now c.in-Some.ensures.lookup.3.0 c.in-Some.ensures.lookup.3.1 in
    c.as_slice.ensures.value ∙ sym (list_read c.args.shapes.now.constructors.items c.args.sort c.in-Some.constructors.now d)
