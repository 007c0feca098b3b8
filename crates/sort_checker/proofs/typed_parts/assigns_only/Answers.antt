use Rattle.std.proofs.Common.{not, sym, ap, ◌∙◌}
use Rattle.std.specs.Prelude.{is_some}
use Rattle.std.specs.List.{list_all}
use Rattle.sort_checker.specs.NameNumbers.{has_name}
use Rattle.sort_checker.proofs.NameLists.{one_image_fails}
use Rattle.sort_checker.proofs.TypedValues.{name_at, names_assigned}
use Rattle.sort_checker.proofs.typed_parts.assigns_only.Goals as goal

pub returns-then-is_none : goal.returns-then-is_none
returns-then-is_none c =
    sym (ap (list_all (has_name c.args.names.now)) (names_assigned c.args.assignments.now)
    ∙ one_image_fails (has_name c.args.names.now) name_at c.args.assignments.now c.loop-assignment.assignment-index c.assignment-item.result c.loop-assignment-test.true c.assignment-item.is
    (ap (has_name c.args.names.now) (sym c.as_slice.ensures.value) ∙ (ap is_some (sym c.get.ensures) ∙ (c.is_none.ensures ∙ ap not c.if-is_none.true))))
