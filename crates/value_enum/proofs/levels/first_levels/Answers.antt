use Rattle.std.proofs.Common.{◌++◌, ◌∷◌, [], ◌∙◌, length, ap, subst}
use Rattle.value_enum.specs.declared.levels.ValueRow.{ValueRow}
use Rattle.value_enum.specs.Levels.{IsFirstTupleRow}
use Rattle.value_enum.proofs.LevelSteps.{levels_begin}
use Rattle.value_enum.proofs.levels.first_levels.Goals as goal

pub returns-clause-levels : goal.returns-clause-levels
returns-clause-levels c =
    λ g bound ts shapes. (
    let row : ValueRow = record { by_sort = c.new-nothing.result } in
    levels_begin g c.args.shapes.now shapes bound ts _ row c.in_ok-first.first (c.in_ok-push.ensures.items ∙ ap (λ l. l ++ row ∷ []) c.new-values.ensures.items) c.new-nothing.ensures.items
    (c.in_ok-push-2.ensures.items ∙ ap (λ l. l ++ c.in_ok-first.first ∷ []) c.new-tuples.ensures.items) (subst (λ os. IsFirstTupleRow os c.in_ok-first.first) c.as_slice.ensures.value c.in_ok-first.ensures)
    )

pub returns-clause-one : goal.returns-clause-one
returns-clause-one c = ap length c.in_ok-push.ensures.items ∙ ap (λ l. length (l ++ record { by_sort = c.new-nothing.result } ∷ [])) c.new-values.ensures.items
