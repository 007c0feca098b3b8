use Rattle.std.proofs.Common.{sym, ap, ◌∙◌}
use denote.Ref.{Bor}
use Rattle.sort_table.specs.Expressions.{Name}
use Rattle.sort_table.specs.LentTexts.{texts_of}
use Rattle.sort_checker.specs.FreeTrees.{is_free, first_free}
use Rattle.sort_checker.proofs.FreeParts.{found_here, not_here}
use Rattle.sort_checker.proofs.free_variables.free_in_data.Goals as goal

pub returns-then-is_free : goal.returns-then-is_free
returns-then-is_free c =
    sym (ap (first_free c.args.variables.now c.args.left.now) (sym c.in_ok-list.ensures ∙ ap texts_of (sym c.as_slice-name-items.ensures.value))
    ∙ found_here (is_free c.args.variables.now c.args.left.now) (λ (n : Bor Name). n.now) c.as_slice-name-items.result.now c.loop-name.name-index _ c.loop-name-test.true c.loop-name.invariant (sym c.is_free.ensures ∙ c.if-is_free.true))

pub loop-name-preserved : goal.loop-name-preserved
loop-name-preserved c = not_here (is_free c.args.variables.now c.args.left.now) (λ (n : Bor Name). n.now) c.as_slice-name-items.result.now c.loop-name.name-index _ c.loop-name-test.true c.loop-name.invariant (sym c.is_free.ensures ∙ c.if-is_free.false)
