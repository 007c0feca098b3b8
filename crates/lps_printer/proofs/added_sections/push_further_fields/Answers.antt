use Rattle.lps_printer.proofs.AddedSections.{field_step, fields_end}
use Rattle.lps_printer.proofs.added_sections.push_further_fields.Goals as goal

pub loop-place-preserved : goal.loop-place-preserved
loop-place-preserved c = λ n k final h.
    c.loop-place.invariant n k final (field_step c.args.sig.now n c.args.projections.now c.args.sorts.now c.loop-place.place c.loop-place-test.true c.projection_at.result c.projection_at.ensures c.in_ok-push_token.ensures (c.in_ok-push_field.ensures n k) h)

pub returns : goal.returns
returns c = λ n k. c.loop-place.invariant n k c.loop-place.out.items (fields_end c.args.sig.now n c.args.projections.now c.args.sorts.now c.loop-place.place c.loop-place-test.false c.loop-place.out.items)
