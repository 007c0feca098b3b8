use Rattle.data_theory.proofs.StructLemmas.{numbers_step}
use Rattle.data_theory.proofs.structs.numbers_of.Goals as goal

pub loop-field-preserved : goal.loop-field-preserved
loop-field-preserved c =
    numbers_step c.args.fields.now c.loop-field.field-index _ c.loop-field-test.true c.args.next.now c.loop-field.next c.next_number.new.next c.loop-field.numbers.items c.push.new.self.items c.next_number.result
    c.loop-field.invariant.0 c.loop-field.invariant.1 c.next_number.ensures.number c.next_number.ensures.next c.in_ok-push.ensures.items
