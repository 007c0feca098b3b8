use Rattle.std.proofs.Common.{◌+◌, ◌∙◌, length, ap, arith}
use Rattle.value_enum.proofs.RowReads.{each_list}
use Rattle.value_enum.proofs.RowLemmas.{rows_length}
use Rattle.value_enum.proofs.TupleRows.{IsEntry, end_entry, sort_entry, entries_are_row}
use Rattle.value_enum.proofs.levels.next_tuples.Goals as goal

pub loop-place-init : goal.loop-place-init
loop-place-init c = record { size = ap length c.new-by_place.ensures.items; each = λ p l. absurd (omega (arith, l)) }

pub loop-place-preserved-in_default : goal.loop-place-preserved-in_default
loop-place-preserved-in_default c = record {
  size = ap length c.in_ok-push.ensures.items ∙ (rows_length c.loop-place.by_place.items _ ∙ ap (λ n. n + 1) c.loop-place.invariant.size);
  each = each_list (IsEntry c.args.arguments.now c.args.values.now c.args.tuples.now (length c.args.tuples.now) c.args.bound) c.loop-place.by_place.items c.push.new.self.items _ c.loop-place.place c.loop-place.invariant.size c.in_ok-push.ensures.items c.loop-place.invariant.each
      (end_entry c.args.arguments.now c.args.values.now c.args.tuples.now (length c.args.tuples.now) c.args.bound c.loop-place.place _ c.in_default.not-Some c.new.ensures.items);
}

pub loop-place-preserved : goal.loop-place-preserved
loop-place-preserved c = record {
  size = ap length c.in_ok-push-2.ensures.items ∙ (rows_length c.loop-place.by_place.items _ ∙ ap (λ n. n + 1) c.loop-place.invariant.size);
  each = each_list (IsEntry c.args.arguments.now c.args.values.now c.args.tuples.now (length c.args.tuples.now) c.args.bound) c.loop-place.by_place.items c.push-in-loop-place.new.self.items c.in_ok-found.found c.loop-place.place c.loop-place.invariant.size c.in_ok-push-2.ensures.items c.loop-place.invariant.each
      (sort_entry c.args.arguments.now c.args.values.now c.args.tuples.now (length c.args.tuples.now) c.args.bound c.loop-place.place c.in_ok-found.found.items c.in-Some.sort c.in-Some.is c.in_ok-found.ensures);
}

pub returns : goal.returns
returns c = entries_are_row c.args.arguments.now c.args.values.now c.args.tuples.now (length c.args.tuples.now) c.args.bound c.loop-place.place _ c.loop-place-test.false c.loop-place.invariant.each
