use Rattle.std.proofs.Common.{◌≡◌, ◌+◌, ◌++◌, ◌∷◌, [], ◌∙◌, true, false, length, get_or, None, ap, arith}
use Rattle.std.specs.Prelude.{is_some}
use Rattle.value_enum.specs.declared.levels.Tuple.{Tuple}
use Rattle.value_enum.proofs.RowReads.{each_list}
use Rattle.value_enum.proofs.RowLemmas.{rows_length}
use Rattle.value_enum.proofs.TupleRows.{IsFirstEntry, first_sort_entry, first_end_entry, first_entries_are_row}
use Rattle.value_enum.proofs.levels.first_tuples.Goals as goal

pub loop-argument-init : goal.loop-argument-init
loop-argument-init c = record { size = ap length c.new-by_place.ensures.items; each = λ p l. absurd (omega (arith, l)) }

pub loop-argument-preserved-then-is_some : goal.loop-argument-preserved-then-is_some
loop-argument-preserved-then-is_some c =
    let some : is_some (get_or c.args.arguments.now c.loop-argument.argument-index None) ≡ true = cc in
    record {
      size = ap length c.in_ok-push.ensures.items ∙ (rows_length c.loop-argument.by_place.items _ ∙ ap (λ n. n + 1) c.loop-argument.invariant.size);
      each = each_list (IsFirstEntry c.args.arguments.now) c.loop-argument.by_place.items c.push.new.self.items _ c.loop-argument.argument-index c.loop-argument.invariant.size c.in_ok-push.ensures.items c.loop-argument.invariant.each
          (first_sort_entry c.args.arguments.now c.loop-argument.argument-index _ some c.new.ensures.items);
    }

pub loop-argument-preserved : goal.loop-argument-preserved
loop-argument-preserved c =
    let none : is_some (get_or c.args.arguments.now c.loop-argument.argument-index None) ≡ false = cc in
    let nothing : Tuple = record { terms = c.new-in-loop-argument.result } in
    record {
      size = ap length c.in_ok-push-3.ensures.items ∙ (rows_length c.loop-argument.by_place.items _ ∙ ap (λ n. n + 1) c.loop-argument.invariant.size);
      each = each_list (IsFirstEntry c.args.arguments.now) c.loop-argument.by_place.items c.push-in-loop-argument-2.new.self.items c.push-in-loop-argument.new.self c.loop-argument.argument-index c.loop-argument.invariant.size c.in_ok-push-3.ensures.items c.loop-argument.invariant.each
          (first_end_entry c.args.arguments.now c.loop-argument.argument-index c.push-in-loop-argument.new.self.items nothing none c.new-in-loop-argument.ensures.items (c.in_ok-push-2.ensures.items ∙ ap (λ l. l ++ nothing ∷ []) c.new-found.ensures.items));
    }

pub returns : goal.returns
returns c = first_entries_are_row c.args.arguments.now c.loop-argument.argument-index _ c.loop-argument-test.false c.loop-argument.invariant.each
