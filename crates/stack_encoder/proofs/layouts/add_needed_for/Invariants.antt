use Rattle.std.proofs.Common.{◌≡◌, ◌-◌, map, drop, length}
use Rattle.greibach.specs.PlainForms.{plain_call}
use Rattle.regular_encoder.specs.FormColumns.{places_in}
use Rattle.stack_encoder.specs.StackColumns.{needed_for, with_numbers}
use Rattle.stack_encoder.proofs.layouts.add_needed_for.Given as goal

abbrev pub invariant-loop-number : goal.invariant-loop-number
invariant-loop-number l = l.needed.keys ≡ with_numbers l.fn.needed.keys (needed_for l.columns (places_in l.places) (map plain_call (drop (length l.next - l.number) l.next)))
