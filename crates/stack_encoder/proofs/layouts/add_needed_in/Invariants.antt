use Rattle.std.proofs.Common.{◌≡◌, map, take}
use Rattle.std.specs.List.{flat_map}
use Rattle.greibach.specs.PlainForms.{plain_form_summand, PlainFormSummand}
use Rattle.regular_encoder.specs.FormColumns.{places_in}
use Rattle.stack_encoder.specs.StackColumns.{needed_for, with_numbers}
use Rattle.stack_encoder.proofs.layouts.add_needed_in.Given as goal

abbrev pub invariant-loop-summand : goal.invariant-loop-summand
invariant-loop-summand l = l.needed.keys ≡ with_numbers l.fn.needed.keys (flat_map (λ (s : PlainFormSummand). needed_for l.columns (places_in l.places) s.next) (map plain_form_summand (take l.summand-index l.summands)))
