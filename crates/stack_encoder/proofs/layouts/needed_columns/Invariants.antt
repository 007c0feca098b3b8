use Rattle.std.proofs.Common.{◌≡◌, [], ◌++◌, map, take}
use Rattle.std.specs.List.{flat_map}
use Rattle.greibach.specs.PlainForms.{plain_equation}
use Rattle.regular_encoder.specs.FormColumns.{places_in}
use Rattle.stack_encoder.specs.StackColumns.{needed_in, numbered_place, unused, with_numbers}
use Rattle.stack_encoder.proofs.layouts.needed_columns.Given as goal

abbrev pub invariant-loop-equation : goal.invariant-loop-equation
invariant-loop-equation l = l.needed.keys ≡ with_numbers [] (unused l.columns (numbered_place (places_in l.places) 1) ++ flat_map (needed_in l.columns (places_in l.places)) (map plain_equation (take l.equation-index l.equations)))
