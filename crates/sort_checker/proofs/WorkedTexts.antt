-- The worked texts, by computation.
use Rattle.std.proofs.Common.{refl}
use Rattle.data_theory.specs.Table.{language_table, truth_rows, sort_rows, comparison_rows, sum_rows, first_rows, quotient_rows, extreme_rows, step_rows, list_rows}
use Rattle.sort_checker.specs.WorkedFaults.{TheseHaveFaults}

pub these_have_faults : TheseHaveFaults
unfolding language_table truth_rows sort_rows comparison_rows sum_rows first_rows quotient_rows extreme_rows step_rows list_rows
these_have_faults = record {
  unknown_in_data = refl;
  unknown_action = refl;
  no_action = refl;
  bound = refl;
  no_sort = refl;
  no_truth = refl;
  argument_missing = refl;
  argument_missing_at_once = refl;
  action_called = refl;
  no_parameter = refl;
  assigned_again = refl;
  called = refl;
  called_at_once = refl;
  new_name_lacks_sorts = refl;
  no_constructor = refl;
  left_out = refl;
  of_another_sort = refl;
  taken_from_the_scope = refl;
  right_side_is_free = refl;
  left_side_is_variable = refl;
  sound_equation = refl;
  scope_has_ended = refl;
  result_lacks_sorts = refl;
  not_apart = refl;
  sound_comm = refl;
  renamed_again = refl;
  smaller_number = refl;
  smaller_of_one = refl;
}
