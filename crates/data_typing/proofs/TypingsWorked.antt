-- The worked typings, by computation.
use Rattle.std.proofs.Common.{refl}
use Rattle.data_theory.specs.Table.{language_table, truth_rows, sort_rows, comparison_rows, sum_rows, first_rows, quotient_rows, extreme_rows, step_rows, list_rows}
use Rattle.data_typing.specs.WorkedTypings.{TheseAreTyped}

pub these_are_typed : TheseAreTyped
unfolding language_table truth_rows sort_rows comparison_rows sum_rows first_rows quotient_rows extreme_rows step_rows list_rows
these_are_typed = record {
  exact_sum = refl;
  fitting_sum = refl;
  choice_inferred = refl;
  choice_checked = refl;
  list_inferred = refl;
  nothing_inferred = refl;
  nothing_checked = refl;
  chain_inferred = refl;
  chain_checked = refl;
  lists_differ = refl;
  lists_checked = refl;
  size_of_nothing = refl;
  head_of_nothing = refl;
  negative = refl;
  power_of_two = refl;
  greatest = refl;
  first_overload = refl;
  exact_overload = refl;
  declared_head = refl;
  built_in_head = refl;
  hidden = refl;
  no_narrower = refl;
  no_function = refl;
  own_choice_inferred = refl;
  own_choice_checked = refl;
}
