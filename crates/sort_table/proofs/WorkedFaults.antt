-- The worked refusals.
use Rattle.std.proofs.Common.{[], ◌∷◌, refl, arith}
use Rattle.std.specs.Prelude.{codes}
use Rattle.data_theory.specs.declared.words.ListWord.TheVariants as lists
use Rattle.data_theory.specs.declared.words.Word.TheVariants as words
use Rattle.data_theory.specs.declared.rows.Row.TheVariants as rows
use Rattle.data_theory.specs.Table.{language_table, truth_rows, sort_rows, comparison_rows, sum_rows, first_rows, quotient_rows, extreme_rows, step_rows, list_rows}
use Rattle.sort_table.specs.BareSorts.{naturals, lists_of, a_name}
use Rattle.sort_table.specs.BareProcesses.{delta}
use Rattle.sort_table.specs.BareDeclarations.{actions, initial}
use Rattle.sort_table.specs.SortMeanings.{for_naturals, for_lists, for_alias, no_sorts, and_sort}
use Rattle.sort_table.specs.Duplicates.{an_action, a_variable, a_function, two_of_them, within_one, built_in, action_again, variable_again, IsBuiltIn, lists_of_any}
use Rattle.sort_table.proofs.WorkedEmptySorts.{first_empty_sort}
use Rattle.sort_table.specs.WorkedRefusals.{TheseAreRefused}

tail_is_built_in : IsBuiltIn (codes "tail") (lists_of naturals ∷ [])
unfolding language_table truth_rows sort_rows comparison_rows sum_rows first_rows quotient_rows extreme_rows step_rows list_rows
tail_is_built_in = (rows.One (words.List lists.Tail) lists_of_any lists_of_any, naturals, (69, omega arith, refl), refl, refl)

pub these_are_refused : TheseAreRefused
these_are_refused = (
  record { front = []; declaration = actions (codes "a" ∷ []) (a_name (codes "D") ∷ []); behind = initial delta ∷ []; text = refl; place = refl; known = tt; unknown = refl },
  first_empty_sort,
  ((a_name (codes "B"), (0, omega arith, refl), refl), (lists_of (a_name (codes "A")), (1, omega arith, refl), refl)),
  within_one 0 0 1 (an_action (codes "a") [] ∷ an_action (codes "a") [] ∷ []) (an_action (codes "a") []) (an_action (codes "a") []) refl (omega arith) refl refl (action_again (codes "a") [] [] ([], no_sorts, no_sorts)),
  built_in 1 (a_function (codes "tail") (a_name (codes "L") ∷ []) ∷ []) (codes "tail") (a_name (codes "L") ∷ []) (lists_of naturals ∷ []) refl (0, omega arith, refl)
      (and_sort (a_name (codes "L")) (lists_of naturals) [] [] (for_alias (codes "L") (lists_of naturals) (lists_of naturals) refl (for_lists naturals naturals for_naturals)) no_sorts)
      tail_is_built_in,
  two_of_them 0 1 (a_variable 0 (codes "x") ∷ []) (a_variable 0 (codes "x") ∷ []) (a_variable 0 (codes "x")) (a_variable 0 (codes "x")) (omega arith) refl refl (0, omega arith, refl) (0, omega arith, refl) (variable_again 0 (codes "x")),
)
