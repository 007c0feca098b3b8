use Rattle.sort_table.proofs.Searches.{further, here}
use Rattle.sort_checker.specs.UnknownTrees.{is_unknown_word}
use Rattle.sort_checker.proofs.NameLists.{of_value, of_values, values_listed}
use Rattle.sort_checker.proofs.unknown_names.unknown_in_values.Goals as goal

pub returns-in-Some : goal.returns-in-Some
returns-in-Some c =
    here of_values of_value (is_unknown_word c.args.known.now c.args.scope.now) values_listed c.args.assignments.now c.loop-assignment.assignment-index c.assignment-item.result c.unknown_in_data.result c.in-Some.name c.loop-assignment-test.true c.assignment-item.is c.loop-assignment.invariant c.unknown_in_data.ensures c.in-Some.is

pub loop-assignment-preserved : goal.loop-assignment-preserved
loop-assignment-preserved c =
    further of_values of_value (is_unknown_word c.args.known.now c.args.scope.now) values_listed c.args.assignments.now c.loop-assignment.assignment-index c.assignment-item.result c.unknown_in_data.result c.loop-assignment-test.true c.assignment-item.is c.loop-assignment.invariant c.unknown_in_data.ensures c.in_default.is
